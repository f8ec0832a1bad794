-- What the functions of TAP answer: their numbers fit, so that they are read back as they were, and a text is never longer than its buffer. Assumes nothing.
use Rattle.std.specs.Prelude.{Err, Ok, Result}
use Rattle.sizes.specs.declared.Refusal.{Refusal}
use Prim.Native.Nat.{ℕ, ◌+◌, ◌-◌, ◌^◌, ◌≤◌, ◌<◌}
use mathlib.Core.Path.{◌≡◌, refl, sym, ap, ◌∙◌}
use mathlib.Core.List.{List, ◌++◌}
use native.Mathlib.Omega.{arith}
use lib.IntN.{ℤ}
use lib.ListN.{length, take, drop, length-append}
use mir.Syntax.{w32}
use mir.Val.{SFits, to_z, of_z}
use Rattle.words.specs.Bytes.{splice}
use Rattle.taking.specs.declared.Trouble.{Trouble}
use Rattle.taking.specs.declared.Trouble.TheVariants.{Malformed, BadPlan}
use Rattle.taking.specs.Taking.{trouble_number}
use Rattle.printing.specs.Printing.{text_of}
use Rattle.sheets.specs.Sheet.{empty_sheet}
use Rattle.tap.specs.declared.NotRead.{NotRead}
use Rattle.tap.specs.declared.NotRead.TheVariants as not_read
use Rattle.passing.specs.Passing.{SheetResult, pass_of}
use Rattle.tap.specs.Tap.{WriteResult, wrote, write_checked, printed_by, write_by, write_of}
use Rattle.tap.proofs.TextWritten.{write-passed}
use Rattle.exports.specs.TapCodes.{trouble_code, taken_code}
use Rattle.exports.proofs.Signed.{minus-fits, back, code-back}

-- ---- reading

trouble-most : (t : Trouble) → trouble_number t ≤ 13
trouble-most Malformed = omega arith
trouble-most BadPlan = omega arith

trouble-fits : (t : Trouble) → SFits w32 (trouble_code t)
unfolding trouble_code
trouble-fits t = minus-fits (trouble_number t) (omega (arith, trouble-most t))

pub trouble-back : (t : Trouble) {z : ℤ} → z ≡ trouble_code t → to_z w32 (of_z w32 z) ≡ trouble_code t
trouble-back t e = ap (λ (z : ℤ). to_z w32 (of_z w32 z)) e ∙ back (trouble-fits t)

pub taken_back : (a : Result Unit NotRead) {z : ℤ} → z ≡ taken_code a → to_z w32 (of_z w32 z) ≡ taken_code a
unfolding taken_code
taken_back (Ok tt) e = ap (λ (z : ℤ). to_z w32 (of_z w32 z)) e
taken_back (Err (not_read.Refused q)) e = code-back q e
taken_back (Err (not_read.Bad b)) e = trouble-back b.trouble e

-- ---- writing

splice-long : (xs ys : List ℕ) → length ys ≤ length (splice xs 0 ys)
unfolding splice
splice-long xs ys = omega (arith, length-append (take 0 xs) (ys ++ drop (0 + length ys) xs), length-append ys (drop (0 + length ys) xs))

-- what was handed out has the buffer's length, and the text lies in it
by-pass : (chapter n : ℕ) (r : SheetResult) (out d t o : List ℕ) (len : ℕ) → length o ≡ length out → (x : Result Unit Refusal)
    → wrote (Ok len) d t o ≡ printed_by x chapter n r out → len ≤ length out
by-pass chapter n r out d t o len k (Err q) e =
    let a : Ok len ≡ Err q = ap (λ (w : WriteResult). w.answer) e in
    let z : ◌≡◌ {A = ℕ} 0 1 = cc in
    absurd (omega arith)
by-pass chapter n r out d t o len k (Ok tt) e =
    let ys = text_of chapter n r.sheet in
    let a : Ok len ≡ Ok (length ys) = ap (λ (w : WriteResult). w.answer) e in
    let l : len ≡ length ys = cc in
    let m : length o ≡ length (splice out 0 ys) = ap (λ (w : WriteResult). length w.out) e in
    omega (arith, l, m, k, splice-long out ys)

module _ (desk tree : List ℕ) (chapter first end : ℕ) (draws out d t o : List ℕ) (len : ℕ) (high : end < 65536) (k : length o ≡ length out) where
  by-checks : (x : Result Unit Refusal) → write_checked desk tree first end draws out ≡ x
      → wrote (Ok len) d t o ≡ write_by x desk tree chapter first end draws out → len < 2 ^ 31
  by-checks (Err q) h e =
      let a : Ok len ≡ Err q = ap (λ (w : WriteResult). w.answer) e in
      let z : ◌≡◌ {A = ℕ} 0 1 = cc in
      absurd (omega arith)
  by-checks (Ok tt) h e =
      let r = pass_of desk tree first draws (empty_sheet (end - first)) in
      omega (arith, by-pass chapter (end - first) r out d t o len k r.answer e, (write-passed h).room, high)

  pub write-short : {a : Result ℕ Refusal} → a ≡ Ok len → wrote a d t o ≡ write_of desk tree chapter first end draws out → len < 2 ^ 31
  write-short h e = by-checks (write_checked desk tree first end draws out) refl (ap (λ (a : Result ℕ Refusal). wrote a d t o) (sym h) ∙ e)
