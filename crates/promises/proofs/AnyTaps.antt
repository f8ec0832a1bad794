-- TAP in and out, on every input: what is refused before any ask changes nothing, and a refusal hands out no text. Assumes nothing.
use Prim.Native.Nat.{ℕ, ◌-◌}
use mathlib.Core.Path.{◌≡◌, refl, sym, ap, subst, ◌∙◌}
use mathlib.Core.Logic.{◌≢◌}
use mathlib.Core.List.{List}
use native.Mathlib.Omega.{arith}
use lib.ListN.{length}
use borrow.Author.Tests.{eq-eqb}
use Rattle.words.specs.Bytes.{splice}
use Rattle.sizes.specs.declared.Refusal.{Refusal}
use Rattle.sizes.specs.Refusals.{NoneOf}
use Rattle.sizes.proofs.Rows.{none-applies}
use Rattle.book.specs.MatrixRow.{row_rows, row_checked}
use Rattle.sheets.specs.Sheet.{empty_sheet}
use Rattle.std.specs.Prelude.{Result, Ok, Err}
use Rattle.taking.specs.declared.Trouble.{Trouble}
use Rattle.taking.specs.declared.BadText.{BadText}
use Rattle.taking.specs.Taking.{in_line, take_of}
use Rattle.printing.specs.Printed.{room_of}
use Rattle.printing.specs.Printing.{text_of}
use Rattle.tap.specs.declared.NotRead.TheVariants as not_read
use Rattle.passing.specs.Passing.{SheetResult, pass_of}
use Rattle.tap.specs.Tap.{ReadResult, taken_by, read_text, read_by, read_of, WriteResult, write_rows, write_checked, printed_by, write_by, write_of}
use Rattle.promises.specs.Taps.{AnyTap}

module _ (desk tree : List ℕ) (chapter year first end : ℕ) (draws text : List ℕ) where
  abbrev sheet : List ℕ
  sheet = (take_of chapter year (end - first) text).sheet

  -- once the checks are passed the text decides
  pub text-decides : row_checked desk tree first end draws ≡ Ok tt
      → read_of desk tree chapter year first end draws text ≡ read_text (take_of chapter year (end - first) text).answer desk tree first draws sheet
  text-decides e = ap (λ (o : Result Unit Refusal). read_by o desk tree chapter year first end draws text) e

  bad_text : (t : Trouble) (line : ℕ) → row_checked desk tree first end draws ≡ Ok tt → (take_of chapter year (end - first) text).answer ≡ Err (in_line t line)
      → read_of desk tree chapter year first end draws text ≡ read_text (Err (in_line t line)) desk tree first draws sheet
  bad_text t line e h = text-decides e ∙ ap (λ (a : Result (Unit {0}) BadText). read_text a desk tree first draws sheet) h

-- ---- a text that was read was refused by nothing

pub taken-done : (o : Result Unit Refusal) → taken_by o ≡ Ok tt → o ≡ Ok tt
taken-done (Ok tt) h = refl
taken-done (Err q) h = let z : ◌≡◌ {A = ℕ} 0 1 = cc in absurd (omega arith)

pub taken-same : (o : Result Unit Refusal) (q : Refusal) → taken_by o ≡ Err (not_read.Refused q) → o ≡ Err q
taken-same (Ok tt) q h = let z : ◌≡◌ {A = ℕ} 0 1 = cc in absurd (omega arith)
taken-same (Err p) q h = let k : p ≡ q = cc in ap Err k

not-bad : (o : Result Unit Refusal) (t : Trouble) (line : ℕ) → taken_by o ≢ Err (not_read.Bad (in_line t line))
not-bad (Ok tt) t line h = let z : ◌≡◌ {A = ℕ} 0 1 = cc in omega arith
not-bad (Err q) t line h = let z : ◌≡◌ {A = ℕ} 0 1 = cc in omega arith

module _ (desk tree : List ℕ) (chapter year first end : ℕ) (draws text : List ℕ) where
  pub record WasRead : Type 0 where
    pub checked : row_checked desk tree first end draws ≡ Ok tt
    pub good : (take_of chapter year (end - first) text).answer ≡ Ok tt
    pub passes : (pass_of desk tree first draws (sheet desk tree chapter year first end draws text)).answer ≡ Ok tt

  by-text : (a : Result (Unit {0}) BadText) → (take_of chapter year (end - first) text).answer ≡ a → row_checked desk tree first end draws ≡ Ok tt
      → (read_text a desk tree first draws (sheet desk tree chapter year first end draws text)).answer ≡ Ok tt → WasRead
  by-text (Ok u) k e h = record { checked = e; good = k; passes = taken-done _ h }
  by-text (Err b) k e h = absurd (cc)

  by-checks : (o : Result Unit Refusal) → row_checked desk tree first end draws ≡ o → (read_by o desk tree chapter year first end draws text).answer ≡ Ok tt → WasRead
  by-checks (Err q) e h = let z : ◌≡◌ {A = ℕ} 0 1 = cc in absurd (omega arith)
  by-checks (Ok tt) e h = by-text (take_of chapter year (end - first) text).answer refl e h

  pub was_read : (read_of desk tree chapter year first end draws text).answer ≡ Ok tt → WasRead
  was_read h = by-checks (row_checked desk tree first end draws) refl h

  -- and one that is good is not answered as bad
  pub good-answer : (take_of chapter year (end - first) text).answer ≡ Ok tt → (t : Trouble) (line : ℕ)
      → (read_of desk tree chapter year first end draws text).answer ≢ Err (not_read.Bad (in_line t line))
  good-answer e t line h = go (row_checked desk tree first end draws) h
    where
      go : (o : Result Unit Refusal) → (read_by o desk tree chapter year first end draws text).answer ≡ Err (not_read.Bad (in_line t line)) → ⊥
      go (Err q) k = let z : ◌≡◌ {A = ℕ} 0 1 = cc in omega arith
      go (Ok tt) k =
          not-bad (pass_of desk tree first draws (sheet desk tree chapter year first end draws text)).answer t line
          (sym (ap (λ (a : Result (Unit {0}) BadText). (read_text a desk tree first draws (sheet desk tree chapter year first end draws text)).answer) e) ∙ k)

-- ---- so was one that was written; no text where there is a refusal

not-printed : (q : Refusal) (len : ℕ) → Ok len ≡ Err q → ⊥
not-printed q len h = let z : ◌≡◌ {A = ℕ} 0 1 = cc in omega arith

pub row-checked : (desk tree : List ℕ) (first end : ℕ) (draws out : List ℕ) → write_checked desk tree first end draws out ≡ Ok tt
    → row_checked desk tree first end draws ≡ Ok tt
unfolding write_checked row_checked
row-checked desk tree first end draws out h =
    let n : NoneOf (write_rows desk tree first end draws out) = none-applies (write_rows desk tree first end draws out) h in
    rw (n.0, n.1.0, n.1.1.0) refl

pub write_checked_lem : (desk tree : List ℕ) (first end : ℕ) (draws out : List ℕ) → row_checked desk tree first end draws ≡ Ok tt
    → length out ≡ room_of (end - first) → write_checked desk tree first end draws out ≡ Ok tt
unfolding write_checked row_checked
write_checked_lem desk tree first end draws out h l =
    let n : NoneOf (row_rows desk tree first end draws) = none-applies (row_rows desk tree first end draws) h in
    rw (n.0, n.1.0, n.1.1.0, eq-eqb (length out) (room_of (end - first)) l) refl

module _ (chapter n : ℕ) (r : SheetResult) (out : List ℕ) where
  kept_by : (q : Refusal) (o : Result Unit Refusal) → (printed_by o chapter n r out).answer ≡ Err q → (printed_by o chapter n r out).out ≡ out
  kept_by q (Err p) h = refl
  kept_by q (Ok tt) h = absurd (not-printed q _ h)

  pub printed-same : (q : Refusal) (o : Result Unit Refusal) → (printed_by o chapter n r out).answer ≡ Err q → o ≡ Err q
  printed-same q (Ok tt) h = absurd (not-printed q _ h)
  printed-same q (Err p) h = let k : p ≡ q = cc in ap Err k

  -- what a text that is written is
  pub record Says (len : ℕ) (now : List ℕ) : Type 0 where
    pub passes : r.answer ≡ Ok tt
    pub length-is : len ≡ length (text_of chapter n r.sheet)
    pub out_is : now ≡ splice out 0 (text_of chapter n r.sheet)

  says-by : (len : ℕ) (o : Result Unit Refusal) → r.answer ≡ o → (printed_by o chapter n r out).answer ≡ Ok len → Says len (printed_by o chapter n r out).out
  says-by len (Err p) e h = absurd (not-printed p len (sym h))
  says-by len (Ok tt) e h = record { passes = e; length-is = cc; out_is = refl }

module _ (desk tree : List ℕ) (chapter first end : ℕ) (draws out : List ℕ) where
  abbrev pub written : SheetResult
  written = pass_of desk tree first draws (empty_sheet (end - first))

  kept_out : (q : Refusal) (o : Result Unit Refusal) → (write_by o desk tree chapter first end draws out).answer ≡ Err q
      → (write_by o desk tree chapter first end draws out).out ≡ out
  kept_out q (Err p) h = refl
  kept_out q (Ok tt) h = kept_by chapter (end - first) written out q written.answer h

  pub record WasWritten (len : ℕ) : Type 0 where
    pub checked : write_checked desk tree first end draws out ≡ Ok tt
    pub says : Says chapter (end - first) written out len (write_of desk tree chapter first end draws out).out

  pub was-written : (len : ℕ) → (write_of desk tree chapter first end draws out).answer ≡ Ok len → WasWritten len
  was-written len h = go (write_checked desk tree first end draws out) refl
    where
      go : (o : Result Unit Refusal) → write_checked desk tree first end draws out ≡ o → WasWritten len
      go (Err q) e =
          absurd (not-printed q len (sym (sym (ap (λ (x : Result Unit Refusal). (write_by x desk tree chapter first end draws out).answer) e) ∙ h)))
      go (Ok tt) e =
          let w = ap (λ (x : Result Unit Refusal). write_by x desk tree chapter first end draws out) e in
          record {
            checked = e;
            says =
                subst (Says chapter (end - first) written out len) (sym (ap (λ (r : WriteResult). r.out) w))
                (says-by chapter (end - first) written out len written.answer refl (sym (ap (λ (r : WriteResult). r.answer) w) ∙ h));
          }

pub any_tap : AnyTap
any_tap =
    record {
      read_refuses =
          λ desk tree chapter year first end draws text q e.
          let w = ap (λ (o : Result Unit Refusal). read_by o desk tree chapter year first end draws text) e in
          (ap (λ (r : ReadResult). r.answer) w, ap (λ (r : ReadResult). r.desk) w, ap (λ (r : ReadResult). r.tree) w);
      write_refuses =
          λ desk tree chapter first end draws out q e.
          let w = ap (λ (o : Result Unit Refusal). write_by o desk tree chapter first end draws out) e in
          (ap (λ (r : WriteResult). r.answer) w, ap (λ (r : WriteResult). r.desk) w, ap (λ (r : WriteResult). r.tree) w);
      bad_text =
          λ desk tree chapter year first end draws text t line e h.
          let w = bad_text desk tree chapter year first end draws text t line e h in
          (ap (λ (r : ReadResult). r.answer) w, ap (λ (r : ReadResult). r.desk) w, ap (λ (r : ReadResult). r.tree) w);
      no_text = λ desk tree chapter first end draws out q h. kept_out desk tree chapter first end draws out q (write_checked desk tree first end draws out) h;
    }
