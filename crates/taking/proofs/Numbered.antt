-- The number of a test line, and its record in the number's place. Assumes nothing.
use Prim.Native.Nat.{ℕ, ◌+◌, ◌-◌, ◌*◌, ◌≤◌}
use mathlib.Core.Path.{◌≡◌, refl, sym, ap, ◌∙◌}
use mathlib.Core.Bool.{Bool, true, false, not, ◌&&◌, ◌||◌}
use mathlib.Core.List.{List, ◌++◌}
use native.Mathlib.Omega.{arith}
use lib.ListN.{length, take, drop}
use lib.Dec.{leb}
use borrow.Author.Tests.{leb-true, not-false, eq-eqb}
use Rattle.words.specs.Bytes.{part}
use Rattle.words.proofs.Splice.{spliced, length_part}
use Rattle.words.proofs.Tests.{and_left, and_right}
use Rattle.sizes.specs.Sizes.{record_len}
use Rattle.verdicts.specs.Verdict.{record_of, can_be_read, MakeResult, making, make_of}
use Rattle.lines.specs.declared.Test.{Test}
use Rattle.lines.specs.Line.{description_in}
use Rattle.sheets.specs.Sheet.{entry_start, is_record}
use Rattle.taking.specs.declared.Trouble.TheVariants.{BadPlan}
use Rattle.std.specs.Prelude.{Ok, Err}
use Rattle.taking.specs.Taking.{stepped, is_bad_number, take_test}

pub record Within (n k : ℕ) : Type 0 where
  pub from_one : 1 ≤ k
  pub to_last : k ≤ n

pub within : (n k : ℕ) → not (leb 1 k && leb k n) ≡ false → Within n k
within n k h =
    let b = not-false (leb 1 k && leb k n) h in
    record { from_one = leb-true _ _ (and_left _ _ b); to_last = leb-true _ _ (and_right (leb 1 k) _ b) }

module _ (n : ℕ) (sheet : List ℕ) (k : ℕ) where
  -- none of 1 to n
  pub outside : not (leb 1 k && leb k n) ≡ true → true ≡ is_bad_number n sheet k
  outside h = rw h

  -- one of them: by the entry in its place
  pub by_place : not (leb 1 k && leb k n) ≡ false → {r : Bool} (m : ℕ) → m ≡ record_len → r ≡ is_record (part sheet (entry_start (k - 1)) m) → r ≡ is_bad_number n sheet k
  by_place h m e g = g ∙ rw (h, e)

  pub good-within : is_bad_number n sheet k ≡ false → Within n k
  good-within h = within n k (left (not (leb 1 k && leb k n)) _ h)
    where
      left : (a b : Bool) → (a || b) ≡ false → a ≡ false
      left false b h = refl
      left true b h = h

module _ (chapter year n : ℕ) (planned : Bool) (sheet xs : List ℕ) (t : Test) where
  pub number-refused : {r : Bool} → r ≡ is_bad_number n sheet t.number → r ≡ true → stepped (Err BadPlan) sheet ≡ take_test chapter year n planned sheet xs t
  number-refused g h = rw (sym g ∙ h)

  module _ (good : is_bad_number n sheet t.number ≡ false) (long : length sheet ≡ n * record_len) (can : can_be_read chapter (description_in xs t) ≡ true) where
    room : entry_start (t.number - 1) + record_len ≤ length sheet
    room = let w = good-within n sheet t.number good in omega (arith, w.from_one, w.to_last, long)

    -- what is made there
    made-is : {made : Bool} {ys : List ℕ} → making made ys ≡ make_of (part sheet (entry_start (t.number - 1)) record_len) t.verdict chapter year (description_in xs t)
        → ys ≡ record_of t.verdict chapter year (description_in xs t)
    made-is h = ap (λ (r : MakeResult). r.buffer) h ∙ rw (eq-eqb _ _ (length_part sheet (entry_start (t.number - 1)) record_len room), can)

    pub number-taken : {made : Bool} {ys : List ℕ} (m l : ℕ) → m ≡ record_len → l ≡ t.length
        → making made ys ≡ make_of (part sheet (entry_start (t.number - 1)) m) t.verdict chapter year (part xs t.from l) → length ys ≡ length (part sheet (entry_start (t.number - 1)) m)
        → stepped (Ok planned) (take (entry_start (t.number - 1)) sheet ++ (ys ++ drop m (drop (entry_start (t.number - 1)) sheet))) ≡ take_test chapter year n planned sheet xs t
    number-taken {ys = ys} m l e f h k =
        ap (λ (s : List ℕ). stepped (Ok planned) s) (spliced sheet (entry_start (t.number - 1)) m ys (k ∙ length_part sheet (entry_start (t.number - 1)) m (omega (arith, e, room)))) ∙ rw (good, made-is (h ∙ rw (e, f)))
