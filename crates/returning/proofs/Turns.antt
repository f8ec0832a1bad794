-- What one printed line does to the sheet that is read into. Assumes nothing.
use Prim.Native.Nat.{ℕ, suc, ◌+◌, ◌-◌, ◌<◌}
use mathlib.Core.Path.{◌≡◌, refl, ap, ◌∙◌}
use mathlib.Core.Bool.{Bool, true, false}
use mathlib.Core.List.{List, ◌∷◌, ◌++◌}
use native.Mathlib.Omega.{arith}
use lib.Dec.{eqb-suc-zero}
use borrow.Author.Tests.{le-leb, eq-eqb}
use Rattle.words.specs.Bytes.{splice, zeros}
use Rattle.sizes.specs.Sizes.{record_len}
use Rattle.listing.specs.Listing.{decimal}
use Rattle.verdicts.specs.Verdict.{record_of}
use Rattle.lines.specs.declared.Test.{Test}
use Rattle.lines.specs.declared.Line.{Line}
use Rattle.lines.specs.declared.Line.TheVariants as line
use Rattle.lines.specs.Words.{version_line, plan_word}
use Rattle.lines.specs.Line.{line_of, description_in}
use Rattle.sheets.specs.Sheet.{entry_start, entry_at, is_record}
use Rattle.std.specs.Prelude.{Ok}
use Rattle.taking.specs.Taking.{StepResult, stepped, is_bad_number, take_later, take_line, take_lines, going_on}
use Rattle.returning.proofs.Heads.{version-read, plan-read}

module _ (chapter year n : ℕ) where
  -- a line that does not stop
  pub goes_on : (before : ℕ) (planned p : Bool) (now then xs : List ℕ) (more : List (List ℕ)) → take_line chapter year n before planned now xs ≡ stepped (Ok p) then
      → take_lines chapter year n before planned now (xs ∷ more) ≡ take_lines chapter year n (suc before) p then more
  unfolding take_lines
  goes_on before planned p now then xs more e =
      ap (λ (r : StepResult). going_on before r (λ (q : Bool). take_lines chapter year n (suc before) q r.sheet more) r.step) e

  pub version-goes : (now : List ℕ) → take_line chapter year n 0 false now version_line ≡ stepped (Ok false) now
  unfolding take_line
  version-goes now = rw (version-read chapter)

  later : (b : ℕ) (planned : Bool) (now xs : List ℕ) (l : Line) → line_of chapter xs ≡ l
      → take_line chapter year n (suc b) planned now xs ≡ take_later chapter year n planned now xs l
  unfolding take_line
  later b planned now xs l e = rw (eqb-suc-zero b, e)

  pub plan-goes : n < 65536 → (b : ℕ) (now : List ℕ) → take_line chapter year n (suc b) false now (plan_word ++ decimal n) ≡ stepped (Ok true) now
  plan-goes h b now = later b false now (plan_word ++ decimal n) (line.Plan n) (plan-read chapter n h) ∙ rw (eq-eqb n n refl)

  -- a test line of number i + 1, whose place is empty
  module _ (i : ℕ) (now : List ℕ) (inside : i < n) (empty : entry_at now i ≡ zeros record_len) (xs : List ℕ) (t : Test) (number_is : t.number ≡ i + 1) where
    back_one : i + 1 - 1 ≡ i
    back_one = omega arith

    fine : is_bad_number n now t.number ≡ false
    fine = rw (number_is, le-leb 1 (i + 1) (omega arith), le-leb (i + 1) n (omega arith), back_one, ap is_record empty)

    pub test-goes : (b : ℕ) → line_of chapter xs ≡ line.Test t
        → take_line chapter year n (suc b) true now xs ≡ stepped (Ok true) (splice now (entry_start i) (record_of t.verdict chapter year (description_in xs t)))
    test-goes b e = later b true now xs (line.Test t) e ∙ rw (fine, number_is, back_one)
