-- The sheet that a text comes to has a record's room for each number. Assumes nothing.
use Prim.Native.Nat.{ℕ, suc, ◌-◌, ◌*◌, ◌≤◌}
use mathlib.Core.Path.{◌≡◌, refl, ◌∙◌}
use mathlib.Core.Bool.{Bool, true, false}
use mathlib.Core.List.{List, [], ◌∷◌}
use native.Mathlib.Omega.{arith}
use lib.ListN.{length}
use lib.Dec.{leb, eqb}
use borrow.Author.Tests.{leb-true}
use Rattle.words.proofs.Tests.{by_cases, each}
use Rattle.words.proofs.Splice.{length-splice, length-zeros}
use Rattle.sizes.specs.Sizes.{record_len}
use Rattle.window.specs.Pieces.{lines_of}
use Rattle.verdicts.specs.Verdict.{most_name, most_chapter, until_zero, can_be_read, record_of}
use Rattle.verdicts.proofs.Written.{length-record}
use Rattle.lines.specs.declared.Test.{Test}
use Rattle.lines.specs.declared.Line.{Line}
use Rattle.lines.specs.declared.Line.TheVariants as line
use Rattle.lines.specs.Line.{line_of, description_in}
use Rattle.sheets.specs.Sheet.{entry_start, empty_sheet}
use Rattle.std.specs.Prelude.{Result, Ok, Err}
use Rattle.taking.specs.declared.Trouble.{Trouble}
use Rattle.taking.specs.Taking.{StepResult, is_bad_number, take_test, take_later, take_line, TextResult, going_on, take_lines, take_of}
use Rattle.taking.proofs.OneLine.{test-readable}
use Rattle.taking.proofs.Numbered.{good-within}

-- a description that a record can hold is short
short : (chapter : ℕ) (name : List ℕ) → can_be_read chapter name ≡ true → length name ≤ most_name
unfolding can_be_read
short chapter name h = leb-true _ _ (each (leb chapter most_chapter ∷ leb (length name) most_name ∷ eqb (until_zero name) (length name) ∷ []) h).1.0

module _ (chapter year n : ℕ) where
  abbrev Long : List ℕ → Type 0
  Long sheet = length sheet ≡ n * record_len

  module _ (planned : Bool) (sheet xs : List ℕ) (long : Long sheet) where
    test-long : (t : Test) → can_be_read chapter (description_in xs t) ≡ true → Long (take_test chapter year n planned sheet xs t).sheet
    test-long t can =
        by_cases (is_bad_number n sheet t.number)
        (λ e. rw e long)
        (λ e.
        let w = good-within n sheet t.number e in
        let l = length-record t.verdict chapter year (description_in xs t) (short chapter (description_in xs t) can) in
        rw e (length-splice sheet (entry_start (t.number - 1)) (record_of t.verdict chapter year (description_in xs t)) (omega (arith, w.from_one, w.to_last)) ∙ long))

    later-long : (l : Line) → line_of chapter xs ≡ l → Long (take_later chapter year n planned sheet xs l).sheet
    later-long line.Version e = long
    later-long (line.Plan k) e = long
    later-long (line.Test t) e = test-long t (test-readable chapter xs t e)
    later-long line.Comment e = long
    later-long line.Malformed e = long

    line-long : (before : ℕ) → Long (take_line chapter year n before planned sheet xs).sheet
    unfolding take_line
    line-long before = by_cases (eqb before 0) (λ e. rw e long) (λ e. rw e (later-long (line_of chapter xs) refl))

  on-long : (before : ℕ) (r : StepResult) (more : Bool → TextResult) → Long r.sheet → ((p : Bool) → Long (more p).sheet) → (s : Result Bool Trouble)
      → Long (going_on before r more s).sheet
  on-long before r more h f (Ok p) = f p
  on-long before r more h f (Err t) = h

  lines_long : (before : ℕ) (planned : Bool) (sheet : List ℕ) (xss : List (List ℕ)) → Long sheet → Long (take_lines chapter year n before planned sheet xss).sheet
  unfolding take_lines
  lines_long before planned sheet [] long = long
  lines_long before planned sheet (xs ∷ more) long =
      let r = take_line chapter year n before planned sheet xs in
      let h = line-long planned sheet xs long before in
      on-long before r (λ p. take_lines chapter year n (suc before) p r.sheet more) h (λ p. lines_long (suc before) p r.sheet more h) r.step

  pub taken-long : (text : List ℕ) → Long (take_of chapter year n text).sheet
  taken-long text = lines_long 0 false (empty_sheet n) (lines_of text) (length-zeros (n * record_len))
