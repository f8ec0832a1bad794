-- One line of a text: the first is the version's, and a later one goes by what it says. Assumes nothing.
use Prim.Native.Nat.{ℕ, ◌+◌}
use mathlib.Core.Path.{◌≡◌, ◌∙◌}
use mathlib.Core.Bool.{Bool, true, false, ◌&&◌}
use mathlib.Core.List.{List}
use lib.ListN.{length, drop, get_or}
use lib.Dec.{leb, eqb}
use borrow.Author.Tests.{eq-eqb, ne_eqb}
use Rattle.words.specs.Bytes.{same}
use Rattle.words.proofs.Tests.{by_cases}
use Rattle.text.specs.Fronts.{begins, digits, value}
use Rattle.verdicts.specs.Verdict.{can_be_read}
use Rattle.lines.specs.declared.Test.{Test}
use Rattle.lines.specs.declared.Line.{Line}
use Rattle.lines.specs.declared.Line.TheVariants as line
use Rattle.lines.specs.Words.{hash, version_line, plan_word, ok_word, not_ok_word}
use Rattle.lines.specs.Line.{capped, ends_number, only_spaces, description_at, test_from, description_in, held_by, test_after, plan_after, line_of}
use Rattle.std.specs.Prelude.{Result}
use Rattle.taking.specs.declared.Trouble.{Trouble}
use Rattle.taking.specs.Taking.{StepResult, stepped, take_first, take_later, take_line}

-- ---- a test line's description can be held by a record

record Held (chapter : ℕ) (xs : List ℕ) (l : Line) : Type 0 where
  of_test : (t : Test) → l ≡ line.Test t → can_be_read chapter (description_in xs t) ≡ true

module _ (chapter : ℕ) (xs : List ℕ) where
  version : Held chapter xs line.Version
  version = record { of_test = λ t e. cc }

  plan : (k : ℕ) → Held chapter xs (line.Plan k)
  plan k = record { of_test = λ t e. cc }

  comment : Held chapter xs line.Comment
  comment = record { of_test = λ t e. cc }

  malformed : Held chapter xs line.Malformed
  malformed = record { of_test = λ t e. cc }

  test : (t : Test) → can_be_read chapter (description_in xs t) ≡ true → Held chapter xs (line.Test t)
  test t h = record { of_test = λ u e. cc }

  test-held : (t : Test) → Held chapter xs (held_by chapter xs t)
  test-held t = by_cases (can_be_read chapter (description_in xs t)) (λ e. rw e (test t e)) (λ e. rw e malformed)

  after-held : (ok : Bool) (w : ℕ) → Held chapter xs (test_after chapter ok w xs)
  unfolding test_after
  after-held ok w =
      let n = length (digits (drop w xs)) in
      by_cases (leb 1 n && ends_number (w + n) xs) (λ e. rw e (test-held (test_from ok (capped (value 0 (digits (drop w xs)))) xs (description_at (w + n) xs)))) (λ e. rw e malformed)

  plan-held : (ys : List ℕ) → Held chapter xs (plan_after ys)
  unfolding plan_after
  plan-held ys =
      let n = length (digits ys) in
      by_cases (leb 1 n && only_spaces (drop n ys)) (λ e. rw e (plan _)) (λ e. rw e malformed)

  held : Held chapter xs (line_of chapter xs)
  unfolding line_of
  held =
      by_cases (same xs version_line) (λ e. rw e version)
      (λ e. rw e (by_cases (eqb (get_or xs 0 0) hash) (λ e. rw e comment)
      (λ e. rw e (by_cases (begins xs ok_word) (λ e. rw e (after-held true (length ok_word)))
      (λ e. rw e (by_cases (begins xs not_ok_word) (λ e. rw e (after-held false (length not_ok_word)))
      (λ e. rw e (by_cases (begins xs plan_word) (λ e. rw e (plan-held (drop (length plan_word) xs))) (λ e. rw e malformed)))))))))

  pub test-readable : (t : Test) → line_of chapter xs ≡ line.Test t → can_be_read chapter (description_in xs t) ≡ true
  test-readable t e = held.of_test t e

-- ---- what a line does

module _ (chapter year n before : ℕ) (planned : Bool) (sheet xs : List ℕ) {l : Line} (e : l ≡ line_of chapter xs) where
  pub first-line : before ≡ 0 → {s : Result Bool Trouble} → s ≡ take_first l → stepped s sheet ≡ take_line chapter year n before planned sheet xs
  unfolding take_line
  first-line z g = rw (g, eq-eqb _ _ z, e)

  pub later-line : (before ≡ 0 → ⊥) → {r : StepResult} → r ≡ take_later chapter year n planned sheet xs l → r ≡ take_line chapter year n before planned sheet xs
  unfolding take_line
  later-line z g = g ∙ rw (ne_eqb _ _ z, e)
