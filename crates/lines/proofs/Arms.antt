-- What a plan and a test line come to, by what was found in them. Assumes nothing.
use Prim.Native.Nat.{ℕ, ◌+◌, ◌-◌, ◌≤◌}
use mathlib.Core.Path.{◌≡◌, sym, ap, subst, ◌∙◌}
use mathlib.Core.Bool.{Bool, true, false, cond, ◌&&◌, and-false}
use mathlib.Core.List.{List}
use native.Mathlib.Omega.{arith}
use borrow.Author.Tests.{le-leb}
use lib.ListN.{length, drop}
use lib.Dec.{leb}
use Rattle.words.specs.Bytes.{part}
use Rattle.verdicts.specs.Verdict.{can_be_read}
use Rattle.lines.specs.declared.Count.{Count}
use Rattle.lines.specs.declared.Test.{Test}
use Rattle.lines.specs.declared.Line.{Line}
use Rattle.lines.specs.declared.Line.TheVariants as line
use Rattle.lines.specs.Line.{only_spaces, count_of, ends_number, description_at, test_from, held_by, test_by, test_after, plan_by, plan_after, Inside}
use Rattle.lines.proofs.Tails.{tail-is}

-- ---- the plan

module _ (xs : List ℕ) (r : Count) where
  by-plan : r ≡ count_of xs → plan_by xs r ≡ plan_after xs
  unfolding plan_after
  by-plan e = ap (plan_by xs) e

  pub plan-none : r ≡ count_of xs → r.length ≡ 0 → line.Malformed ≡ plan_after xs
  plan-none e z = let m : line.Malformed ≡ plan_by xs r = rw z in m ∙ by-plan e

  module _ (t : Bool) (e : (r ≡ count_of xs) × (r.length ≤ length xs)) (o : t ≡ only_spaces (part xs r.length (length xs - r.length))) where
    behind : only_spaces (drop r.length xs) ≡ t
    behind = ap only_spaces (sym (tail-is xs r.length e.1)) ∙ sym o

    pub plan-tail : t ≡ false → line.Malformed ≡ plan_after xs
    plan-tail f = let m : line.Malformed ≡ plan_by xs r = rw (behind ∙ f, and-false) in m ∙ by-plan e.0

    pub plan-good : 1 ≤ r.length → t ≡ true → line.Plan r.value ≡ plan_after xs
    plan-good h f = let m : line.Plan r.value ≡ plan_by xs r = rw (le-leb 1 r.length h, behind ∙ f) in m ∙ by-plan e.0

-- it is a plan or malformed, so that no description is to be inside
pub plan-inside : (n : ℕ) (xs : List ℕ) (r : Line) → r ≡ plan_after xs → Inside n r
unfolding plan_after
plan-inside n xs r e = subst (Inside n) (sym e) (by (leb 1 (count_of xs).length && only_spaces (drop (count_of xs).length xs)) (count_of xs).value)
  where
    by : (t : Bool) (v : ℕ) → Inside n (cond t (line.Plan v) line.Malformed)
    by true v = tt
    by false v = tt

-- ---- a test line

module _ (chapter : ℕ) (ok : Bool) (w : ℕ) (xs : List ℕ) (h : w ≤ length xs) (r : Count) (e : r ≡ count_of (part xs w (length xs - w))) where
  by-test : test_by chapter ok w xs r ≡ test_after chapter ok w xs
  unfolding test_after
  by-test = ap (test_by chapter ok w xs) (e ∙ ap count_of (tail-is xs w h))

  pub test-none : r.length ≡ 0 → line.Malformed ≡ test_after chapter ok w xs
  test-none z = let m : line.Malformed ≡ test_by chapter ok w xs r = rw z in m ∙ by-test

  module _ (t : Bool) (o : t ≡ ends_number (w + r.length) xs) where
    pub test-joined : t ≡ false → line.Malformed ≡ test_after chapter ok w xs
    test-joined f = let m : line.Malformed ≡ test_by chapter ok w xs r = rw (sym o ∙ f, and-false) in m ∙ by-test

    module _ (k : 1 ≤ r.length) (f : t ≡ true) (q : Test) (g : q ≡ test_from ok r.value xs (description_at (w + r.length) xs))
        (b : Bool) (d : b ≡ can_be_read chapter (part xs q.from (q.from + q.length - q.from))) where
      name_is : can_be_read chapter (part xs q.from q.length) ≡ b
      name_is = let n : q.length ≡ q.from + q.length - q.from = omega arith in ap (λ (m : ℕ). can_be_read chapter (part xs q.from m)) n ∙ sym d

      by-held : held_by chapter xs q ≡ test_after chapter ok w xs
      by-held =
          let m : held_by chapter xs (test_from ok r.value xs (description_at (w + r.length) xs)) ≡ test_by chapter ok w xs r =
          rw (le-leb 1 r.length k, sym o ∙ f) in
          ap (held_by chapter xs) g ∙ m ∙ by-test

      pub test-unheld : b ≡ false → line.Malformed ≡ test_after chapter ok w xs
      test-unheld n = let m : line.Malformed ≡ held_by chapter xs q = rw (name_is ∙ n) in m ∙ by-held

      pub test-held : b ≡ true → line.Test q ≡ test_after chapter ok w xs
      test-held n = let m : line.Test q ≡ held_by chapter xs q = rw (name_is ∙ n) in m ∙ by-held
