-- Those of a list that pass a test, and those that fail it. Assumes nothing.
use Prim.Native.Nat.{◌+◌, ◌≤◌}
use mathlib.Core.Path.{◌≡◌, refl}
use mathlib.Core.Bool.{Bool, true, false, not, ◌&&◌}
use mathlib.Core.List.{List, [], ◌∷◌, ◌++◌}
use native.Mathlib.Omega.{arith}
use Rattle.words.proofs.Tests.{by_cases}
use Rattle.bags.specs.Bags.{cnt, those, All}

module _ {A : Type 0} (t : A → Bool) where
  pub those-append : (xs ys : List A) → those t (xs ++ ys) ≡ those t xs ++ those t ys
  unfolding those
  those-append [] ys = refl
  those-append (x ∷ xs) ys = by_cases (t x) (λ e. rw (e, those-append xs ys)) (λ e. rw (e, those-append xs ys))

  -- all of them, where all pass; none, where none does
  pub those-all : (xs : List A) → All t xs → those t xs ≡ xs
  unfolding those
  those-all [] a = refl
  those-all (x ∷ xs) a = rw (a.0, those-all xs a.1)

  pub those-none : (xs : List A) → cnt t xs ≡ 0 → those t xs ≡ []
  unfolding those
  those-none [] h = refl
  those-none (x ∷ xs) h = by_cases (t x) (λ e. absurd (omega (arith, rw e at h))) (λ e. rw e (those-none xs (omega (arith, rw e at h))))

  -- no more of them pass another test; none, if it is passed by no other
  pub cnt-those-le : (s : A → Bool) (xs : List A) → cnt s (those t xs) ≤ cnt s xs
  unfolding those
  cnt-those-le s [] = omega arith
  cnt-those-le s (x ∷ xs) = by_cases (t x) (λ e. rw e (omega (arith, cnt-those-le s xs))) (λ e. rw e (omega (arith, cnt-those-le s xs)))

  pub cnt-those-none : (s : A → Bool) (xs : List A) → ((x : A) → t x ≡ true → s x ≡ false) → cnt s (those t xs) ≡ 0
  unfolding those
  cnt-those-none s [] h = refl
  cnt-those-none s (x ∷ xs) h = by_cases (t x) (λ e. rw (e, h x e) (omega (arith, cnt-those-none s xs h))) (λ e. rw e (cnt-those-none s xs h))

module _ {A : Type 0} where
  -- those that fail a test, and those that pass it
  pub cnt-others : (q t : A → Bool) (xs : List A) → cnt t (those (λ x. not (q x)) xs) + cnt (λ x. q x && t x) xs ≡ cnt t xs
  unfolding those
  cnt-others q t [] = refl
  cnt-others q t (x ∷ xs) = by_cases (q x) (λ e. rw e (omega (arith, cnt-others q t xs))) (λ e. rw e (omega (arith, cnt-others q t xs)))
