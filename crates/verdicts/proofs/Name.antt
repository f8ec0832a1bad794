-- The name in a record, which is what stands before a zero: its length, and what zeros after it and a cut at its end leave of it. Assumes nothing.
use Prim.Native.Nat.{ℕ, zero, suc, ◌≤◌}
use mathlib.Core.Path.{◌≡◌, refl}
use mathlib.Core.Bool.{Bool, true, false, cond}
use mathlib.Core.List.{List, [], ◌∷◌, ◌++◌}
use native.Mathlib.Omega.{arith}
use lib.ListN.{length, take}
use lib.Dec.{eqb}
use Rattle.words.specs.Bytes.{zeros}
use Rattle.words.proofs.Tests.{by_cases}
use Rattle.text.specs.Fronts.{before}
use Rattle.verdicts.specs.Verdict.{until_zero}

pub until-le : (xs : List ℕ) → until_zero xs ≤ length xs
unfolding before
until-le [] = omega arith
until-le (x ∷ xs) = by_cases (eqb x 0) (λ h. rw h (omega arith)) (λ h. rw h (omega (arith, until-le xs)))

no_zero : (x : ℕ) (xs : List ℕ) → until_zero (x ∷ xs) ≡ length (x ∷ xs) → (eqb x 0 ≡ false) × (until_zero xs ≡ length xs)
unfolding before
no_zero x xs = go (eqb x 0)
  where
    go : (b : Bool) → length (cond b [] (x ∷ before 0 xs)) ≡ suc (length xs) → (b ≡ false) × (until_zero xs ≡ length xs)
    go true h = absurd (omega (arith, h))
    go false h = (refl, omega (arith, h))

-- zeros after a name without one do not belong to it
pub until-append : (xs : List ℕ) (k : ℕ) → until_zero xs ≡ length xs → until_zero (xs ++ zeros k) ≡ length xs
unfolding before
until-append [] zero h = refl
until-append [] (suc k) h = refl
until-append (x ∷ xs) k h = let n = no_zero x xs h in rw (n.0, until-append xs k n.1)

-- what stands before the first zero has none
pub until-take : (xs : List ℕ) → until_zero (take (until_zero xs) xs) ≡ until_zero xs
unfolding before
until-take [] = refl
until-take (x ∷ xs) = by_cases (eqb x 0) (λ h. rw h refl) (λ h. rw (h, h, until-take xs))
