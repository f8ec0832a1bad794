-- Lists as bags, by counting: how many pass a test; two lists hold the same if every test passes equally often in both. Assumes nothing.
use Rattle.std.specs.Prelude.{ℕ, ◌+◌, ◌≡◌, Bool, true, false, List, [], ◌∷◌, ◌++◌}

abbrev pub bit : Bool → ℕ
bit true = 1
bit false = 0

module _ {A : Type 0} where
  -- how many pass a test
  abbrev pub cnt : (A → Bool) → List A → ℕ
  cnt t [] = 0
  cnt t (x ∷ xs) = bit (t x) + cnt t xs

  abbrev pub choose : Bool → List A → List A → List A
  choose true xs ys = xs
  choose false xs ys = ys

  -- those that pass a test, in their order
  unfoldable pub those : (A → Bool) → List A → List A
  those t [] = []
  those t (x ∷ xs) = choose (t x) (x ∷ those t xs) (those t xs)

  -- lists one behind the other
  abbrev pub flat : List (List A) → List A
  flat [] = []
  flat (x ∷ xs) = x ++ flat xs

  -- the same elements, each as often
  abbrev pub Same : List A → List A → Type 0
  Same xs ys = (t : A → Bool) → cnt t xs ≡ cnt t ys

  -- all pass a test; of all a statement holds
  abbrev pub All : (A → Bool) → List A → Type 0
  All t [] = Unit {0}
  All t (x ∷ xs) = (t x ≡ true) × All t xs

  abbrev pub AllOf : (A → Type 0) → List A → Type 0
  AllOf P [] = Unit {0}
  AllOf P (x ∷ xs) = P x × AllOf P xs
