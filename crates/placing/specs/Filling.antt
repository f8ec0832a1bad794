-- Filling buckets one after another, each with the first elements that pass its test, up to z. Assumes nothing.
use Rattle.std.specs.Prelude.{ℕ, zero, suc, ◌≤◌, Bool, List, [], ◌∷◌, length}
use Rattle.bags.specs.Bags.{choose, All}

module _ {A : Type 0} where
  -- the first z elements that pass, and what stays
  unfoldable pub taken : (A → Bool) → ℕ → List A → List A
  taken t zero xs = []
  taken t (suc z) [] = []
  taken t (suc z) (x ∷ xs) = choose (t x) (x ∷ taken t z xs) (taken t (suc z) xs)

  unfoldable pub left : (A → Bool) → ℕ → List A → List A
  left t zero xs = xs
  left t (suc z) [] = []
  left t (suc z) (x ∷ xs) = choose (t x) (left t z xs) (x ∷ left t (suc z) xs)

  -- one bucket for each test, and what remains after the last
  unfoldable pub buckets : ℕ → List (A → Bool) → List A → List (List A)
  buckets z [] xs = []
  buckets z (t ∷ ts) xs = taken t z xs ∷ buckets z ts (left t z xs)

  unfoldable pub rest : ℕ → List (A → Bool) → List A → List A
  rest z [] xs = xs
  rest z (t ∷ ts) xs = rest z ts (left t z xs)

  -- each bucket holds at most z, and only what passes its test
  abbrev pub Within : ℕ → List (A → Bool) → List (List A) → Type 0
  Within z [] [] = Unit {0}
  Within z [] (b ∷ bs) = ⊥
  Within z (t ∷ ts) [] = ⊥
  Within z (t ∷ ts) (b ∷ bs) = (length b ≤ z) × All t b × Within z ts bs
