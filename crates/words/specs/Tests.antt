-- Tests: of every number below n, of every byte, and a list of tests. Assumes nothing.
use Rattle.std.specs.Prelude.{ℕ, zero, suc, Bool, true, ◌&&◌, List, [], ◌∷◌, ◌≡◌, length, get_or, eqb}

-- every number below n passes p
unfoldable pub all : ℕ → (ℕ → Bool) → Bool
all zero p = true
all (suc n) p = all n p && p n

-- every byte is zero
abbrev pub all_zero : List ℕ → Bool
all_zero xs = all (length xs) (λ i. eqb (get_or xs i 0) 0)

-- every test of a list, after one that came out as given: on a list that is written out it computes to `a && b && c`
abbrev pub every_after : Bool → List Bool → Bool
every_after a [] = a
every_after a (b ∷ bs) = every_after (a && b) bs

abbrev pub every : List Bool → Bool
every bs = every_after true bs

-- each test of a list holds
abbrev pub Each : List Bool → Type 0
Each [] = Unit
Each (b ∷ bs) = (b ≡ true) × Each bs
