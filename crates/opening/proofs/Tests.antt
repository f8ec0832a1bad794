-- Tests under a condition, and tests that imply each other. Assumes nothing.
-- for words
use Prim.Native.Nat.{ℕ}
use mathlib.Core.Path.{◌≡◌, refl, sym}
use mathlib.Core.Bool.{Bool, true, false, not, ◌||◌}
use native.Mathlib.Omega.{arith}

pub no_true : true ≡ false → ⊥
no_true h = let z : ◌≡◌ {A = ℕ} 0 1 = cc in omega arith

pub implied : (r t : Bool) → (not r || t) ≡ true → r ≡ true → t ≡ true
implied true t h e = h
implied false t h e = cc

pub implies : (r t : Bool) → (r ≡ true → t ≡ true) → (not r || t) ≡ true
implies true t f = f refl
implies false t f = refl

-- tests that imply each other are the same
pub same_test : (a b : Bool) → (a ≡ true → b ≡ true) → (b ≡ true → a ≡ true) → a ≡ b
same_test true b f g = sym (f refl)
same_test false true f g = g refl
same_test false false f g = refl
