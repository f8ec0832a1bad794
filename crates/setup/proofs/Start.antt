-- What a second line means, from what its word and its numbers were found to be. Assumes nothing.
use Prim.Native.Nat.{ℕ, zero, suc, ◌+◌}
use mathlib.Core.Path.{◌≡◌, refl, ◌∙◌}
use mathlib.Core.Bool.{true, false, and-false}
use mathlib.Core.List.{List}
use lib.ListN.{length, drop}
use lib.Dec.{eqb}
use Rattle.text.specs.Text.{start_word}
use Rattle.text.specs.Fronts.{begins, values, values_len, are_there}
use Rattle.text.proofs.Found.{Found}
use Rattle.setup.specs.Setup.{start_end, start_good}

start-by : (n : ℕ) (xs : List ℕ) → begins xs start_word ≡ true → are_there n (drop 5 xs) ≡ true
    → start_good n xs ≡ eqb (length xs) (start_end n (values_len n (drop 5 xs)))
start-by n xs b t = rw (b, t)

pub start_none : (n : ℕ) (xs : List ℕ) → begins xs start_word ≡ true → n ≡ 0 → start_good n xs ≡ eqb (length xs) (length start_word)
unfolding values
start_none n xs b z = rw z (start-by 0 xs b refl)

pub start-some : (n : ℕ) (xs : List ℕ) (k : ℕ) → begins xs start_word ≡ true → (n ≡ 0 → ⊥) → Found n xs 5 k → start_good n xs ≡ eqb (length xs) (5 + k)
start-some zero xs k b z f = absurd (z refl)
start-some (suc n) xs k b z f = start-by (suc n) xs b f.there ∙ rw f.len

pub start-lost : (n : ℕ) (xs : List ℕ) → are_there n (drop 5 xs) ≡ false → start_good n xs ≡ false
start-lost n xs t = rw (t, and-false)
