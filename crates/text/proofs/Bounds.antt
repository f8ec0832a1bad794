-- What numbers in a row are bounded by: four digits and a space each, and their values. Assumes nothing.
use Prim.Native.Nat.{ℕ, zero, suc, ◌+◌, ◌*◌, ◌≤◌}
use mathlib.Core.Path.{◌≡◌, refl}
use mathlib.Core.Bool.{◌&&◌}
use mathlib.Core.List.{List}
use native.Mathlib.Omega.{arith}
use borrow.Author.Tests.{leb-true}
use lib.ListN.{length, drop, get_or}
use lib.Dec.{leb, eqb}
use Rattle.words.proofs.Tests.{and_left, and_right, by_cases}
use Rattle.text.specs.declared.Number.{Number}
use Rattle.std.specs.Prelude.{Option, Some, None}
use Rattle.text.specs.Text.{space}
use Rattle.text.specs.Fronts.{digits, value, most_digits, most_number, number_by, spaced, then_values, then_len, values, values_len}
use Rattle.text.proofs.Fronts.{is-values, none-is-none}

-- ---- a number

number-most : (k w : ℕ) (n : Number) → number_by k w ≡ Some n → (n.len ≤ most_digits) × (n.value ≤ most_number)
number-most k w n e =
    let p = is-values k w n e in
    let a = leb-true k most_digits (and_right (leb 1 k) (leb k most_digits) (and_left (leb 1 k && leb k most_digits) (leb w most_number) p.0)) in
    let b = leb-true w most_number (and_right (leb 1 k && leb k most_digits) (leb w most_number) p.0) in
    (omega (arith, p.2), omega (arith, p.1))

spaced-most : (xs : List ℕ) (n : Number) → spaced xs ≡ Some n → (n.len ≤ most_digits) × (n.value ≤ most_number)
spaced-most xs n e =
    by_cases (eqb (get_or xs 0 0) space)
    (λ h. number-most (length (digits (drop 1 xs))) (value 0 (digits (drop 1 xs))) n (rw h at e))
    (λ h. none-is-none n (rw h at e))

-- ---- numbers in a row

then-len : (x : Option Number) (f : ℕ → ℕ) (m : ℕ) → ((n : Number) → x ≡ Some n → n.len ≤ most_digits) → ((j : ℕ) → f j ≤ m) → then_len x f ≤ 5 + m
then-len (Some n) f m h g = omega (arith, h n refl, g (1 + n.len))
then-len None f m h g = omega arith

pub values_len-most : (n : ℕ) (xs : List ℕ) → values_len n xs ≤ 5 * n
unfolding values_len
values_len-most zero xs = omega arith
values_len-most (suc n) xs =
    omega (arith, then-len (spaced xs) (λ j. values_len n (drop j xs)) (5 * n) (λ x e. (spaced-most xs x e).0) (λ j. values_len-most n (drop j xs)))

then-low : (x : Option Number) (f : ℕ → List ℕ) (i : ℕ) → ((n : Number) → x ≡ Some n → n.value ≤ most_number) → ((j i : ℕ) → get_or (f j) i 0 ≤ most_number)
    → get_or (then_values x f) i 0 ≤ most_number
then-low (Some n) f zero h g = h n refl
then-low (Some n) f (suc i) h g = g (1 + n.len) i
then-low None f i h g = omega arith

pub values_low : (n : ℕ) (xs : List ℕ) (i : ℕ) → get_or (values n xs) i 0 ≤ most_number
unfolding values
values_low zero xs i = omega arith
values_low (suc n) xs i =
    then-low (spaced xs) (λ j. values n (drop j xs)) i (λ x e. (spaced-most xs x e).1) (λ j m. values_low n (drop j xs) m)
