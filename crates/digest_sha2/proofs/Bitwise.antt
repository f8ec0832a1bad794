-- Operations on the bits of words: what holds of each bit holds of the words. Assumes nothing.
use Rattle.std.proofs.Common.{◌≡◌, ℕ, zero, suc, ◌*◌, ◌/◌, ◌%◌, ◌^◌, ◌<◌, sym, refl, ap, ◌∙◌, pow-suc, arith}
use lib.Bits.{bit_xor, xor_shr, xor_mod}

-- a statement of three bits, by its eight cases
pub eight : (P : ℕ → ℕ → ℕ → Type 0) → P 0 0 0 → P 0 0 1 → P 0 1 0 → P 0 1 1 → P 1 0 0 → P 1 0 1 → P 1 1 0 → P 1 1 1
    → (x y z : ℕ) → x < 2 → y < 2 → z < 2 → P x y z
eight P a b c d e f g h zero zero zero p q r = a
eight P a b c d e f g h zero zero (suc zero) p q r = b
eight P a b c d e f g h zero (suc zero) zero p q r = c
eight P a b c d e f g h zero (suc zero) (suc zero) p q r = d
eight P a b c d e f g h (suc zero) zero zero p q r = e
eight P a b c d e f g h (suc zero) zero (suc zero) p q r = f
eight P a b c d e f g h (suc zero) (suc zero) zero p q r = g
eight P a b c d e f g h (suc zero) (suc zero) (suc zero) p q r = h
eight P a b c d e f g h (suc (suc x)) y z p q r = absurd (omega arith)
eight P a b c d e f g h zero (suc (suc y)) z p q r = absurd (omega arith)
eight P a b c d e f g h (suc zero) (suc (suc y)) z p q r = absurd (omega arith)
eight P a b c d e f g h zero zero (suc (suc z)) p q r = absurd (omega arith)
eight P a b c d e f g h zero (suc zero) (suc (suc z)) p q r = absurd (omega arith)
eight P a b c d e f g h (suc zero) zero (suc (suc z)) p q r = absurd (omega arith)
eight P a b c d e f g h (suc zero) (suc zero) (suc (suc z)) p q r = absurd (omega arith)

-- numbers are equal whose halves and last bits are
pub halves : (a b : ℕ) → a / 2 ≡ b / 2 → a % 2 ≡ b % 2 → a ≡ b
halves a b p q = omega arith

-- two operations on three words that go bit by bit agree if they do on bits
module _ (f g : ℕ → ℕ → ℕ → ℕ) (f-half : (x y z : ℕ) → f x y z / 2 ≡ f (x / 2) (y / 2) (z / 2)) (f-last : (x y z : ℕ) → f x y z % 2 ≡ f (x % 2) (y % 2) (z % 2))
    (g-half : (x y z : ℕ) → g x y z / 2 ≡ g (x / 2) (y / 2) (z / 2)) (g-last : (x y z : ℕ) → g x y z % 2 ≡ g (x % 2) (y % 2) (z % 2))
    (bits : (x y z : ℕ) → x < 2 → y < 2 → z < 2 → f x y z ≡ g x y z) where
  pub agree : (k x y z : ℕ) → x < 2 ^ k → y < 2 ^ k → z < 2 ^ k → f x y z ≡ g x y z
  agree zero x y z p q r = bits x y z (omega arith) (omega arith) (omega arith)
  agree (suc k) x y z p q r =
      let e : 2 ^ suc k ≡ 2 ^ k * 2 = pow-suc 2 k in
      halves (f x y z) (g x y z)
      (f-half x y z ∙ agree k (x / 2) (y / 2) (z / 2) (omega arith) (omega arith) (omega arith) ∙ sym (g-half x y z))
      (f-last x y z ∙ bits (x % 2) (y % 2) (z % 2) (omega arith) (omega arith) (omega arith) ∙ sym (g-last x y z))

pub xor_assoc : (k x y z : ℕ) → x < 2 ^ k → y < 2 ^ k → z < 2 ^ k → bit_xor x (bit_xor y z) ≡ bit_xor (bit_xor x y) z
xor_assoc =
    agree (λ (x y z : ℕ). bit_xor x (bit_xor y z)) (λ (x y z : ℕ). bit_xor (bit_xor x y) z)
    (λ x y z. xor_shr x (bit_xor y z) 1 ∙ ap (bit_xor (x / 2)) (xor_shr y z 1))
    (λ x y z. xor_mod x (bit_xor y z) 1 ∙ ap (bit_xor (x % 2)) (xor_mod y z 1))
    (λ x y z. xor_shr (bit_xor x y) z 1 ∙ ap (λ (m : ℕ). bit_xor m (z / 2)) (xor_shr x y 1))
    (λ x y z. xor_mod (bit_xor x y) z 1 ∙ ap (λ (m : ℕ). bit_xor m (z % 2)) (xor_mod x y 1))
    (eight (λ (x y z : ℕ). bit_xor x (bit_xor y z) ≡ bit_xor (bit_xor x y) z) refl refl refl refl refl refl refl refl)
