-- Ch in three operations: the bits of z, with those of y where x has a 1; and Maj by it. Assumes nothing.
use Rattle.std.proofs.Common.{◌≡◌, ℕ, zero, suc, ◌-◌, ◌*◌, ◌/◌, ◌%◌, ◌^◌, ◌<◌, sym, refl, ap, ◌∙◌, ap₂, pow-suc, arith}
use lib.Bits.{bit_and, bit_xor, and_shr, xor_shr, and_mod, xor_mod, xor_lt}
use Rattle.digest_sha2.specs.Sha2.{ch, maj}
use Rattle.digest_sha2.proofs.Bitwise.{eight, halves, agree}

-- the two forms, over the complement n of x
abbrev three : (x y z : ℕ) → ℕ
three x y z = bit_xor z (bit_and x (bit_xor y z))

abbrev four : (n x y z : ℕ) → ℕ
four n x y z = bit_xor (bit_and x y) (bit_and n z)

-- one bit, by cases
one : (x y z : ℕ) → x < 2 → y < 2 → z < 2 → three x y z ≡ four (1 - x) x y z
one = eight (λ (x y z : ℕ). three x y z ≡ four (1 - x) x y z) refl refl refl refl refl refl refl refl

-- the halves and the last bit of each form
three-half : (x y z : ℕ) → three x y z / 2 ≡ three (x / 2) (y / 2) (z / 2)
three-half x y z = xor_shr z (bit_and x (bit_xor y z)) 1 ∙ ap (bit_xor (z / 2)) (and_shr x (bit_xor y z) 1 ∙ ap (bit_and (x / 2)) (xor_shr y z 1))

three-last : (x y z : ℕ) → three x y z % 2 ≡ three (x % 2) (y % 2) (z % 2)
three-last x y z = xor_mod z (bit_and x (bit_xor y z)) 1 ∙ ap (bit_xor (z % 2)) (and_mod x (bit_xor y z) 1 ∙ ap (bit_and (x % 2)) (xor_mod y z 1))

four-half : (n x y z : ℕ) → four n x y z / 2 ≡ four (n / 2) (x / 2) (y / 2) (z / 2)
four-half n x y z = xor_shr (bit_and x y) (bit_and n z) 1 ∙ ap₂ bit_xor (and_shr x y 1) (and_shr n z 1)

four-last : (n x y z : ℕ) → four n x y z % 2 ≡ four (n % 2) (x % 2) (y % 2) (z % 2)
four-last n x y z = xor_mod (bit_and x y) (bit_and n z) 1 ∙ ap₂ bit_xor (and_mod x y 1) (and_mod n z 1)

choose : (k x y z : ℕ) → x < 2 ^ k → y < 2 ^ k → z < 2 ^ k → three x y z ≡ four (2 ^ k - 1 - x) x y z
choose zero zero zero zero hx hy hz = refl
choose zero (suc x) y z hx hy hz = absurd (omega arith)
choose zero zero (suc y) z hx hy hz = absurd (omega arith)
choose zero zero zero (suc z) hx hy hz = absurd (omega arith)
choose (suc k) x y z hx hy hz =
    let p : 2 ^ suc k ≡ 2 ^ k * 2 = pow-suc 2 k in
    let n = 2 ^ suc k - 1 - x in
    let h : n / 2 ≡ 2 ^ k - 1 - x / 2 = omega arith in
    let l : n % 2 ≡ 1 - x % 2 = omega arith in
    halves (three x y z) (four n x y z)
    (three-half x y z ∙ choose k (x / 2) (y / 2) (z / 2) (omega arith) (omega arith) (omega arith)
    ∙ ap (λ (m : ℕ). four m (x / 2) (y / 2) (z / 2)) (sym h) ∙ sym (four-half n x y z))
    (three-last x y z ∙ one (x % 2) (y % 2) (z % 2) (omega arith) (omega arith) (omega arith)
    ∙ ap (λ (m : ℕ). four m (x % 2) (y % 2) (z % 2)) (sym l) ∙ sym (four-last n x y z))

pub choose-is : (w x y z : ℕ) → x < 2 ^ w → y < 2 ^ w → z < 2 ^ w → three x y z ≡ ch w x y z
unfolding ch
choose-is w x y z hx hy hz = choose w x y z hx hy hz

-- ---- Maj is the choice, where x and y differ, of z, and of y where they agree

majority : (k x y z : ℕ) → x < 2 ^ k → y < 2 ^ k → z < 2 ^ k → three (bit_xor x y) z y ≡ maj x y z
unfolding maj
majority =
    agree (λ (x y z : ℕ). three (bit_xor x y) z y) maj
    (λ x y z. three-half (bit_xor x y) z y ∙ ap (λ (m : ℕ). three m (z / 2) (y / 2)) (xor_shr x y 1))
    (λ x y z. three-last (bit_xor x y) z y ∙ ap (λ (m : ℕ). three m (z % 2) (y % 2)) (xor_mod x y 1))
    (λ x y z. xor_shr (bit_xor (bit_and x y) (bit_and x z)) (bit_and y z) 1 ∙ ap₂ bit_xor (xor_shr (bit_and x y) (bit_and x z) 1 ∙ ap₂ bit_xor (and_shr x y 1) (and_shr x z 1)) (and_shr y z 1))
    (λ x y z. xor_mod (bit_xor (bit_and x y) (bit_and x z)) (bit_and y z) 1 ∙ ap₂ bit_xor (xor_mod (bit_and x y) (bit_and x z) 1 ∙ ap₂ bit_xor (and_mod x y 1) (and_mod x z 1)) (and_mod y z 1))
    (eight (λ (x y z : ℕ). three (bit_xor x y) z y ≡ maj x y z) refl refl refl refl refl refl refl refl)

pub majority-is : (w x y z : ℕ) → x < 2 ^ w → y < 2 ^ w → z < 2 ^ w → ch w (bit_xor x y) z y ≡ maj x y z
majority-is w x y z hx hy hz = sym (choose-is w (bit_xor x y) z y (xor_lt w x y hx hy) hz hy) ∙ majority w x y z hx hy hz
