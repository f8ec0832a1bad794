-- Numbers read from bytes: what they are below, and what writing them back gives. Assumes nothing.
-- for words
use mathlib.Core.Path.{◌≡◌, refl, sym, ap, ◌∙◌}
use mathlib.Core.List.{List, ◌++◌}
use Prim.Native.Nat.{ℕ, zero, suc, ◌+◌, ◌*◌, ◌/◌, ◌%◌, ◌^◌, ◌≤◌, ◌<◌}
use native.Mathlib.Nat.{pow-suc}
use native.Mathlib.Numerals.{add-one}
use native.Mathlib.Omega.{arith}
use lib.ListN.{length, get_or, get_or-append}
use lib.Seq.{get_or-append-add}
use Rattle.words.specs.Bytes.{part}
use Rattle.words.specs.Numbers.{number, bytes_of}
use Rattle.words.proofs.Splice.{part-cons}
use Rattle.words.proofs.Numbers.{number-ext}
use Rattle.slots.specs.Slots.{Bytes}

pub number_small : (n : ℕ) (xs : List ℕ) (a : ℕ) → Bytes xs → number n xs a < 256 ^ n
unfolding number
number_small zero xs a b = omega arith
number_small (suc n) xs a b = omega (arith, b a, number_small n xs (a + 1) b, pow-suc 256 n)

-- a number read, then written
pub bytes_of-number : (n : ℕ) (xs : List ℕ) (a : ℕ) → Bytes xs → a + n ≤ length xs → bytes_of n (number n xs a) ≡ part xs a n
unfolding number bytes_of
bytes_of-number zero xs a b h = refl
bytes_of-number (suc n) xs a b h =
    let l = b a in
    let p : (get_or xs a 0 + 256 * number n xs (a + 1)) % 256 ≡ get_or xs a 0 = omega arith in
    let q : (get_or xs a 0 + 256 * number n xs (a + 1)) / 256 ≡ number n xs (a + 1) = omega arith in
    rw (p, q, bytes_of-number n xs (a + 1) b (omega arith), add-one) (sym (part-cons xs a n (omega arith)))

-- in the first, and in the second, of two lists that stand together
pub number-left : (n : ℕ) (xs ys : List ℕ) (a : ℕ) → a + n ≤ length xs → number n (xs ++ ys) a ≡ number n xs a
number-left n xs ys a h = number-ext n (xs ++ ys) xs a a (λ i k. get_or-append xs ys 0 (a + i) (omega arith))

pub number-right : (n : ℕ) (xs ys : List ℕ) (a b : ℕ) → b ≡ length xs + a → number n (xs ++ ys) b ≡ number n ys a
number-right n xs ys a b e =
    number-ext n (xs ++ ys) ys b a (λ i k.
    let f : b + i ≡ length xs + (a + i) = omega arith in
    ap (λ (j : ℕ). get_or (xs ++ ys) j 0) f ∙ get_or-append-add xs ys (a + i) 0)
