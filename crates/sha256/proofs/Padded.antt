-- The padding (5.1.1): its length, that it depends on the length modulo 2 ^ 64 alone, and the array in which it stands behind the bytes left over.
-- Assumes nothing.
use Rattle.std.proofs.Common.{◌≡◌, ℕ, ◌+◌, ◌-◌, ◌*◌, ◌/◌, ◌%◌, ◌^◌, ◌≤◌, List, [], ◌∷◌, ◌++◌, length, take, drop, set, sym, ap, ◌∙◌, append_assoc, zero-add, arith, length-append}
use lib.ListN.{length-replicate}
use lib.Seq.{take-append-add}
use Rattle.words.specs.Bytes.{splice, zeros}
use Rattle.words.specs.Numbers.{big_bytes_of}
use Rattle.words.proofs.Splice.{splice-store, length-splice, take-zeros, drop-zeros}
use Rattle.words.proofs.Numbers.{length-big_bytes_of, big_bytes_of-wrap}
use Rattle.digest_sha2.specs.Sha2.{padding, gap}
use Rattle.digest_sha2.specs.Sha256.{v256}
use Rattle.digest_sha2.proofs.Bytes.{take-spliced}

pub length-padding : (n : ℕ) → length (padding v256 n) ≡ 9 + (119 - n % 64) % 64
unfolding padding gap
length-padding n = simp (length-append, length-replicate, length-big_bytes_of) (omega arith)

pub padding-wrap : (n : ℕ) → padding v256 (n % 2 ^ 64) ≡ padding v256 n
unfolding padding gap
padding-wrap n =
    let a : n % 2 ^ 64 % 64 ≡ n % 64 = omega arith in
    let b : 8 * n ≡ 8 * (n % 2 ^ 64) + n / 2 ^ 64 * 8 * 256 ^ 8 = omega arith in
    rw (a, b, big_bytes_of-wrap 8 (8 * (n % 2 ^ 64)) (n / 2 ^ 64 * 8))

-- the length in bits, of which the machine keeps 64
bits-wrap : (n : ℕ) → big_bytes_of 8 (n * 8 % 2 ^ 64) ≡ big_bytes_of 8 (8 * n)
bits-wrap n =
    let e : 8 * n ≡ n * 8 % 2 ^ 64 + n * 8 / 2 ^ 64 * 256 ^ 8 = omega arith in
    rw e (sym (big_bytes_of-wrap 8 (n * 8 % 2 ^ 64) (n * 8 / 2 ^ 64)))

-- for words: what is laid in at the front of zeros, and zeros behind it
front : (m k z : ℕ) (ys : List ℕ) → k ≡ length ys + z → k ≤ m → take k (splice (zeros m) 0 ys) ≡ ys ++ zeros z
unfolding splice
front m k z ys e h =
    let d : drop (0 + length ys) (zeros m) ≡ zeros (m - length ys) = rw zero-add (drop-zeros (length ys) m) in
    rw (d, e, take-append-add ys (zeros (m - length ys)) z) (ap (λ (l : List ℕ). ys ++ l) (take-zeros z (m - length ys) (omega arith)))

-- the array after `total` bytes: those left over, the bit 1, and zeros
abbrev pub begins : List ℕ → List ℕ
begins left = set (splice (zeros 128) 0 left) (length left) 128

module _ (left : List ℕ) (total r : ℕ) (l : length left ≡ total % 64) (b : 64 * r ≡ total % 64 + length (padding v256 total)) where
  abbrev z : ℕ
  z = (119 - total % 64) % 64

  long : 64 * r ≡ total % 64 + 9 + z
  long = b ∙ rw (length-padding total) (omega arith)

  -- the byte with the bit 1 is laid in too
  laid : begins left ≡ splice (zeros 128) 0 (left ++ (128 ∷ []))
  laid = splice-store (zeros 128) 0 left (length left) 128 (sym (zero-add (length left))) (omega arith)

  up-to-length : take (64 * r - 8) (begins left) ≡ (left ++ (128 ∷ [])) ++ zeros z
  up-to-length =
      let k : length (left ++ (128 ∷ [])) ≡ total % 64 + 1 = length-append left (128 ∷ []) ∙ rw l in
      ap (take (64 * r - 8)) laid ∙ front 128 (64 * r - 8) z (left ++ (128 ∷ [])) (omega (arith, long)) (omega (arith, long))

  pub last-is : (e : List ℕ) → e ≡ splice (begins left) (64 * r - 8) (big_bytes_of 8 (total * 8 % 2 ^ 64)) → take (total % 64 + length (padding v256 total)) e ≡ left ++ padding v256 total
  unfolding padding gap
  last-is e q =
      let n : length (begins left) ≡ 128 = ap length laid ∙ length-splice (zeros 128) 0 (left ++ (128 ∷ [])) (simp length-append (omega arith)) in
      let k : length (big_bytes_of 8 (total * 8 % 2 ^ 64)) ≡ 8 = length-big_bytes_of 8 (total * 8 % 2 ^ 64) in
      ap (take (total % 64 + length (padding v256 total))) q
      ∙ take-spliced (begins left) (64 * r - 8) (big_bytes_of 8 (total * 8 % 2 ^ 64)) (total % 64 + length (padding v256 total)) (omega (arith, long)) (omega (arith, long))
      ∙ rw (up-to-length, bits-wrap total) (simp append_assoc)
