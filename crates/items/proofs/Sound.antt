-- The store's digest and cipher are sound: a digest has 32 bytes, the cipher keeps the length and is its own inverse. Assumes nothing.
use Prim.Native.Nat.{ℕ, zero, suc, ◌*◌, ◌/◌}
use mathlib.Core.Path.{◌≡◌, refl, sym, ap, ◌∙◌}
use mathlib.Core.List.{List, [], ◌∷◌, ◌++◌}
use native.Mathlib.Nat.{mul-suc, mul-zero}
use native.Mathlib.Omega.{arith}
use lib.ListN.{length, length-append}
use Rattle.words.specs.Numbers.{big_bytes_of}
use Rattle.words.proofs.Numbers.{length-big_bytes_of}
use Rattle.digest_sha2.specs.Sha2.{all_bytes, add_all, compress, after, padding, digest}
use Rattle.digest_sha2.specs.Sha256.{v256, H256, sha256}
use Rattle.chacha20.proofs.Cipher.{length-cipher, cipher_twice}
use Rattle.items.specs.Items.{Sound}
use Rattle.items.specs.Real.{real}

-- ---- for digest_sha2

length-all_bytes : (n : ℕ) (s : List ℕ) → length (all_bytes n s) ≡ n * length s
unfolding all_bytes
length-all_bytes n [] = sym (mul-zero n)
length-all_bytes n (x ∷ s) =
    omega (arith, length-append (big_bytes_of n x) (all_bytes n s), length-big_bytes_of n x, length-all_bytes n s, mul-suc n (length s))

length-after : (n : ℕ) (bs : List ℕ) → length (after v256 H256 n bs) ≡ 8
unfolding after compress add_all H256
length-after zero bs = refl
length-after (suc n) bs = refl

pub length-sha256 : (m : List ℕ) → length (sha256 m) ≡ 32
unfolding sha256 digest
length-sha256 m =
    let p = m ++ padding v256 (length m) in
    length-all_bytes 4 (after v256 H256 (length p / 64) p) ∙ ap (λ (n : ℕ). 4 * n) (length-after (length p / 64) p)

-- ----

pub real-sound : Sound real
real-sound = record { digest_length = length-sha256; cipher_length = length-cipher; cipher_twice = cipher_twice }
