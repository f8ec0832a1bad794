-- FIPS 180-4, what the hashes of the SHA-2 family share, stated once over a `Sha2`: the size of a word and of a block, the functions and
-- the constants of one of them. A word is a number below 2 ^ bits, a byte one below 256; a message, a block and a digest are lists of bytes.
-- Section numbers are the standard's; its 6.2 (SHA-256) and 6.4 (SHA-512) differ in the `Sha2` alone. Assumes nothing.
use Rattle.std.specs.Prelude.{ℕ, zero, suc, ◌+◌, ◌-◌, ◌*◌, ◌/◌, ◌%◌, ◌^◌, List, [], ◌∷◌, ◌++◌, length, bit_and, bit_or, bit_xor, slice_index, slice_index_or}
use Rattle.words.specs.Bytes.{part, zeros}
use Rattle.words.specs.Numbers.{big_number, big_bytes_of}

-- 2.2.2, 3.2: the operations on words of w bits
unfoldable pub shr : (n x : ℕ) → ℕ
shr n x = x / 2 ^ n

unfoldable pub rotr : (w n x : ℕ) → ℕ
rotr w n x = bit_or (x / 2 ^ n) ((x * 2 ^ (w - n)) % 2 ^ w)

unfoldable pub plus : (w x y : ℕ) → ℕ
plus w x y = (x + y) % 2 ^ w

-- 4.1.2, 4.1.3: Ch, with the complement of x, and Maj
unfoldable pub ch : (w x y z : ℕ) → ℕ
ch w x y z = bit_xor (bit_and x y) (bit_and (2 ^ w - 1 - x) z)

unfoldable pub maj : (x y z : ℕ) → ℕ
maj x y z = bit_xor (bit_xor (bit_and x y) (bit_and x z)) (bit_and y z)

-- the form of Σ₀ and Σ₁, three rotations, and that of σ₀ and σ₁, two rotations and a shift
unfoldable pub rotr³ : (w a b c x : ℕ) → ℕ
rotr³ w a b c x = bit_xor (bit_xor (rotr w a x) (rotr w b x)) (rotr w c x)

unfoldable pub rotr²shr : (w a b c x : ℕ) → ℕ
rotr²shr w a b c x = bit_xor (bit_xor (rotr w a x) (rotr w b x)) (shr c x)

-- one hash of the family: a word has `bits` bits, that is `bytes` bytes; a block has `block` bytes, sixteen words
pub record Sha2 : Type 0 where
  pub bits : ℕ
  pub bytes : ℕ
  pub block : ℕ
  pub rounds : ℕ
  pub Σ₀ : ℕ → ℕ
  pub Σ₁ : ℕ → ℕ
  pub σ₀ : ℕ → ℕ
  pub σ₁ : ℕ → ℕ
  pub K : List ℕ
  pub H₀ : List ℕ

-- 3.1: the first k words, each n bytes with the highest first, of a list of bytes; and the bytes of a list of words
unfoldable pub words_of : (n k : ℕ) → List ℕ → List ℕ
words_of n zero bs = []
words_of n (suc k) bs = words_of n k bs ++ (big_number n bs (n * k) ∷ [])

unfoldable pub all_bytes : ℕ → List ℕ → List ℕ
all_bytes n [] = []
all_bytes n (x ∷ xs) = big_bytes_of n x ++ all_bytes n xs

-- 5.1.1, 5.1.2: what is put behind a message of n bytes: the bit 1, as few zeros as fill a block, the length in bits as two words
unfoldable pub gap : Sha2 → ℕ → ℕ
gap v n = (v.block + v.block - 1 - 2 * v.bytes - n % v.block) % v.block

unfoldable pub padding : Sha2 → ℕ → List ℕ
padding v n = 128 ∷ (zeros (gap v n) ++ big_bytes_of (2 * v.bytes) (8 * n))

-- 6.2.2 step 1: the word of the schedule after the words ws, and ws with k words more
unfoldable pub next : Sha2 → List ℕ → ℕ
next v ws =
    let t = length ws in
    plus v.bits
    (plus v.bits (plus v.bits (v.σ₁ (slice_index ws (t - 2))) (slice_index ws (t - 7))) (v.σ₀ (slice_index ws (t - 15))))
    (slice_index ws (t - 16))

unfoldable pub extend : Sha2 → ℕ → List ℕ → List ℕ
extend v zero ws = ws
extend v (suc k) ws = extend v k ws ++ (next v (extend v k ws) ∷ [])

unfoldable pub schedule : Sha2 → List ℕ → List ℕ
schedule v b = extend v (v.rounds - 16) (words_of v.bytes 16 b)

-- step 3: one round, on the working variables a, b, .., h; and the first t rounds (they begin at s, step 2)
unfoldable pub round : Sha2 → List ℕ → (k w : ℕ) → List ℕ
round v s k w =
    let a = slice_index_or s 0 0 in
    let e = slice_index_or s 4 0 in
    let T₁ =
    plus v.bits
    (plus v.bits (plus v.bits (plus v.bits (slice_index s 7) (v.Σ₁ e)) (ch v.bits e (slice_index s 5) (slice_index s 6))) k)
    w in
    let T₂ = plus v.bits (v.Σ₀ a) (maj a (slice_index s 1) (slice_index s 2)) in
    plus v.bits T₁ T₂ ∷ a ∷ slice_index s 1 ∷ slice_index s 2 ∷ plus v.bits (slice_index s 3) T₁ ∷ e ∷ slice_index s 5 ∷ slice_index s 6 ∷ []

unfoldable pub run : Sha2 → List ℕ → ℕ → List ℕ → List ℕ
run v ws zero s = s
run v ws (suc t) s = round v (run v ws t s) (slice_index v.K t) (slice_index ws t)

-- step 4: the sums, word by word
unfoldable pub add_all : ℕ → List ℕ → List ℕ → List ℕ
add_all w s t =
    let p : ℕ → ℕ = λ i. plus w (slice_index s i) (slice_index t i) in
    p 0 ∷ p 1 ∷ p 2 ∷ p 3 ∷ p 4 ∷ p 5 ∷ p 6 ∷ p 7 ∷ []

-- 6.2.2: the hash value h after one block more
unfoldable pub compress : Sha2 → List ℕ → List ℕ → List ℕ
compress v h b = add_all v.bits h (run v (schedule v b) v.rounds h)

-- 5.2: from the hash value h, the one after the first n blocks of a list of bytes
unfoldable pub after : Sha2 → List ℕ → ℕ → List ℕ → List ℕ
after v h zero bs = h
after v h (suc n) bs = compress v (after v h n bs) (part bs (v.block * n) v.block)

-- 6.2, 6.4: the digest of a message
unfoldable pub digest : Sha2 → List ℕ → List ℕ
digest v m =
    let p = m ++ padding v (length m) in
    all_bytes v.bytes (after v v.H₀ (length p / v.block) p)
