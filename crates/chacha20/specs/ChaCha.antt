-- ChaCha20, in the order of RFC 8439: words and bytes are numbers, the state is a list of sixteen words. Assumes nothing.
use Rattle.std.specs.Prelude.{ℕ, zero, suc, ◌+◌, ◌-◌, ◌*◌, ◌/◌, ◌%◌, ◌^◌, List, [], ◌∷◌, ◌++◌, length, bit_or, bit_xor, slice_index, slice_set}
use Rattle.words.specs.Numbers.{number, bytes_of}
use Rattle.chacha20.specs.declared.Quad.{Quad}

-- 2.1: a + b modulo 2^32, and x rotated left by k of 32 bits
unfoldable pub add32 : ℕ → ℕ → ℕ
add32 a b = (a + b) % 2 ^ 32

unfoldable pub rotl : ℕ → ℕ → ℕ
rotl x k = bit_or (x * 2 ^ k % 2 ^ 32) (x / 2 ^ (32 - k))

-- 2.1: the quarter round; each half of it has two of the four rotations
unfoldable pub half : Quad → ℕ → ℕ → Quad
half q j k =
    let a = add32 q.a q.b in
    let d = rotl (bit_xor q.d a) j in
    let c = add32 q.c d in
    record { a = a; b = rotl (bit_xor q.b c) k; c = c; d = d }

unfoldable pub quarter : Quad → Quad
quarter q = half (half q 16 12) 8 7

-- 2.2: QUARTERROUND(a, b, c, d) on the words of the state at these indices
unfoldable pub pick : List ℕ → ℕ → ℕ → ℕ → ℕ → Quad
pick s a b c d = record { a = slice_index s a; b = slice_index s b; c = slice_index s c; d = slice_index s d }

unfoldable pub put : List ℕ → ℕ → ℕ → ℕ → ℕ → Quad → List ℕ
put s a b c d q = slice_set (slice_set (slice_set (slice_set s a q.a) b q.b) c q.c) d q.d

unfoldable pub quarter_at : List ℕ → ℕ → ℕ → ℕ → ℕ → List ℕ
quarter_at s a b c d = put s a b c d (quarter (pick s a b c d))

-- 2.3: a column round and a diagonal round, both, and n times both
unfoldable pub columns : List ℕ → List ℕ
columns s = quarter_at (quarter_at (quarter_at (quarter_at s 0 4 8 12) 1 5 9 13) 2 6 10 14) 3 7 11 15

unfoldable pub diagonals : List ℕ → List ℕ
diagonals s = quarter_at (quarter_at (quarter_at (quarter_at s 0 5 10 15) 1 6 11 12) 2 7 8 13) 3 4 9 14

unfoldable pub inner : List ℕ → List ℕ
inner s = diagonals (columns s)

unfoldable pub rounds : ℕ → List ℕ → List ℕ
rounds zero s = s
rounds (suc n) s = inner (rounds n s)

-- 2.3: the state at the start: four constants, the key, the block counter, the nonce
unfoldable pub initial : List ℕ → List ℕ → ℕ → List ℕ
initial key nonce n =
    0x61707865 ∷ 0x3320646e ∷ 0x79622d32 ∷ 0x6b206574
    ∷ number 4 key 0 ∷ number 4 key 4 ∷ number 4 key 8 ∷ number 4 key 12
    ∷ number 4 key 16 ∷ number 4 key 20 ∷ number 4 key 24 ∷ number 4 key 28
    ∷ n ∷ number 4 nonce 0 ∷ number 4 nonce 4 ∷ number 4 nonce 8 ∷ []

-- f of the elements of two lists, one by one, as far as both go
unfoldable pub zipped : (ℕ → ℕ → ℕ) → List ℕ → List ℕ → List ℕ
zipped f [] t = []
zipped f (x ∷ s) [] = []
zipped f (x ∷ s) (y ∷ t) = f x y ∷ zipped f s t

-- 2.3: the words as bytes, each with its lowest byte first
unfoldable pub serialize : List ℕ → List ℕ
serialize [] = []
serialize (w ∷ s) = bytes_of 4 w ++ serialize s

-- 2.3: the block of 64 bytes at a block counter
unfoldable pub block : List ℕ → List ℕ → ℕ → List ℕ
block key nonce n = serialize (zipped add32 (rounds 10 (initial key nonce n)) (initial key nonce n))

-- 2.4: the keystream's blocks, c of them, from number n on; the block counter has 32 bits
unfoldable pub blocks : List ℕ → List ℕ → ℕ → ℕ → List ℕ
blocks key nonce n zero = []
blocks key nonce n (suc c) = block key nonce (n % 2 ^ 32) ++ blocks key nonce (suc n) c

-- 2.4: the bytes xs combined with the keystream from block 0 on
unfoldable pub cipher : List ℕ → List ℕ → List ℕ → List ℕ
cipher key nonce xs = zipped bit_xor xs (blocks key nonce 0 (length xs / 64 + 1))
