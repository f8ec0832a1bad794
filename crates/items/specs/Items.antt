-- One item: its fields, the digest taken of it, its slots opened and sealed. Digest and cipher are parameters. Assumes nothing.
use Rattle.std.specs.Prelude.{ℕ, ◌≤◌, ◌≡◌, cond, List, ◌++◌, length, get_or, take, eqb, ltb}
use Rattle.words.specs.Bytes.{part, zeros}
use Rattle.words.specs.Numbers.{number, bytes_of}
use Rattle.sizes.specs.declared.Sizes.{Sizes}
use Rattle.sizes.specs.Sizes.{InRange, counter_len, digest_len, slots_len, path_len, flag_at, digest_at}
use Rattle.bags.specs.Bags.{those}
use Rattle.slots.specs.Slots.{Block, is_used, blocks_of, slots_with}

-- the digest of bytes, and the text that a cipher makes of a key, a nonce and a text
pub record Means : Type 0 where
  pub digest : List ℕ → List ℕ
  pub cipher : List ℕ → List ℕ → List ℕ → List ℕ

-- what is asked of them
pub record Sound (m : Means) : Type 0 where
  pub digest_length : (xs : List ℕ) → length (m.digest xs) ≡ digest_len
  pub cipher_length : (key nonce xs : List ℕ) → length (m.cipher key nonce xs) ≡ length xs
  pub cipher_twice : (key nonce xs : List ℕ) → m.cipher key nonce (m.cipher key nonce xs) ≡ xs

-- bytes that begin with a path of these sizes
pub record Carries (s : Sizes) (xs : List ℕ) : Type 0 where
  pub range : InRange s
  pub room : path_len s ≤ length xs

-- ---- the fields of an item; side 0 is left, side 1 is right

abbrev pub counter_bytes : List ℕ → List ℕ
counter_bytes item = part item 0 counter_len

abbrev pub counter_of : List ℕ → ℕ
counter_of item = number counter_len item 0

abbrev pub slots_of : Sizes → List ℕ → List ℕ
slots_of s item = part item counter_len (slots_len s)

abbrev pub flag_of : Sizes → List ℕ → ℕ → ℕ
flag_of s item side = get_or item (flag_at s side) 0

abbrev pub digest_of : Sizes → List ℕ → ℕ → List ℕ
digest_of s item side = part item (digest_at s side) digest_len

-- ---- the digest: over one item, as it lies, but with a child's digest read as zeros where its flag is 0

abbrev pub digest_read : Sizes → List ℕ → ℕ → List ℕ
digest_read s item side = cond (eqb (flag_of s item side) 0) (zeros digest_len) (digest_of s item side)

unfoldable pub masked : Sizes → ℕ → List ℕ → List ℕ
masked s k item = cond (ltb k s.height) (take (digest_at s 0) item ++ (digest_read s item 0 ++ digest_read s item 1)) item

abbrev pub item_digest : Means → Sizes → ℕ → List ℕ → List ℕ
item_digest m s k item = m.digest (masked s k item)

-- ---- the slots: enciphered under the key, with a nonce of the item's counter, 8 bytes, and the bucket's number, 4 bytes

abbrev pub bucket_bytes : ℕ
bucket_bytes = 4

abbrev pub nonce_of : List ℕ → ℕ → List ℕ
nonce_of counter bucket = counter ++ bytes_of bucket_bytes bucket

abbrev pub slots_opened : Means → Sizes → List ℕ → ℕ → List ℕ → List ℕ
slots_opened m s key bucket item = m.cipher key (nonce_of (counter_bytes item) bucket) (slots_of s item)

-- the blocks of the slots in use
unfoldable pub blocks_in : Means → Sizes → List ℕ → ℕ → List ℕ → List Block
blocks_in m s key bucket item = those is_used (blocks_of s.slots (slots_opened m s key bucket item))

-- a counter, and the slots that hold these blocks, enciphered
unfoldable pub sealed : Means → Sizes → List ℕ → ℕ → ℕ → List Block → List ℕ
sealed m s key counter bucket blocks =
    bytes_of counter_len counter ++ m.cipher key (nonce_of (bytes_of counter_len counter) bucket) (slots_with s.slots blocks)
