-- Slots: id 2, leaf 2, record. The block that a slot shows, the slot of a block, and the same of several, one behind the other.
-- Records have r bytes here; `blocks_of` is at the paper's length. Assumes nothing.
use Rattle.std.specs.Prelude.{ℕ, zero, suc, ◌+◌, ◌*◌, ◌-◌, ◌<◌, ◌≡◌, Bool, not, List, [], ◌∷◌, ◌++◌, length, drop, get_or, eqb}
use Rattle.words.specs.Bytes.{part, zeros}
use Rattle.words.specs.Numbers.{number, bytes_of}
use Rattle.sizes.specs.Sizes.{record_len, slot_head, slot_len, leaf_in}

pub record Block : Type 0 where
  pub id : ℕ
  pub leaf : ℕ
  pub bytes : List ℕ

-- the length of a slot
abbrev pub slot_by : ℕ → ℕ
slot_by r = slot_head + r

-- the block that the slot at the head of a list shows
abbrev pub block_by : ℕ → List ℕ → Block
block_by r xs = record { id = number 2 xs 0; leaf = number 2 xs leaf_in; bytes = part xs slot_head r }

-- the blocks of the first n slots
unfoldable pub blocks_by : ℕ → ℕ → List ℕ → List Block
blocks_by r zero xs = []
blocks_by r (suc n) xs = block_by r xs ∷ blocks_by r n (drop (slot_by r) xs)

abbrev pub blocks_of : ℕ → List ℕ → List Block
blocks_of n xs = blocks_by record_len n xs

-- a slot is empty if its id is 0
abbrev pub is_used : Block → Bool
is_used b = not (eqb b.id 0)

-- the slot of a block, and the slots of several
abbrev pub slot_bytes : Block → List ℕ
slot_bytes b = bytes_of 2 b.id ++ (bytes_of 2 b.leaf ++ b.bytes)

unfoldable pub slots_bytes : List Block → List ℕ
slots_bytes [] = []
slots_bytes (b ∷ bs) = slot_bytes b ++ slots_bytes bs

-- as many slots as there is room for: those of the blocks, then zeros
abbrev pub slots_with : ℕ → List Block → List ℕ
slots_with room blocks = slots_bytes blocks ++ zeros (slot_len * (room - length blocks))

-- blocks by rising id, all above a number
abbrev pub Rising : ℕ → List Block → Type 0
Rising last [] = Unit
Rising last (b ∷ bs) = (last < b.id) × Rising b.id bs

-- blocks that slots can hold
pub record Fits (r : ℕ) (b : Block) : Type 0 where
  pub id : b.id < 65536
  pub leaf : b.leaf < 65536
  pub size : length b.bytes ≡ r

abbrev pub AllFit : ℕ → List Block → Type 0
AllFit r [] = Unit
AllFit r (b ∷ bs) = Fits r b × AllFit r bs

-- a list of bytes
abbrev pub Bytes : List ℕ → Type 0
Bytes xs = (i : ℕ) → get_or xs i 0 < 256
