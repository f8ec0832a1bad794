-- A bank: slots one behind another, from which blocks are laid into buckets and stash; and what a plan for it says. Assumes nothing.
use Rattle.std.specs.Prelude.{ℕ, ◌+◌, ◌*◌, ◌≤◌, ◌<◌, ◌≡◌, List, [], ◌∷◌, length, take, drop, get_or}
use Rattle.words.specs.Numbers.{number}
use Rattle.sizes.specs.declared.Sizes.{Sizes}
use Rattle.sizes.specs.Sizes.{most_height, most_slots, most_room, record_len, slot_len, leaf_in}
use Rattle.slots.specs.Slots.{Block, block_by}
use Rattle.placing.specs.Placing.{placed_in, remaining}
use Rattle.placing.specs.Walk.{pick}

-- the most blocks that one finish can meet: the slots of the longest path, the largest stash, and a new one
abbrev pub most_blocks : ℕ
most_blocks = (most_height + 1) * most_slots + most_room + 1

-- slot p: its id, its leaf, the block that it shows
abbrev pub id_at : List ℕ → ℕ → ℕ
id_at bank p = number 2 bank (slot_len * p)

abbrev pub leaf_at : List ℕ → ℕ → ℕ
leaf_at bank p = number 2 bank (slot_len * p + leaf_in)

unfoldable pub block_in : List ℕ → ℕ → Block
block_in bank p = block_by record_len (drop (slot_len * p) bank)

abbrev pub blocks_at : List ℕ → List ℕ → List Block
blocks_at bank [] = []
blocks_at bank (p ∷ ps) = block_in bank p ∷ blocks_at bank ps

-- the slots at these places lie in the bank
abbrev pub Inside : List ℕ → List ℕ → Type 0
Inside bank ps = (i : ℕ) → i < length ps → slot_len * get_or ps i 0 + slot_len ≤ length bank

-- a plan, in the first `all` entries of two arrays: where each block stands in the bank, and the height of the bucket that it goes to.
-- Those at a height are the blocks of the bucket there; those above the root remain
pub record Planned (s : Sizes) (leaf : ℕ) (blocks : List Block) (all over : ℕ) (bank places at : List ℕ) : Type 0 where
  pub few : all ≤ most_blocks
  pub inside : Inside bank (take all places)
  pub bucket : (h : ℕ) → h ≤ s.height → pick h (take all at) (blocks_at bank (take all places)) ≡ get_or (placed_in s leaf blocks) h []
  pub stash : pick (s.height + 1) (take all at) (blocks_at bank (take all places)) ≡ remaining s leaf blocks
  pub remains : over ≡ length (remaining s leaf blocks)
