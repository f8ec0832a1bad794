-- Finish, step 5, which blocks are placed: those of the opened slots and of the stash, the requested block under its new leaf. Assumes nothing.
use Rattle.std.specs.Prelude.{ℕ, zero, suc, ◌+◌, ◌*◌, ◌≤◌, ◌<◌, ◌≡◌, Bool, not, Option, Some, None, IfSome, List, [], ◌∷◌, ◌++◌, length}
use Rattle.words.specs.Bytes.{part}
use Rattle.sizes.specs.declared.Sizes.{Sizes}
use Rattle.sizes.specs.Sizes.{InRange, most_ids, leaves, counter_len, record_len, slot_len, slots_len, item_at, path_len, most_room}
use Rattle.bags.specs.Bags.{those}
use Rattle.slots.specs.Slots.{Block, is_used, blocks_of}
use Rattle.placing.specs.Placing.{sorted}
use Rattle.placing.specs.Ids.{is_id, Placeable}
use Rattle.placing.specs.Bank.{most_blocks}
use Rattle.gathering.specs.declared.Request.{Request}

-- ---- what is found

-- the slots of item k of a path whose slots are opened, and the blocks in use of its first n items
abbrev pub slots_at : Sizes → List ℕ → ℕ → List ℕ
slots_at s opened k = part opened (item_at s k + counter_len) (slots_len s)

unfoldable pub used_to : Sizes → List ℕ → ℕ → List Block
used_to s opened zero = []
used_to s opened (suc k) = used_to s opened k ++ those is_used (blocks_of s.slots (slots_at s opened k))

-- these, and the stash's
abbrev pub found : Sizes → List ℕ → ℕ → List ℕ → ℕ → List Block
found s opened n stash count = used_to s opened n ++ blocks_of count stash

-- ---- what is placed

-- the requested block, if it has a new leaf, with the record that it carries on
abbrev pub block_if : ℕ → Option ℕ → List ℕ → List Block
block_if id (Some leaf) bytes = record { id = id; leaf = leaf; bytes = bytes } ∷ []
block_if id None bytes = []

abbrev pub requested : Request → List ℕ → List Block
requested r bytes = block_if r.id r.leaf bytes

abbrev pub is_other : ℕ → Block → Bool
is_other id b = not (is_id id b)

-- it and the others, by rising id
unfoldable pub to_place : Request → List ℕ → List Block → List Block
to_place r bytes blocks = sorted (requested r bytes ++ those (is_other r.id) blocks)

-- the others among those in use
abbrev pub others : ℕ → List Block → List Block
others id blocks = those (is_other id) (those is_used blocks)

-- ---- what a caller must know

-- of the path, the stash and the request, by the checks of step 2 and a good desk
pub record Opened (s : Sizes) (ids : ℕ) (opened : List ℕ) (n : ℕ) (stash : List ℕ) (count : ℕ) (r : Request) : Type 0 where
  pub range : InRange s
  pub ids_at_most : ids ≤ most_ids
  pub reach : n ≤ s.height + 1
  pub path_size : path_len s ≤ length opened
  pub room_at_most : count ≤ most_room
  pub stash_size : slot_len * count ≤ length stash
  pub blocks : Placeable ids (found s opened n stash count)
  pub id_low : 1 ≤ r.id
  pub id_high : r.id ≤ ids
  pub new_leaf_low : IfSome r.leaf (λ leaf. leaf < leaves s)

-- of the buffers: room for the most blocks
pub record Roomy (bank places at bytes : List ℕ) : Type 0 where
  pub bank_size : length bank ≡ slot_len * most_blocks
  pub places_size : length places ≡ most_blocks
  pub at_size : length at ≡ most_blocks
  pub record_size : length bytes ≡ record_len
