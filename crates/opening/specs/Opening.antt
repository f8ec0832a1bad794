-- Finish, steps 1 and 2: what of a path is reachable, the blocks in it, the checks. Assumes nothing.
use Rattle.std.specs.Prelude.{ℕ, zero, suc, ◌+◌, ◌-◌, ◌^◌, ◌≤◌, ◌<◌, ◌≡◌, Bool, true, cond, not, ◌&&◌, ◌||◌, List, [], ◌∷◌, ◌++◌, drop, eqb, leb, ltb}
use Rattle.words.specs.Bytes.{same}
use Rattle.words.specs.Tests.{all}
use Rattle.bags.specs.Bags.{cnt, AllOf}
use Rattle.slots.specs.Slots.{Block}
use Rattle.desk.specs.Layout.{e_at, shape_of, ids_of}
use Rattle.desk.specs.Readers.{sizes_of, height_of, key_of, root_of, written_of, id_asked, leaf_asked, position_of, is_marked, stash_of}
use Rattle.items.specs.declared.View.{View}
use Rattle.items.specs.Items.{Means, counter_of, flag_of, item_digest, blocks_in}
use Rattle.items.specs.Way.{item, bucket, reachable, digest_due}
use Rattle.sizes.specs.Sizes.{bucket_at, count_len}
use Rattle.placing.specs.Placing.{on_way}
pub use Rattle.placing.specs.Ids.{is_id}

-- what these steps read from the desk
abbrev pub view_of : List ℕ → View
view_of desk = record { sizes = sizes_of desk; key = key_of desk; written = written_of desk; root = root_of desk; leaf = leaf_asked desk }

-- the slots of the stash
abbrev pub stash_slots : List ℕ → List ℕ
stash_slots desk = drop (e_at (shape_of desk) + count_len) desk

-- the blocks in the item at level k, if it is reachable; in the first n items
unfoldable pub found_at : Means → View → List ℕ → ℕ → List Block
found_at m v path k = cond (reachable v path k) (blocks_in m v.sizes v.key (bucket v k) (item v path k)) []

unfoldable pub found_to : Means → View → List ℕ → ℕ → List Block
found_to m v path zero = []
found_to m v path (suc k) = found_to m v path k ++ found_at m v path k

-- ---- 2. Checks, of each reachable item: its digest is the one due, and its flags are 0 or 1

abbrev pub digest_fits : Means → View → List ℕ → ℕ → Bool
digest_fits m v path k = not (reachable v path k) || same (item_digest m v.sizes k (item v path k)) (digest_due v path k)

abbrev pub flags_fit : View → List ℕ → ℕ → Bool
flags_fit v path k =
    not (reachable v path k) || (leb (flag_of v.sizes (item v path k) 0) 1 && leb (flag_of v.sizes (item v path k) 1) 1)

-- Worn: a reachable item has counter 2^64 - 1
abbrev pub last_counter : ℕ
last_counter = 2 ^ 64 - 1

abbrev pub is_worn : View → List ℕ → ℕ → Bool
is_worn v path k = reachable v path k && eqb (counter_of (item v path k)) last_counter

abbrev pub worn_in : View → List ℕ → Bool
worn_in v path = not (all (suc v.sizes.height) (λ k. not (is_worn v path k)))

-- of a block in a slot of level k: id at most N, marked, leaf equal to its position, the bucket on the way to that leaf
abbrev pub is_placed : List ℕ → ℕ → Block → Bool
is_placed desk k b =
    leb b.id (ids_of desk) && is_marked desk b.id && eqb b.leaf (position_of desk b.id) && on_way (sizes_of desk) (leaf_asked desk) k b

-- ---- 3. Looking up an id: the record part of its slot

unfoldable pub lookup : ℕ → List Block → List ℕ
lookup id [] = []
lookup id (b ∷ bs) = cond (is_id id b) b.bytes (lookup id bs)

module _ (m : Means) (desk path : List ℕ) where
  abbrev pub found : ℕ → List Block
  found k = found_at m (view_of desk) path k

  -- all blocks that are looked through: those of the path, and the stash
  unfoldable pub gathered : List Block
  gathered = found_to m (view_of desk) path (suc (height_of desk)) ++ stash_of desk

  -- of a block in a slot of level k: it is placed, and its id is nowhere else
  abbrev pub block_fits : ℕ → Block → Bool
  block_fits k b = is_placed desk k b && eqb (cnt (is_id b.id) gathered) 1

  abbrev pub each_fits : ℕ → List Block → Bool
  each_fits k [] = true
  each_fits k (b ∷ bs) = block_fits k b && each_fits k bs

  -- the requested id, if it is marked, is on the path or in the stash
  abbrev pub is_there : Bool
  is_there = not (is_marked desk (id_asked desk)) || ltb 0 (cnt (is_id (id_asked desk)) gathered)

  -- all that is asked of the opened slots
  abbrev pub slots_fit : Bool
  slots_fit = all (suc (height_of desk)) (λ k. each_fits k (found k)) && is_there

  -- all of them
  unfoldable pub genuine : Bool
  genuine =
      all (suc (height_of desk)) (digest_fits m (view_of desk) path) && all (height_of desk) (flags_fit (view_of desk) path)
      && all (suc (height_of desk)) (λ k. each_fits k (found k)) && is_there

  unfoldable pub worn : Bool
  worn = worn_in (view_of desk) path

  -- ---- the same checks, one by one

  abbrev pub Reach : ℕ → Type 0
  Reach k = (k ≤ height_of desk) × (reachable (view_of desk) path k ≡ true)

  pub record Genuine : Type 0 where
    pub digests : (k : ℕ) → Reach k → item_digest m (sizes_of desk) k (item (view_of desk) path k) ≡ digest_due (view_of desk) path k
    pub left-flags : (k : ℕ) → k < height_of desk → Reach k → flag_of (sizes_of desk) (item (view_of desk) path k) 0 ≤ 1
    pub right-flags : (k : ℕ) → k < height_of desk → Reach k → flag_of (sizes_of desk) (item (view_of desk) path k) 1 ≤ 1
    pub ids : (k : ℕ) → Reach k → AllOf (λ b. b.id ≤ ids_of desk) (found k)
    pub marks : (k : ℕ) → Reach k → AllOf (λ b. is_marked desk b.id ≡ true) (found k)
    pub positions : (k : ℕ) → Reach k → AllOf (λ b. b.leaf ≡ position_of desk b.id) (found k)
    pub ways : (k : ℕ) → Reach k → AllOf (λ b. bucket_at (sizes_of desk) b.leaf k ≡ bucket_at (sizes_of desk) (leaf_asked desk) k) (found k)
    pub once : (k : ℕ) → Reach k → AllOf (λ b. cnt (is_id b.id) gathered ≡ 1) (found k)
    pub there : is_marked desk (id_asked desk) ≡ true → 0 < cnt (is_id (id_asked desk)) gathered
