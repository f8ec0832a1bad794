-- Demand 2: a store over an honest server is a plain table. Assumes nothing.
use Rattle.std.specs.Prelude.{ℕ, suc, ◌+◌, ◌-◌, ◌<◌, ◌≤◌, ◌≡◌, ◌≢◌, ◌↔◌, true, cond, List, [], ◌++◌, length, get_or, Err, Ok}
use Rattle.std.proofs.Math.Option.{none, some}
use Rattle.sizes.specs.declared.Refusal.TheVariants.{Forged, Worn, Full}
use Rattle.sizes.specs.Sizes.{record_len, leaves, item_of, path_len, bucket_at}
use Rattle.bags.specs.Bags.{those}
use Rattle.slots.specs.Slots.{Block, slots_with, Rising}
use Rattle.desk.specs.Layout.{ids_of, room_of}
use Rattle.desk.specs.Readers.{sizes_of, height_of, key_of, root_of, is_written, status_of, is_marked, leaf_asked, kind_asked, id_asked, new_leaf, record_asked, stash_of}
use Rattle.desk.specs.Status.{ready_status, open_status}
use Rattle.desk.specs.Good.{good_desk}
use Rattle.items.specs.Items.{Means, counter_of, flag_of, digest_of, item_digest, blocks_in, slots_opened}
use Rattle.items.specs.Way.{reachable}
use Rattle.opening.specs.Opening.{view_of, is_id, last_counter, Reach, Genuine}
use Rattle.writing.specs.Writing.{new_flag, new_digest}
use Rattle.asks.specs.Ask.{record_fits, record_bytes}
use Rattle.store.specs.Steps.{placed, new_stash}
use Rattle.keeping.specs.Server.{standing}
use Rattle.keeping.specs.Table.{plain_answer, plain_buffer, place_of, ever_written}
use Rattle.promises.specs.Stores.{Store, Start, Request, Accepted}
use Rattle.promises.specs.Steps.{State, ask_for, finish_for, returned, agreeing, Reached}

-- ---- Forged exactly if a check fails; Worn and Full by their rows: on any good open desk, whatever path comes back

-- an open desk, a path and a record buffer of the right lengths
pub record Ready (desk path buffer : List ℕ) : Type 0 where
  pub good : good_desk desk ≡ true
  pub status : status_of desk ≡ open_status
  pub path_length : length path ≡ path_len (sizes_of desk)
  pub buffer_length : length buffer ≡ record_len

-- a reachable item has counter 2^64 - 1
abbrev pub WornOut : Means → List ℕ → List ℕ → Type 0
WornOut m desk path = (k : ℕ) × Reach m desk path k × (counter_of (item_of (sizes_of desk) path k) ≡ last_counter)

-- the refusals of an open desk: `Genuine` (opening/specs) has one field for each check of step 2
pub record Exactly (m : Means) (store : Store) : Type 0 where
  pub forged : (desk path buffer : List ℕ) → Ready desk path buffer
      → ((store.finish desk path buffer).answer ≡ Err Forged) ↔ (Genuine m desk path → ⊥)
  pub worn : (desk path buffer : List ℕ) → Ready desk path buffer → Genuine m desk path
      → ((store.finish desk path buffer).answer ≡ Err Worn) ↔ WornOut m desk path
  pub full : (desk path buffer : List ℕ) → Ready desk path buffer → Genuine m desk path
      → ((store.finish desk path buffer).answer ≡ Err Full)
      ↔ ((WornOut m desk path → ⊥) × (room_of desk < length (new_stash m desk path)))
  pub otherwise : (desk path buffer : List ℕ) → Ready desk path buffer → Genuine m desk path → (WornOut m desk path → ⊥)
      → length (new_stash m desk path) ≤ room_of desk → Accepted (store.finish desk path buffer).answer

-- ---- what holds in a state

-- what stands on the server, as far as flags lead, and in the stash: path, stash, and elsewhere in the tree
abbrev pub blocks_of_store : Means → Start → State → List Block
blocks_of_store m b st =
    standing m b.sizes b.key st.server b.sizes.height 0 0 (is_written st.desk) ++ stash_of st.desk

-- an open request as body (c) holds it
pub record Holds (desk : List ℕ) (r : Request) : Type 0 where
  pub kind : kind_asked desk ≡ r.kind
  pub id : id_asked desk ≡ r.id
  pub leaf : new_leaf desk ≡ r.leaf
  pub content : record_asked desk ≡ record_bytes record_len r.kind r.content

-- step 6, item by item: `new` is the path as it is given back
pub record Writes (m : Means) (desk path new : List ℕ) (k : ℕ) : Type 0 where
  -- the counter is the old one plus 1 if the item was reachable, else 1
  pub counter : counter_of (item_of (sizes_of desk) new k)
      ≡ cond (reachable (view_of desk) path k) (counter_of (item_of (sizes_of desk) path k) + 1) 1
  -- its slots hold, under the key, the blocks placed at this level, by rising id, and then zeros
  pub slots : slots_opened m (sizes_of desk) (key_of desk) (bucket_at (sizes_of desk) (leaf_asked desk) k) (item_of (sizes_of desk) new k)
      ≡ slots_with (sizes_of desk).slots (get_or (placed m desk path) (height_of desk - k) [])
  pub rising : Rising 0 (get_or (placed m desk path) (height_of desk - k) [])
  pub blocks : blocks_in m (sizes_of desk) (key_of desk) (bucket_at (sizes_of desk) (leaf_asked desk) k) (item_of (sizes_of desk) new k)
      ≡ get_or (placed m desk path) (height_of desk - k) []
  -- flags and digests of the children; the child on the path has its new digest
  pub flags : k < height_of desk → (side : ℕ) → side ≤ 1 → flag_of (sizes_of desk) (item_of (sizes_of desk) new k) side ≡ new_flag m (view_of desk) path (placed m desk path) k side
  pub digests : k < height_of desk → (side : ℕ) → side ≤ 1
      → digest_of (sizes_of desk) (item_of (sizes_of desk) new k) side
      ≡ new_digest m (view_of desk) path (placed m desk path) k (item_digest m (sizes_of desk) (suc k) (item_of (sizes_of desk) new (suc k))) side

pub record Kept (m : Means) (store : Store) (b : Start) (hands : List ℕ → Type 0) (st : State) : Type 0 where
  pub good : good_desk st.desk ≡ true
  -- its sizes, key, N and S are those that it was formatted with
  pub sizes : sizes_of st.desk ≡ b.sizes
  pub key : key_of st.desk ≡ b.key
  pub ids : ids_of st.desk ≡ b.ids
  pub room : room_of st.desk ≡ b.room
  -- an open desk has a request, and body (c) holds it; a ready desk has none
  pub opens : status_of st.desk ≡ open_status → (r : Request) × (st.open_request ≡ some r) × Holds st.desk r
  pub is_ready : status_of st.desk ≡ ready_status → st.open_request ≡ none
  -- at a ready desk an ask in range is accepted and answers the leaf last drawn for the id; no ask is answered by another leaf
  pub takes : status_of st.desk ≡ ready_status → (r : Request) → 1 ≤ r.id → r.id ≤ b.ids → r.leaf < leaves b.sizes
      → record_fits record_len r.kind r.content ≡ true → (ask_for store st r).answer ≡ Ok (st.drawn r.id)
  pub shows : (r : Request) (p : ℕ) → (ask_for store st r).answer ≡ Ok p → p ≡ st.drawn r.id
  -- finish over a path that may be handed back is never Forged; it is Worn and Full exactly by their rows, and else accepted
  pub never_forged : (path buffer : List ℕ) → hands path → (finish_for store st path buffer).answer ≢ Err Forged
  pub worn : (path buffer : List ℕ) → hands path → Ready st.desk path buffer
      → ((finish_for store st path buffer).answer ≡ Err Worn) ↔ WornOut m st.desk path
  pub full : (path buffer : List ℕ) → hands path → Ready st.desk path buffer
      → ((finish_for store st path buffer).answer ≡ Err Full)
      ↔ ((WornOut m st.desk path → ⊥) × (b.room < length (new_stash m st.desk path)))
  pub otherwise : (path buffer : List ℕ) → hands path → Ready st.desk path buffer
      → (WornOut m st.desk path → ⊥) → length (new_stash m st.desk path) ≤ b.room → Accepted (finish_for store st path buffer).answer
  -- where it is accepted it answers as the plain table does, and the buffer holds what the table's would
  pub plain : (path buffer : List ℕ) → hands path → Accepted (finish_for store st path buffer).answer → (r : Request) → st.open_request ≡ some r
      → ((finish_for store st path buffer).answer ≡ Ok (plain_answer r.kind (st.table r.id)))
      × ((finish_for store st path buffer).buffer ≡ plain_buffer r.kind (st.table r.id) buffer)
  -- and it writes the path as step 6 says, with the root digest in the desk, which is ready again
  pub writes : (path buffer : List ℕ) → hands path → Accepted (finish_for store st path buffer).answer → (k : ℕ) → k ≤ b.sizes.height
      → Writes m st.desk path (finish_for store st path buffer).path k
  pub closes : (path buffer : List ℕ) → hands path → Accepted (finish_for store st path buffer).answer
      → (status_of (finish_for store st path buffer).desk ≡ ready_status) × (is_written (finish_for store st path buffer).desk ≡ true)
      × (root_of (finish_for store st path buffer).desk ≡ item_digest m b.sizes 0 (item_of b.sizes (finish_for store st path buffer).path 0))
  -- every id ever written, and no other, is marked, and stands in exactly one place, under its position, with the table's record
  pub marks : (id : ℕ) → 1 ≤ id → id ≤ b.ids → (is_marked st.desk id ≡ true) ↔ (st.table id ≢ none)
  pub one_place : (id : ℕ) → 1 ≤ id → id ≤ b.ids → those (is_id id) (blocks_of_store m b st) ≡ place_of st.desk id (st.table id)
  -- there are as many blocks as ids ever written, and at most S of them in the stash
  pub count : length (blocks_of_store m b st) ≡ ever_written st.table b.ids
  pub stash_room : length (stash_of st.desk) ≤ b.room

-- ---- the demand: S is a byte

abbrev pub DemandTwo : Means → Store → Type 0
DemandTwo m store = (b : Start) → b.room < 256 → (st : State) → Reached store b (returned b) st → Kept m store b (returned b st) st

-- the same of any server, as long as its paths agree where they are reachable with what was last written; every returned path does
abbrev pub DemandTwoReachable : Means → Store → Type 0
DemandTwoReachable m store = (b : Start) → b.room < 256 → (st : State) → Reached store b agreeing st → Kept m store b (agreeing st) st
