-- Laws of one call, on every desk and whatever path comes back: a good desk stays good; what one finish reads, and what it leaves. S is a byte. Assumes
-- nothing.
use Rattle.std.specs.Prelude.{ℕ, ◌<◌, ◌≤◌, ◌≡◌, ◌≢◌, true, List, [], ◌∷◌, length, Err, Ok}
use Rattle.sizes.specs.declared.Refusal.{Refusal}
use Rattle.sizes.specs.declared.Refusal.TheVariants.{Worn, Full}
use Rattle.sizes.specs.Refusals.{number_of}
use Rattle.sizes.specs.Sizes.{record_len}
use Rattle.bags.specs.Bags.{those}
use Rattle.slots.specs.Slots.{Block}
use Rattle.desk.specs.declared.Kind.{Kind}
use Rattle.desk.specs.Layout.{ids_of, room_of}
use Rattle.desk.specs.Readers.{sizes_of, key_of, status_of, kind_asked, id_asked, new_leaf, position_of, mark_of, stash_of}
use Rattle.desk.specs.Status.{ready_status, open_status, at_status}
use Rattle.desk.specs.Good.{good_desk}
use Rattle.items.specs.Items.{Means}
use Rattle.items.specs.Way.{Agree}
use Rattle.opening.specs.Opening.{view_of, is_id, gathered, Genuine}
use Rattle.store.specs.declared.Finished.TheVariants as finished
use Rattle.store.specs.Steps.{mark_for, was_marked, new_stash}
use Rattle.store.specs.Finish.{FinishResult}
use Rattle.promises.specs.Stores.{Store, Start, format_for, Accepted}

-- ---- format writes a good desk, ask and finish keep it good, refused or not

pub record KeepsGood (store : Store) : Type 0 where
  pub format : (b : Start) (lent : List ℕ) → (format_for b lent).answer ≡ Ok tt → good_desk (format_for b lent).desk ≡ true
  pub ask : (desk : List ℕ) (kind : Kind) (id leaf : ℕ) (rec : List ℕ) → good_desk desk ≡ true → good_desk (store.ask desk kind id leaf rec).desk ≡ true
  pub finish : (desk path buffer : List ℕ) → room_of desk < 256 → good_desk desk ≡ true → good_desk (store.finish desk path buffer).desk ≡ true

-- ---- bytes of items that are not reachable never matter

-- the same answer, desk and record buffer, and, where the finish is accepted, the same path; a refused one leaves each path as it was
pub record Alike (f g : FinishResult) : Type 0 where
  pub answer : f.answer ≡ g.answer
  pub desk : f.desk ≡ g.desk
  pub buffer : f.buffer ≡ g.buffer
  pub path : Accepted f.answer → f.path ≡ g.path

-- two paths of one length that have the same bytes in every reachable item get it
abbrev pub Unlooked : Store → Type 0
Unlooked store = (desk path path' buffer : List ℕ) → length path ≡ length path' → Agree (view_of desk) path path'
    → Alike (store.finish desk path buffer) (store.finish desk path' buffer)

-- ---- what an accepted finish leaves in a desk: `new` is the desk after it

pub record Leaves (m : Means) (desk path new : List ℕ) : Type 0 where
  -- it is ready, and sizes, key, N and S are as they were
  pub ready : status_of new ≡ ready_status
  pub sizes : sizes_of new ≡ sizes_of desk
  pub key : key_of new ≡ key_of desk
  pub ids : ids_of new ≡ ids_of desk
  pub room : room_of new ≡ room_of desk
  -- 4: the id's position is the new leaf in every case, Never included; its mark is 1 after a write, and as it was after a read
  pub position : position_of new (id_asked desk) ≡ new_leaf desk
  pub mark : mark_of new (id_asked desk) ≡ mark_for (kind_asked desk) (was_marked m desk path)
  -- every other id's are as they were
  pub positions : (id : ℕ) → 1 ≤ id → id ≤ ids_of desk → id ≢ id_asked desk → position_of new id ≡ position_of desk id
  pub marks : (id : ℕ) → 1 ≤ id → id ≤ ids_of desk → id ≢ id_asked desk → mark_of new id ≡ mark_of desk id
  -- 5: the stash is what remained after placing
  pub stash : stash_of new ≡ new_stash m desk path

-- 3: the record handed back is that of the one slot with the requested id, in the opened slots or in the stash
pub record HandsBack (m : Means) (desk path buffer : List ℕ) : Type 0 where
  pub slot : Block
  pub only : those (is_id (id_asked desk)) (gathered m desk path) ≡ slot ∷ []
  pub full_length : length slot.bytes ≡ record_len
  pub record_is : buffer ≡ slot.bytes

pub record EachFinish (m : Means) (store : Store) : Type 0 where
  pub unlooked : Unlooked store
  pub leaves : (desk path buffer : List ℕ) → room_of desk < 256 → Accepted (store.finish desk path buffer).answer → Leaves m desk path (store.finish desk path buffer).desk
  pub hands_back : (desk path buffer : List ℕ) → room_of desk < 256 → (store.finish desk path buffer).answer ≡ Ok finished.Record
      → HandsBack m desk path (store.finish desk path buffer).buffer
  -- Worn and Full are said of genuine paths only. They leave the old tree valid: neither path nor tree is written, and with the status byte put back the
  -- desk is the old one
  pub worn_genuine : (desk path buffer : List ℕ) → (store.finish desk path buffer).answer ≡ Err Worn → Genuine m desk path
  pub full_genuine : (desk path buffer : List ℕ) → (store.finish desk path buffer).answer ≡ Err Full → Genuine m desk path
  pub restored : (desk path buffer : List ℕ) (q : Refusal) → 9 ≤ number_of q → (store.finish desk path buffer).answer ≡ Err q
      → (at_status open_status (store.finish desk path buffer).desk ≡ desk) × ((store.finish desk path buffer).path ≡ path)
