-- A desk with an open request and a path that passes the checks; and the desk with the requested id's place written: its position is the new leaf, its mark
-- what the request makes of it, and every other place is as it was. Assumes nothing.
use Prim.Native.Nat.{ℕ, ◌<◌, ◌≤◌}
use mathlib.Core.Path.{◌≡◌}
use mathlib.Core.Logic.{◌≢◌}
use mathlib.Core.Bool.{Bool, true, false}
use mathlib.Core.List.{List}
use native.Mathlib.Omega.{arith}
use lib.ListN.{length}
use lib.Dec.{eqb}
use borrow.Author.Tests.{eqb-true, eqb-false}
use Rattle.words.proofs.Tests.{by_cases}
use Rattle.sizes.specs.Sizes.{leaves, path_len}
use Rattle.sizes.proofs.Lengths.{leaves_most}
use Rattle.desk.specs.declared.Kind.{Kind}
use Rattle.desk.specs.declared.Kind.TheVariants.{Read, Write}
use Rattle.desk.specs.Layout.{shape_len, ids_of, room_of, shape_of}
use Rattle.desk.specs.Readers.{sizes_of, status_of, kind_asked, id_asked, new_leaf, position_of, mark_of}
use Rattle.desk.specs.Status.{ready_status, open_status}
use Rattle.desk.specs.Good.{Good, good_desk}
use Rattle.desk.specs.Changes.{with_place}
use Rattle.desk.specs.Parts.{Parts, parts_of, to_place}
use Rattle.desk.proofs.Known.{known}
use Rattle.desk.proofs.Changed.{Changed, unchanged, place-changed}
use Rattle.desk.proofs.Exactly.{good-conditions}
use Rattle.items.specs.Items.{Means}
use Rattle.opening.specs.Opening.{Genuine}
use Rattle.store.specs.Steps.{mark_for, was_marked}
use Rattle.keeping.proofs.Genuine.{Asks, asks_of}
use Rattle.keeping.proofs.Positions.{moved-self, moved_other, marked-self, marked_other}

-- what finish knows once the checks are behind it; S is a byte
pub record Checked (m : Means) (desk path : List ℕ) : Type 0 where
  pub good : good_desk desk ≡ true
  pub status : status_of desk ≡ open_status
  pub byte : room_of desk ≤ 255
  pub size : length path ≡ path_len (sizes_of desk)
  pub genuine : Genuine m desk path

pub mark-low : (kind : Kind) (marked : Bool) → mark_for kind marked ≤ 1
mark-low Read true = omega arith
mark-low Read false = omega arith
mark-low Write marked = omega arith

module _ (m : Means) (desk path : List ℕ) (c : Checked m desk path) where
  abbrev id : ℕ
  id = id_asked desk

  abbrev pub mark : ℕ
  mark = mark_for (kind_asked desk) (was_marked m desk path)

  abbrev pub moved : List ℕ
  moved = with_place id (new_leaf desk) mark desk

  abbrev pub parts_moved : Parts
  parts_moved = to_place id (new_leaf desk) mark (parts_of desk)

  pub size : length desk ≡ shape_len (shape_of desk)
  size = (known desk c.good).size

  pub conditions : Good desk
  conditions = good-conditions desk c.good

  pub asks : Asks desk
  asks = asks_of desk c.good c.status

  busy : status_of desk ≡ ready_status → ⊥
  busy e = omega (arith, c.status)

  pub leaf_low : new_leaf desk < leaves (sizes_of desk)
  leaf_low = conditions.asked_leaf busy

  pub leaves-few : leaves (sizes_of desk) ≤ 4096
  leaves-few = leaves_most (sizes_of desk) conditions.height_high

  leaf-small : new_leaf desk < 65536
  leaf-small = omega (arith, leaf_low, leaves-few)

  pub moved-changed : Changed desk moved parts_moved
  moved-changed = place-changed size (unchanged desk) id (new_leaf desk) mark asks.id_low asks.id_high

  -- in any desk with these places
  module _ {ys : List ℕ} {p : Parts} (ch : Changed desk ys p) (e : p.places ≡ parts_moved.places) where
    pub position-new : position_of ys id ≡ new_leaf desk
    position-new = moved-self desk size id (new_leaf desk) mark asks.id_low asks.id_high ch e leaf-small

    pub position-old : (u : ℕ) → 1 ≤ u → u ≤ ids_of desk → u ≢ id → position_of ys u ≡ position_of desk u
    position-old = moved_other desk size id (new_leaf desk) mark asks.id_low asks.id_high ch e

    pub mark-new : mark_of ys id ≡ mark
    mark-new = marked-self desk size id (new_leaf desk) mark asks.id_low asks.id_high ch e

    pub mark-old : (u : ℕ) → 1 ≤ u → u ≤ ids_of desk → u ≢ id → mark_of ys u ≡ mark_of desk u
    mark-old = marked_other desk size id (new_leaf desk) mark asks.id_low asks.id_high ch e

    pub position-low : (u : ℕ) → 1 ≤ u → u ≤ ids_of desk → position_of ys u < leaves (sizes_of desk)
    position-low u g l =
        by_cases (eqb u id)
        (λ q. rw (eqb-true u id q, position-new) leaf_low)
        (λ q. rw (position-old u g l (eqb-false u id q)) (conditions.every_position u g l))
