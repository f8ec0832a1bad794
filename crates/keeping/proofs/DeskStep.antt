-- The desk that an accepted finish leaves, whatever path came back: what it holds, and that it is good. Assumes nothing but what is asked of digest and
-- cipher.
use Prim.Native.Nat.{ℕ, ◌≤◌}
use mathlib.Core.Path.{◌≡◌, ap, ◌∙◌}
use mathlib.Core.Bool.{true}
use mathlib.Core.List.{List}
use native.Mathlib.Omega.{arith}
use lib.ListN.{length, drop}
use Rattle.words.specs.Bytes.{zeros}
use Rattle.sizes.specs.Sizes.{digest_len, count_len}
use Rattle.slots.specs.Slots.{Block, blocks_by}
use Rattle.desk.specs.declared.Shape.{Shape}
use Rattle.desk.specs.Layout.{c_len, room_of, shape_of}
use Rattle.desk.specs.Readers.{sizes_of, height_of, kind_asked, id_asked, new_leaf, stash_of}
use Rattle.desk.specs.Status.{ready_status}
use Rattle.desk.specs.Good.{good_desk}
use Rattle.desk.specs.Changes.{stash_bytes}
use Rattle.desk.specs.Parts.{Parts, to_status, to_request, to_root, to_stash}
use Rattle.desk.proofs.Changed.{Changed}
use Rattle.desk.proofs.Read.{read-stash}
use Rattle.desk.proofs.Stash.{stash-count, stash-blocks}
use Rattle.desk.proofs.Moved.{settled-changed, settled-good}
use Rattle.items.specs.Items.{Means, Sound, masked}
use Rattle.opening.specs.Opening.{view_of}
use Rattle.writing.specs.Writing.{written}
use Rattle.store.specs.Steps.{was_marked, placed, new_stash, new_root, new_desk}
use Rattle.keeping.proofs.MovedStep.{Checked, mark, parts_moved, asks, leaf_low, mark-low}
use Rattle.keeping.proofs.PlacedStep.{stash-fits, stash-placed, stash-rising}

module _ (m : Means) (o : Sound m) (desk path : List ℕ) (c : Checked m desk path) (room : length (new_stash m desk path) ≤ room_of desk) where
  abbrev h : Shape
  h = shape_of desk

  abbrev bs : List Block
  bs = new_stash m desk path

  abbrev now : List ℕ
  now = new_desk m desk path

  root-length : length (new_root m desk path) ≡ digest_len
  root-length = o.digest_length (masked (sizes_of desk) 0 (written m (view_of desk) path (placed m desk path) (height_of desk)).top)

  abbrev pub parts_now : Parts
  parts_now = to_status ready_status (to_request (zeros (c_len h)) (to_root (new_root m desk path) (to_stash h bs (parts_moved m desk path c))))

  pub now-changed : Changed desk now parts_now
  unfolding new_desk
  now-changed =
      settled-changed desk c.good (id_asked desk) (new_leaf desk) (mark m desk path c) bs (new_root m desk path) (asks m desk path c).id_low (asks m desk path c).id_high
      (stash-fits m o desk path c) room root-length

  pub now-good : good_desk now ≡ true
  unfolding new_desk
  now-good =
      settled-good desk c.good (id_asked desk) (new_leaf desk) (mark m desk path c) bs (new_root m desk path) (asks m desk path c).id_low (asks m desk path c).id_high
      (stash-fits m o desk path c) room root-length (leaf_low m desk path c) (mark-low (kind_asked desk) (was_marked m desk path))
      (record { room = room; rising = stash-rising m o desk path c; placed = stash-placed m o desk path c }) (omega (arith, c.byte))

  pub now-stash : stash_of now ≡ bs
  now-stash =
      let f = stash-fits m o desk path c in
      read-stash now-changed
      ∙ ap (λ (n : ℕ). blocks_by h.r n (drop count_len (stash_bytes h bs))) (stash-count h bs f room (omega (arith, c.byte))) ∙ stash-blocks h bs f room
