-- One position and mark, and the stash, changed together: parts that stay sound; and so the desk that an accepted request leaves is good. Assumes nothing.
use Prim.Native.Nat.{ℕ, ◌-◌, ◌≤◌, ◌<◌}
use mathlib.Core.Path.{◌≡◌}
use mathlib.Core.Bool.{true}
use mathlib.Core.List.{List}
use native.Mathlib.Omega.{arith}
use lib.ListN.{length}
use Rattle.words.specs.Bytes.{zeros}
use Rattle.words.proofs.Splice.{length_part, length-zeros}
use Rattle.sizes.specs.Sizes.{leaves, digest_len, d_len}
use Rattle.sizes.proofs.Lengths.{leaves_most}
use Rattle.slots.specs.Slots.{Block, AllFit}
use Rattle.desk.specs.Layout.{c_len, d_at, e_at, ids_of, room_of, shape_of}
use Rattle.desk.specs.Readers.{sizes_of}
use Rattle.desk.specs.Status.{ready_status}
use Rattle.desk.specs.Changes.{settled}
use Rattle.desk.specs.Good.{good_desk}
use Rattle.desk.specs.Parts.{Parts, parts_of, to_status, to_request, to_root, to_place, to_stash}
use Rattle.desk.specs.Stash.{Stashed}
use Rattle.desk.proofs.Known.{known}
use Rattle.desk.proofs.Changed.{Changed, unchanged, status-changed, request-changed, place-changed, stash-changed, root-changed}
use Rattle.desk.proofs.Frame.{Sound, good-sound, ready-sound, root-sound, changed-good}
use Rattle.desk.proofs.Places.{place-good}
use Rattle.desk.proofs.Stash.{length-stash, stash_is_good}

pub moved-sound : {desk : List ℕ} {v : Parts} (id leaf mark : ℕ) (bs : List Block) → Sound desk v → d_len (ids_of desk) ≤ length v.places → 1 ≤ id → id ≤ ids_of desk
    → leaf < leaves (sizes_of desk) → leaf < 65536 → mark ≤ 1
    → Stashed (shape_of desk) (to_place id leaf mark v).places bs → AllFit (shape_of desk).r bs → length bs < 65536
    → Sound desk (to_stash (shape_of desk) bs (to_place id leaf mark v))
moved-sound {desk} {v} id leaf mark bs s long low high l w m st fit few =
    record {
      status_high = s.status_high;
      written_high = s.written_high;
      request_is_good = s.request_is_good;
      places_are_good = place-good v.places (ids_of desk) id leaf mark long low high (leaves (sizes_of desk)) l w m s.places_are_good;
      stash_is_good = stash_is_good (shape_of desk) (to_place id leaf mark v).places bs st fit few;
    }

-- ---- an accepted request: position and mark, stash, root digest, no request, ready

module _ (desk : List ℕ) (g : good_desk desk ≡ true) (id leaf mark : ℕ) (bs : List Block) (digest : List ℕ) (low : 1 ≤ id) (high : id ≤ ids_of desk) (fit : AllFit (shape_of desk).r bs)
    (room : length bs ≤ room_of desk) (long : length digest ≡ digest_len) where
  abbrev moved : Parts
  moved = to_stash (shape_of desk) bs (to_place id leaf mark (parts_of desk))

  abbrev none : List ℕ
  none = zeros (c_len (shape_of desk))

  pub settled-changed : Changed desk (settled id leaf mark bs digest desk) (to_status ready_status (to_request none (to_root digest moved)))
  unfolding settled
  settled-changed =
      let w = (known desk g).size in
      let p = place-changed w (unchanged desk) id leaf mark low high in
      let s = stash-changed w p bs (length-stash (shape_of desk) bs fit room) in
      let r = root-changed w s digest long in
      status-changed w (request-changed w r none (length-zeros (c_len (shape_of desk)))) ready_status

  pub settled-good : leaf < leaves (sizes_of desk) → mark ≤ 1 → Stashed (shape_of desk) moved.places bs → length bs < 65536
      → good_desk (settled id leaf mark bs digest desk) ≡ true
  settled-good l m st few =
      let k = known desk g in
      let d : d_len (ids_of desk) ≤ length (parts_of desk).places =
      omega (arith, k.size, length_part desk (d_at (shape_of desk)) (e_at (shape_of desk) - d_at (shape_of desk)) (omega (arith, k.size))) in
      let small : leaf < 65536 = omega (arith, leaves_most (sizes_of desk) k.head.sizes.height_high) in
      changed-good g settled-changed (ready-sound (c_len (shape_of desk)) (root-sound digest (moved-sound id leaf mark bs (good-sound desk g) d low high l small m st fit few)))
