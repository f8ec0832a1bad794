-- A desk keeps its shape through each change, so that it stays whole. Assumes nothing.
use Prim.Native.Nat.{ℕ, ◌≤◌}
use mathlib.Core.Path.{◌≡◌, ap, subst, sym, ◌∙◌}
use mathlib.Core.List.{List}
use lib.ListN.{length}
use Rattle.sizes.specs.Sizes.{digest_len}
use Rattle.slots.specs.Slots.{Block, AllFit}
use Rattle.desk.specs.declared.Shape.{Shape}
use Rattle.desk.specs.Layout.{Whole, Small, shape_len, ids_of, room_of, shape_of}
use Rattle.desk.specs.Changes.{with_place, with_root, with_stash}
use Rattle.desk.proofs.Changed.{Same, unchanged, same_shape, place-changed, root-changed, stash-changed}
use Rattle.desk.proofs.Stash.{length-stash}

same_whole : {xs ys : List ℕ} → Whole xs → Same xs ys → Whole ys
same_whole {xs} {ys} w s =
    let e : shape_of ys ≡ shape_of xs = same_shape s in
    record {
      size = s.size ∙ w.size ∙ ap shape_len (sym e);
      small = subst (λ (h : Shape). Small h) (sym e) w.small;
    }

module _ (desk : List ℕ) (w : Whole desk) where
  pub place-whole : (id leaf mark : ℕ) → 1 ≤ id → id ≤ ids_of desk → Whole (with_place id leaf mark desk)
  place-whole id leaf mark low high = same_whole w (place-changed w.size (unchanged desk) id leaf mark low high).same

  pub root-whole : (digest : List ℕ) → length digest ≡ digest_len → Whole (with_root digest desk)
  root-whole digest l = same_whole w (root-changed w.size (unchanged desk) digest l).same

  pub stash-whole : (bs : List Block) → AllFit (shape_of desk).r bs → length bs ≤ room_of desk → Whole (with_stash bs desk)
  stash-whole bs fit few = same_whole w (stash-changed w.size (unchanged desk) bs (length-stash (shape_of desk) bs fit few)).same

  -- the number of ids and the room stay with the shape
  pub place-room : (id leaf mark : ℕ) → 1 ≤ id → id ≤ ids_of desk → room_of (with_place id leaf mark desk) ≡ room_of desk
  place-room id leaf mark low high = ap (λ (h : Shape). h.s) (same_shape (place-changed w.size (unchanged desk) id leaf mark low high).same)
