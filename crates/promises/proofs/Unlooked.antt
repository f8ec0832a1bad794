-- Bytes of items that are not reachable never matter to a finish: paths of one length that agree where they are reachable are finished alike. Assumes
-- nothing.
use Rattle.std.specs.Prelude.{Ok, Result}
use Rattle.sizes.specs.declared.Refusal.{Refusal}
use Prim.Native.Nat.{ℕ}
use mathlib.Core.Path.{◌≡◌, refl, sym, ap, ap₂, ◌∙◌}
use mathlib.Core.Bool.{not}
use mathlib.Core.List.{List, ◌++◌}
use lib.ListN.{length}
use Rattle.sizes.specs.Refusals.{kept_or}
use Rattle.bags.specs.Bags.{those}
use Rattle.slots.specs.Slots.{Block}
use Rattle.desk.specs.Readers.{sizes_of, kind_asked, id_asked, new_leaf, record_asked, leaf_asked, is_marked}
use Rattle.desk.specs.Status.{stopped_or}
use Rattle.items.specs.Items.{Means}
use Rattle.items.specs.Way.{Agree}
use Rattle.opening.specs.Opening.{view_of, is_id, lookup}
use Rattle.opening.proofs.Agree.{gathered-agree, worn-agree, genuine-agree}
use Rattle.placing.specs.Placing.{sorted, placed_in, remaining}
use Rattle.writing.specs.Writing.{path_written, root_written}
use Rattle.writing.proofs.Agree.{path-agree, root-agree}
use Rattle.store.specs.Steps.{answer_for, buffer_for, carried, under, to_place, placed, new_stash, new_path, new_root, new_desk}
use Rattle.store.specs.Finish.{finish_checked, finished_or}
use Rattle.promises.specs.Stores.{ours}
use Rattle.promises.specs.Finishes.{Unlooked}
use Rattle.promises.proofs.Answers.{finished-done}

module _ (m : Means) (desk xs ys : List ℕ) (agree : Agree (view_of desk) xs ys) where
  same_place : to_place m desk xs ≡ to_place m desk ys
  unfolding to_place
  same_place =
      ap (λ (bs : List Block).
      sorted
      (under (id_asked desk) (new_leaf desk) (carried (kind_asked desk) (is_marked desk (id_asked desk)) (lookup (id_asked desk) bs) (record_asked desk))
      ++ those (λ b. not (is_id (id_asked desk) b)) bs)) (gathered-agree m desk xs ys agree)

  same-placed : placed m desk xs ≡ placed m desk ys
  same-placed = ap (placed_in (sizes_of desk) (leaf_asked desk)) same_place

  same-stash : new_stash m desk xs ≡ new_stash m desk ys
  same-stash = ap (remaining (sizes_of desk) (leaf_asked desk)) same_place

  same-path : new_path m desk xs ≡ new_path m desk ys
  same-path = path-agree m (view_of desk) xs ys (placed m desk xs) agree ∙ ap (path_written m (view_of desk) ys) same-placed

  same-root : new_root m desk xs ≡ new_root m desk ys
  same-root = root-agree m (view_of desk) xs ys (placed m desk xs) agree ∙ ap (root_written m (view_of desk) ys) same-placed

  same-desk : new_desk m desk xs ≡ new_desk m desk ys
  unfolding new_desk
  same-desk = rw (same-root, same-stash) refl

  module _ (buffer : List ℕ) (size : length xs ≡ length ys) where
    same-checked : finish_checked m desk xs buffer ≡ finish_checked m desk ys buffer
    unfolding finish_checked
    same-checked = rw (size, genuine-agree m desk xs ys agree, worn-agree m desk xs ys agree, same-stash) refl

pub unlooked : (m : Means) → Unlooked (ours m)
unlooked m desk xs ys buffer size agree =
    let c = same-checked m desk xs ys agree buffer size in
    let k = kind_asked desk in
    let w = is_marked desk (id_asked desk) in
    record {
      answer = ap (λ (o : Result Unit Refusal). finished_or o (answer_for k w)) c;
      desk = ap₂ (λ (o : Result Unit Refusal) (d : List ℕ). stopped_or o desk d) c (same-desk m desk xs ys agree);
      buffer =
          ap₂ (λ (o : Result Unit Refusal) (bs : List Block). kept_or o buffer (buffer_for k w (lookup (id_asked desk) bs) buffer)) c (gathered-agree m desk xs ys agree);
      path =
          λ a.
          let d : finish_checked m desk xs buffer ≡ Ok tt = finished-done (finish_checked m desk xs buffer) _ a in
          let e : finish_checked m desk ys buffer ≡ Ok tt = sym c ∙ d in
          ap (λ (o : Result Unit Refusal). kept_or o xs (new_path m desk xs)) d ∙ same-path m desk xs ys agree ∙ sym (ap (λ (o : Result Unit Refusal). kept_or o ys (new_path m desk ys)) e);
    }
