-- What the code gathers, plans and writes is what the paper gathers, places and writes. Assumes nothing.
use Prim.Native.Nat.{ℕ, suc, ◌+◌, ◌≤◌}
use mathlib.Core.Path.{◌≡◌, refl, sym, ap, subst, ◌∙◌}
use mathlib.Core.Bool.{Bool, true, false}
use mathlib.Core.List.{List, ◌++◌}
use lib.ListN.{length, take}
use Rattle.std.specs.Bool.{then_some}
use Rattle.sizes.specs.declared.Sizes.{Sizes}
use Rattle.bags.specs.Bags.{those}
use Rattle.slots.specs.Slots.{Block, is_used, blocks_of, Bytes}
use Rattle.desk.specs.declared.Kind.{Kind}
use Rattle.desk.specs.declared.Kind.TheVariants.{Read, Write}
use Rattle.desk.specs.Readers.{height_of, slots_in, sizes_of, kind_asked, id_asked, new_leaf, record_asked, leaf_asked, stash_count, stash_of}
use Rattle.items.specs.declared.View.{View}
use Rattle.items.specs.Way.{Reached}
use Rattle.items.specs.Real.{real}
use Rattle.items.proofs.Fields.{slots-of}
use Rattle.placing.specs.Placing.{sorted, placed_in}
use Rattle.placing.specs.Bank.{blocks_at, Planned}
use Rattle.placing.proofs.Planned.{bucket-fits}
use Rattle.placing.proofs.Laid.{fit_at, pick-fit}
use Rattle.gathering.specs.Gathering as gathering
use Rattle.gathering.proofs.Found.{used-found, place_is}
use Rattle.opening.specs.Opening.{view_of, stash_slots, found_at, found_to, gathered}
use Rattle.opening.specs.Walk.{Unsealed}
use Rattle.opening.proofs.Gathered.{opened-found, found_first}
use Rattle.desk.specs.Changes.{settled}
use Rattle.store.specs.Steps.{mark_for, carried, under, was_marked, record_found, to_place, new_path, new_root, new_desk}
use Rattle.store.specs.Carried.{is_there, carried_on}
use Rattle.store.specs.Ready.{request_of, carried_of}
use Rattle.store.specs.Laying.{Writable, Placed, Accepted}

-- ---- what is found in the working copy and in the stash

module _ (desk path w : List ℕ) (n : ℕ) (r : Reached (view_of desk) path n) (u : Unsealed (view_of desk) path n w) where
  used-is : gathering.used_to (sizes_of desk) w n ≡ found_to real (view_of desk) path (suc (height_of desk))
  unfolding found_to
  used-is =
      used-found (found_to real (view_of desk) path) (found_at real (view_of desk) path) refl (λ k. refl) (sizes_of desk) w n
      (λ k h. ap (λ (xs : List ℕ). those is_used (blocks_of (slots_in desk) xs)) (sym (slots-of (sizes_of desk) w k)) ∙ opened-found (view_of desk) path w n r u k h)
      ∙ sym (found_first (view_of desk) path w n r u)

  pub found-is : gathering.found (sizes_of desk) w n (stash_slots desk) (stash_count desk) ≡ gathered real desk path
  unfolding gathered
  found-is = ap (λ (bs : List Block). bs ++ stash_of desk) used-is

-- ---- what is placed

block-is : (kind : Kind) (marked : Bool) (id leaf : ℕ) (found asked : List ℕ)
    → gathering.block_if id (then_some (is_there kind marked) leaf) (carried_on kind marked found asked) ≡ under id leaf (carried kind marked found asked)
block-is Read true id leaf found asked = refl
block-is Read false id leaf found asked = refl
block-is Write marked id leaf found asked = refl

module _ (desk path : List ℕ) where
  pub place_same : gathering.to_place (request_of desk) (carried_of desk path) (gathered real desk path) ≡ to_place real desk path
  unfolding to_place
  place_same =
      place_is (request_of desk) (carried_of desk path) (gathered real desk path)
      ∙ ap (λ (bs : List Block). sorted (bs ++ those (gathering.is_other (id_asked desk)) (gathered real desk path)))
      (block-is (kind_asked desk) (was_marked real desk path) (id_asked desk) (new_leaf desk) (record_found real desk path) (record_asked desk))

-- ---- a plan can be written, and what is written by it is the paper's

module _ (s : Sizes) (leaf : ℕ) (blocks : List Block) (all over : ℕ) (bank places at : List ℕ) (p : Planned s leaf blocks all over bank places at) where
  pub plan-writable : (room : ℕ) → Bytes bank → over ≤ room → Writable s room over (take all at) (blocks_at bank (take all places))
  plan-writable room b h =
      record {
        buckets = bucket-fits s leaf blocks all over bank places at p;
        room_enough = h;
        held =
            record {
              count = ap length p.stash ∙ sym p.remains;
              fit = pick-fit (s.height + 1) (take all at) (blocks_at bank (take all places)) (fit_at bank (take all places) b p.inside);
            };
      }

  pub plan-placed : Placed s (take all at) (blocks_at bank (take all places)) (placed_in s leaf blocks)
  plan-placed h l = p.bucket h l

module _ (desk path : List ℕ) where
  module _ (all over : ℕ) (bank places at after changed : List ℕ) (p : Planned (sizes_of desk) (leaf_asked desk) (to_place real desk path) all over bank places at)
      (a : Accepted (view_of desk) path desk after changed (id_asked desk) (new_leaf desk) (mark_for (kind_asked desk) (was_marked real desk path)) (take all at) (blocks_at bank (take all places))) where
    pub path-accepted : after ≡ new_path real desk path
    path-accepted = a.path_is _ (plan-placed (sizes_of desk) (leaf_asked desk) (to_place real desk path) all over bank places at p)

    pub desk-accepted : changed ≡ new_desk real desk path
    unfolding new_desk
    desk-accepted =
        a.desk_is _ (plan-placed (sizes_of desk) (leaf_asked desk) (to_place real desk path) all over bank places at p)
        ∙ ap (λ (bs : List Block). settled (id_asked desk) (new_leaf desk) (mark_for (kind_asked desk) (was_marked real desk path)) bs (new_root real desk path) desk) p.stash

  -- with what the code reads
  pub followed : (v : View) (id leaf mark : ℕ) → v ≡ view_of desk → id ≡ id_asked desk → leaf ≡ new_leaf desk → mark ≡ mark_for (kind_asked desk) (was_marked real desk path)
      → (all over : ℕ) (bank places at after changed : List ℕ) → Planned v.sizes v.leaf (to_place real desk path) all over bank places at
      → Accepted v path desk after changed id leaf mark (take all at) (blocks_at bank (take all places)) → (after ≡ new_path real desk path) × (changed ≡ new_desk real desk path)
  followed v id leaf mark e i l m all over bank places at after changed p a =
      let bs : List Block = blocks_at bank (take all places) in
      let p₁ = subst (λ (x : View). Planned x.sizes x.leaf (to_place real desk path) all over bank places at) e p in
      let a₁ = subst (λ (x : View). Accepted x path desk after changed id leaf mark (take all at) bs) e a in
      let a₂ = subst (λ (x : ℕ). Accepted (view_of desk) path desk after changed x leaf mark (take all at) bs) i a₁ in
      let a₃ = subst (λ (x : ℕ). Accepted (view_of desk) path desk after changed (id_asked desk) x mark (take all at) bs) l a₂ in
      let a₄ = subst (λ (x : ℕ). Accepted (view_of desk) path desk after changed (id_asked desk) (new_leaf desk) x (take all at) bs) m a₃ in
      (path-accepted all over bank places at after changed p₁ a₄, desk-accepted all over bank places at after changed p₁ a₄)
