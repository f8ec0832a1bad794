-- Where a lookup through the working copy and the stash finds the record that a lookup through all that is gathered finds. Assumes nothing.
use Prim.Native.Nat.{ℕ, zero, suc, ◌+◌, ◌-◌, ◌*◌, ◌≤◌, ◌<◌}
use mathlib.Core.Path.{◌≡◌, refl, sym, ap, ◌∙◌}
use mathlib.Core.List.{List, ◌++◌}
use native.Mathlib.Nat.{zero-add, suc-add}
use native.Mathlib.Numerals.{add-one}
use native.Mathlib.Omega.{arith}
use lib.ListN.{length}
use Rattle.words.proofs.Tests.{below_or}
use Rattle.sizes.specs.Sizes.{record_len, slot_len}
use Rattle.bags.specs.Bags.{cnt, those}
use Rattle.bags.proofs.Bags.{cnt-append}
use Rattle.slots.specs.Slots.{Block, is_used, blocks_of}
use Rattle.desk.specs.Readers.{height_of, slots_in, sizes_of, stash_of}
use Rattle.items.specs.Items.{slots_of}
use Rattle.items.specs.Way.{item, Reached}
use Rattle.items.specs.Real.{real}
use Rattle.opening.specs.Opening.{view_of, is_id, found_to, found, gathered, lookup}
use Rattle.opening.specs.Walk.{Unsealed}
use Rattle.opening.proofs.Seen.{used-counts}
use Rattle.opening.proofs.Found.{records-long, lookup-none, lookup-skip, lookup-stay, lookup-used, lookup-long}
use Rattle.opening.proofs.Levels.{slots_held, found-slots, found-more, found_all, reach}

module _ (desk w : List ℕ) (n id : ℕ) (low : 0 < id) (path : List ℕ) (r : Reached (view_of desk) path n) (u : Unsealed (view_of desk) path n w) where
  abbrev to : ℕ → List Block
  to k = found_to real (view_of desk) path k

  -- once found, it stays the one that is found
  stays : (d k : ℕ) → 0 < cnt (is_id id) (to k) → lookup id (to (d + k)) ≡ lookup id (to k)
  unfolding found_to
  stays zero k h = rw zero-add
  stays (suc d) k h =
      rw (suc-add d k)
      (lookup-stay id (to (d + k)) (found real desk path (d + k)) (omega (arith, found-more desk path id d k)) ∙ stays d k h)

  module _ (k : ℕ) (h : k < n) (none : cnt (is_id id) (to k) ≡ 0) where
    held : found real desk path k ≡ those is_used (slots_held (view_of desk) w k)
    held = found-slots desk path k (reach desk path n r k h) ∙ ap (λ (xs : List ℕ). those is_used (blocks_of (slots_in desk) xs)) (sym (u.slots k h))

    counts : cnt (is_id id) (to (k + 1)) ≡ cnt (is_id id) (slots_held (view_of desk) w k)
    unfolding found_to
    counts =
        let e : cnt (is_id id) (to (k + 1)) ≡ cnt (is_id id) (to k ++ found real desk path k) = ap (λ (n : ℕ). cnt (is_id id) (to n)) (add-one k) in
        let f : cnt (is_id id) (found real desk path k) ≡ cnt (is_id id) (slots_held (view_of desk) w k) = ap (cnt (is_id id)) held ∙ used-counts id low (slots_held (view_of desk) w k) in
        omega (arith, e, f, cnt-append (is_id id) (to k) (found real desk path k))

    pub record-here : (length (lookup id (slots_held (view_of desk) w k)) ≡ 0 → ⊥) → lookup id (slots_held (view_of desk) w k) ≡ lookup id (gathered real desk path)
    unfolding gathered found_to
    record-here some =
        below_or 0 (cnt (is_id id) (slots_held (view_of desk) w k))
        (λ p.
        let m : 0 < cnt (is_id id) (to (k + 1)) = omega (arith, counts) in
        let e : (height_of desk - k) + (k + 1) ≡ suc (height_of desk) = omega (arith, r.most) in
        let f : lookup id (to (suc (height_of desk))) ≡ lookup id (to (k + 1)) = ap (λ (n : ℕ). lookup id (to n)) (sym e) ∙ stays (height_of desk - k) (k + 1) m in
        let g : 0 < cnt (is_id id) (to (suc (height_of desk))) =
        let c : cnt (is_id id) (to ((height_of desk - k) + (k + 1))) ≡ cnt (is_id id) (to (suc (height_of desk))) = ap (λ (n : ℕ). cnt (is_id id) (to n)) e in
        omega (arith, c, found-more desk path id (height_of desk - k) (k + 1)) in
        let j : lookup id (to (k + 1)) ≡ lookup id (slots_held (view_of desk) w k) =
        ap (λ (n : ℕ). lookup id (to n)) (add-one k) ∙ lookup-skip id (to k) (found real desk path k) none ∙ ap (lookup id) held ∙ lookup-used id low (slots_held (view_of desk) w k) in
        sym (lookup-stay id (to (suc (height_of desk))) (stash_of desk) g ∙ f ∙ j))
        (λ p. absurd (some (ap length (lookup-none id (slots_held (view_of desk) w k) (omega arith)))))

    pub record-not-here : slot_len * slots_in desk ≤ length (slots_of (sizes_of desk) (item (view_of desk) w k)) → length (lookup id (slots_held (view_of desk) w k)) ≡ 0 → cnt (is_id id) (to (k + 1)) ≡ 0
    record-not-here room e =
        below_or 0 (cnt (is_id id) (slots_held (view_of desk) w k))
        (λ p. absurd (omega (arith, e, lookup-long id record_len (slots_held (view_of desk) w k) (records-long record_len (slots_in desk) (slots_of (sizes_of desk) (item (view_of desk) w k)) room) p)))
        (λ p. omega (arith, counts))

  pub record-none : cnt (is_id id) (to 0) ≡ 0
  unfolding found_to
  record-none = refl

  pub record-stash : (k : ℕ) → k ≡ n → cnt (is_id id) (to k) ≡ 0 → lookup id (stash_of desk) ≡ lookup id (gathered real desk path)
  unfolding gathered
  record-stash k q none =
      let e : (suc (height_of desk) - n) + n ≡ suc (height_of desk) = omega (arith, r.most) in
      let f : cnt (is_id id) (to ((suc (height_of desk) - n) + n)) ≡ cnt (is_id id) (to (suc (height_of desk))) = ap (λ (n : ℕ). cnt (is_id id) (to n)) e in
      let g : cnt (is_id id) (to k) ≡ cnt (is_id id) (to n) = ap (λ (n : ℕ). cnt (is_id id) (to n)) q in
      sym (lookup-skip id (to (suc (height_of desk))) (stash_of desk) (omega (arith, f, g, found_all desk path n r id (suc (height_of desk) - n) (omega arith))))
