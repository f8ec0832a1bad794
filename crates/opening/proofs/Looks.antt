-- A look at one slot: what it answers, and what it leaves in the table. Assumes nothing.
use Prim.Native.Nat.{ℕ, ◌≤◌, ◌<◌}
use mathlib.Core.Bool.{Bool, true, false}
use mathlib.Core.Path.{◌≡◌, sym, ◌∙◌}
use mathlib.Core.List.{List, [], ◌∷◌, append-nil}
use native.Mathlib.Omega.{arith}
use lib.ListN.{get_or, set}
use lib.Dec.{eqb, leb}
use borrow.Author.Tests.{eq-eqb, ne_eqb, leb-true}
use Rattle.words.specs.Tests.{Each}
use Rattle.words.proofs.Tests.{each}
use Rattle.bags.specs.Bags.{those}
use Rattle.sizes.specs.Sizes.{most_ids}
use Rattle.slots.specs.Slots.{Block}
use Rattle.desk.specs.Layout.{ids_of}
use Rattle.desk.specs.Readers.{sizes_of, leaf_asked, position_of, is_marked}
use Rattle.placing.specs.Placing.{on_way}
use Rattle.opening.specs.Opening.{is_placed}
use Rattle.opening.specs.Walk.{Seen, passes, Looked}
use Rattle.opening.proofs.Tests.{no_true}
use Rattle.opening.proofs.Seen.{seen-used}

-- a block that is placed has an id of the desk
pub placed-known : (desk : List ℕ) (k : ℕ) (b : Block) → is_placed desk k b ≡ true → b.id ≤ ids_of desk
placed-known desk k b h =
    let ts : List Bool = leb b.id (ids_of desk) ∷ is_marked desk b.id ∷ eqb b.leaf (position_of desk b.id) ∷ on_way (sizes_of desk) (leaf_asked desk) k b ∷ [] in
    let e : Each ts = each ts h in
    leb-true b.id (ids_of desk) e.0

module _ (desk : List ℕ) (k : ℕ) (b : Block) (before : List ℕ) where
  pub looked-empty : b.id ≡ 0 → Looked desk k b before before true
  unfolding those
  looked-empty h =
      let e : eqb b.id 0 ≡ true = eq-eqb b.id 0 h in
      record { answer = λ met s. rw e; met = λ met s t. rw (e, append-nil met) s }

  module _ (used : b.id ≡ 0 → ⊥) where
    not-empty : eqb b.id 0 ≡ false
    not-empty = ne_eqb b.id 0 used

    pub looked-misplaced : (after : List ℕ) → is_placed desk k b ≡ false → Looked desk k b before after false
    looked-misplaced after p =
        record { answer = λ met s. rw (not-empty, p); met = λ met s t. absurd (no_true (sym t)) }

    module _ (placed : is_placed desk k b ≡ true) (small : b.id ≤ most_ids) where
      table : (met : List Block) → Seen before met → eqb (get_or before b.id 0) 0 ≡ passes desk k met b
      table met s = let e = not-empty in let h : 0 < b.id = omega (arith, used) in s.at b.id h small ∙ sym (rw (e, placed))

      pub looked-again : (after : List ℕ) → (get_or before b.id 0 ≡ 0 → ⊥) → Looked desk k b before after false
      looked-again after h =
          record { answer = λ met s. sym (ne_eqb (get_or before b.id 0) 0 h) ∙ table met s; met = λ met s t. absurd (no_true (sym t)) }

      pub looked-new : (id : ℕ) → id ≡ b.id → get_or before b.id 0 ≡ 0 → Looked desk k b before (set before id 1) true
      looked-new id e h =
          record {
            answer = λ met s. sym (eq-eqb (get_or before b.id 0) 0 h) ∙ table met s;
            met = λ met s t. rw e (seen-used before met b small s);
          }
