-- The bag of the table's blocks after a request: what an accepted finish leaves on the path, in the stash and off the way. Assumes nothing.
use Prim.Native.Nat.{ℕ, zero, suc, ◌+◌, ◌<◌, ◌≤◌}
use mathlib.Core.Path.{◌≡◌, refl, sym, ap, ap₂, ◌∙◌}
use mathlib.Core.Logic.{◌≢◌}
use mathlib.Core.Bool.{Bool}
use mathlib.Core.List.{List, [], ◌∷◌}
use native.Mathlib.Omega.{arith}
use mathlib.Core.Option.{Option, none, some}
use lib.Dec.{eqb}
use borrow.Author.Tests.{eqb-true, eqb-false, eq-eqb, ne_eqb}
use Rattle.words.proofs.Tests.{by_cases}
use Rattle.bags.specs.Bags.{bit, cnt, flat}
use Rattle.bags.proofs.Bags.{cnt-append}
use Rattle.slots.specs.Slots.{Block}
use Rattle.desk.specs.declared.Kind.{Kind}
use Rattle.desk.specs.declared.Kind.TheVariants.{Read, Write}
use Rattle.desk.specs.Layout.{ids_of}
use Rattle.desk.specs.Readers.{kind_asked, id_asked, new_leaf, record_asked, position_of}
use Rattle.items.specs.Items.{Means}
use Rattle.opening.specs.Opening.{view_of}
use Rattle.store.specs.Steps.{under, carried, was_marked, record_found, placed, new_stash}
use Rattle.keeping.specs.Server.{Server, Agrees}
use Rattle.keeping.specs.Table.{Table, is_held, plain_held, plain_table, place_of, table_blocks}
use Rattle.keeping.proofs.Genuine.{Inv, Asks, off}
use Rattle.keeping.proofs.Plain.{found-record}
use Rattle.keeping.proofs.BagStep.{requested, bag-step}

-- the table after the open request
abbrev pub table_after : List ℕ → Table → Table
table_after desk table = plain_table (kind_asked desk) (id_asked desk) (record_asked desk) table

-- another desk and table that differ at one id
module _ (desk desk' : List ℕ) (table table' : Table) (u : ℕ) where
  table_step : (t : Block → Bool) (n : ℕ) → ((w : ℕ) → 1 ≤ w → w ≤ n → w ≢ u → position_of desk' w ≡ position_of desk w) → ((w : ℕ) → w ≢ u → table' w ≡ table w)
      → (n < u → cnt t (table_blocks desk' table' n) ≡ cnt t (table_blocks desk table n))
      × (1 ≤ u → u ≤ n → cnt t (table_blocks desk' table' n) + cnt t (place_of desk u (table u)) ≡ cnt t (table_blocks desk table n) + cnt t (place_of desk' u (table' u)))
  table_step t zero p q = (λ h. refl, λ g h. absurd (omega arith))
  table_step t (suc n) p q =
      let i = table_step t n (λ w a b c. p w a (omega arith) c) q in
      let a = cnt-append t (table_blocks desk table n) (place_of desk (suc n) (table (suc n))) in
      let a' = cnt-append t (table_blocks desk' table' n) (place_of desk' (suc n) (table' (suc n))) in
      by_cases (eqb (suc n) u)
      (λ e.
      let z : suc n ≡ u = eqb-true (suc n) u e in
      let c : cnt t (place_of desk (suc n) (table (suc n))) ≡ cnt t (place_of desk u (table u)) = ap (λ (v : ℕ). cnt t (place_of desk v (table v))) z in
      let c' : cnt t (place_of desk' (suc n) (table' (suc n))) ≡ cnt t (place_of desk' u (table' u)) = ap (λ (v : ℕ). cnt t (place_of desk' v (table' v))) z in
      (λ h. absurd (omega arith), λ g h. omega (arith, a, a', c, c', i.0 (omega arith))))
      (λ e.
      let z : suc n ≢ u = eqb-false (suc n) u e in
      let c : cnt t (place_of desk' (suc n) (table' (suc n))) ≡ cnt t (place_of desk (suc n) (table (suc n))) =
      ap (λ (o : Option (List ℕ)). cnt t (place_of desk' (suc n) o)) (q (suc n) z) ∙ same_place (table (suc n)) (p (suc n) (omega arith) (omega arith) z) in
      (λ h. omega (arith, a, a', c, i.0 (omega arith)), λ g h. omega (arith, a, a', c, i.1 g (omega arith))))
    where
      same_place : (o : Option (List ℕ)) → position_of desk' (suc n) ≡ position_of desk (suc n) → cnt t (place_of desk' (suc n) o) ≡ cnt t (place_of desk (suc n) o)
      same_place none e = refl
      same_place (some r) e = ap (λ (l : ℕ). bit (t (record { id = suc n; leaf = l; bytes = r })) + 0) e

module _ (m : Means) (desk path : List ℕ) (server : Server) (table : Table) (v : Inv m desk server table) (asks : Asks desk)
    (fair : Agrees (view_of desk) server path) where
  -- the requested block is the table's new one, under the new leaf
  requested-is : (desk' : List ℕ) → position_of desk' (id_asked desk) ≡ new_leaf desk → (kind : Kind) (o : Option (List ℕ)) → table (id_asked desk) ≡ o
      → place_of desk' (id_asked desk) (plain_held kind o (record_asked desk)) ≡ under (id_asked desk) (new_leaf desk) (carried kind (is_held o) (record_found m desk path) (record_asked desk))
  requested-is desk' e Read none q = refl
  requested-is desk' e Read (some r) q =
      ap₂ (λ (l : ℕ) (x : List ℕ). record { id = id_asked desk; leaf = l; bytes = x } ∷ []) e (sym (found-record m desk path server table v asks fair r q))
  requested-is desk' e Write none q = ap (λ (l : ℕ). record { id = id_asked desk; leaf = l; bytes = record_asked desk } ∷ []) e
  requested-is desk' e Write (some r) q = ap (λ (l : ℕ). record { id = id_asked desk; leaf = l; bytes = record_asked desk } ∷ []) e

  -- the new bag: the path's buckets, the new stash and what is off the way hold the new table's blocks under the new positions
  pub bag-after : (desk' : List ℕ) → position_of desk' (id_asked desk) ≡ new_leaf desk
      → ((w : ℕ) → 1 ≤ w → w ≤ ids_of desk → w ≢ id_asked desk → position_of desk' w ≡ position_of desk w)
      → (t : Block → Bool)
      → cnt t (flat (placed m desk path)) + cnt t (new_stash m desk path) + cnt t (off m desk path server table v asks fair)
      ≡ cnt t (table_blocks desk' (table_after desk table) (ids_of desk))
  bag-after desk' e p t =
      let u = id_asked desk in
      let now : table_after desk table u ≡ plain_held (kind_asked desk) (table u) (record_asked desk) = rw (eq-eqb u u refl) refl in
      let k : was_marked m desk path ≡ is_held (table u) = v.marks u asks.id_low asks.id_high in
      let r : cnt t (place_of desk' u (table_after desk table u)) ≡ cnt t (requested m desk path) =
      ap (λ (o : Option (List ℕ)). cnt t (place_of desk' u o)) now ∙ ap (cnt t) (requested-is desk' e (kind_asked desk) (table u) refl)
      ∙ ap (λ (b : Bool). cnt t (under u (new_leaf desk) (carried (kind_asked desk) b (record_found m desk path) (record_asked desk)))) (sym k) in
      let s = (table_step desk desk' table (table_after desk table) u t (ids_of desk) p (λ w n. rw (ne_eqb w u n) refl)).1 asks.id_low asks.id_high in
      omega (arith, bag-step m desk path server table v asks fair t, r, s)
