-- The invariant, and its first consequence: a path that agrees with the server passes every check of step 2. Assumes nothing.
use Prim.Native.Nat.{ℕ, zero, suc, ◌+◌, ◌/◌, ◌^◌, ◌<◌, ◌≤◌}
use mathlib.Core.Path.{◌≡◌, refl, sym, ap, ◌∙◌}
use mathlib.Core.Logic.{◌≢◌}
use mathlib.Core.Bool.{Bool, true, false, not, ◌&&◌}
use mathlib.Core.List.{List, [], ◌∷◌, ◌++◌}
use native.Mathlib.Omega.{arith}
use mathlib.Core.Option.{some}
use native.Mathlib.Nat.{div-eq_of_lt}
use lib.ListN.{length}
use lib.Dec.{eqb, leb}
use borrow.Author.Tests.{eqb-true, eqb-false, eq-eqb, le-leb, leb-true}
use Rattle.words.proofs.Tests.{by_cases, each}
use Rattle.sizes.specs.Sizes.{leaves, record_len}
use Rattle.bags.specs.Bags.{cnt, Same, AllOf}
use Rattle.bags.proofs.Bags.{cnt-append, either}
use Rattle.bags.proofs.All.{all_map, all_pass}
use Rattle.slots.specs.Slots.{Block}
use Rattle.desk.specs.Layout.{ids_of}
use Rattle.desk.specs.Readers.{sizes_of, height_of, key_of, root_of, is_written, is_marked, position_of, stash_of, id_asked, leaf_asked, status_of}
use Rattle.desk.specs.Status.{ready_status, open_status}
use Rattle.desk.specs.Good.{good_desk}
use Rattle.desk.proofs.Exactly.{good-conditions}
use Rattle.items.specs.Items.{Means}
use Rattle.opening.specs.Opening.{view_of, is_id, found_to, found, gathered, Genuine}
use Rattle.keeping.specs.Server.{Server, Agrees, standing}
use Rattle.keeping.specs.Table.{Table, is_held, table_blocks}
use Rattle.keeping.proofs.Standing.{off_it}
use Rattle.keeping.proofs.Tied.{Tied, digest-fits, left-fits, right-fits, ways-fit}
use Rattle.keeping.proofs.Found.{found-off}
use Rattle.keeping.proofs.Clean.{leaf_is, off-clean}
use Rattle.keeping.proofs.Held.{none_of, few, there-is, selves}

-- what a desk, a server and a table have to do with each other
pub record Inv (m : Means) (desk : List ℕ) (server : Server) (table : Table) : Type 0 where
  pub tied : Tied m (sizes_of desk) (key_of desk) server (height_of desk) 0 0 (is_written desk) (root_of desk)
  pub bag : Same (standing m (sizes_of desk) (key_of desk) server (height_of desk) 0 0 (is_written desk) ++ stash_of desk) (table_blocks desk table (ids_of desk))
  pub marks : (u : ℕ) → 1 ≤ u → u ≤ ids_of desk → is_marked desk u ≡ is_held (table u)
  pub sizes : (u : ℕ) (r : List ℕ) → table u ≡ some r → length r ≡ record_len

-- an open request names an id, at a leaf
pub record Asks (desk : List ℕ) : Type 0 where
  pub low : leaf_asked desk < leaves (sizes_of desk)
  pub id_low : 1 ≤ id_asked desk
  pub id_high : id_asked desk ≤ ids_of desk

pub asks_of : (desk : List ℕ) → good_desk desk ≡ true → status_of desk ≡ open_status → Asks desk
asks_of desk g s =
    let k = good-conditions desk g in
    let n : status_of desk ≡ ready_status → ⊥ = λ e. omega arith in
    record { low = k.every_position (id_asked desk) (k.asked_low n) (k.asked_high n); id_low = k.asked_low n; id_high = k.asked_high n }

found_part : (m : Means) (desk path : List ℕ) (t : Block → Bool) (k n : ℕ) → k < n → cnt t (found m desk path k) ≤ cnt t (found_to m (view_of desk) path n)
unfolding found_to
found_part m desk path t k zero h = absurd (omega arith)
found_part m desk path t k (suc n) h =
    let a = cnt-append t (found_to m (view_of desk) path n) (found m desk path n) in
    by_cases (eqb k n)
    (λ e. let q : k ≡ n = eqb-true k n e in rw (q, a) (omega arith))
    (λ e. let q : k ≢ n = eqb-false k n e in rw a (omega (arith, found_part m desk path t k n (omega arith))))

module _ (m : Means) (desk path : List ℕ) (server : Server) (table : Table) (v : Inv m desk server table) (asks : Asks desk)
    (fair : Agrees (view_of desk) server path) where
  -- what stands off the way
  abbrev pub off : List Block
  off = off_it m (sizes_of desk) (key_of desk) (leaf_asked desk) server (height_of desk) 0 (is_written desk)

  pub total : (t : Block → Bool) → cnt t (gathered m desk path) + cnt t off ≡ cnt t (table_blocks desk table (ids_of desk))
  unfolding gathered
  total t =
      let f = found-off m (view_of desk) path server asks.low v.tied fair t in
      let b = v.bag t in
      let a = cnt-append t (found_to m (view_of desk) path (suc (height_of desk))) (stash_of desk) in
      let c = cnt-append t (standing m (sizes_of desk) (key_of desk) server (height_of desk) 0 0 (is_written desk)) (stash_of desk) in
      omega (arith, a, b, c, f)

  part : (t : Block → Bool) (k : ℕ) → k ≤ height_of desk → cnt t (found m desk path k) ≤ cnt t (gathered m desk path)
  unfolding gathered
  part t k h = rw cnt-append (omega (arith, found_part m desk path t k (suc (height_of desk)) (omega arith)))

  abbrev tests : Block → List Bool
  tests b = leb b.id (ids_of desk) ∷ is_marked desk b.id ∷ eqb b.leaf (position_of desk b.id) ∷ []

  abbrev fine : Block → Bool
  fine b = leb b.id (ids_of desk) && is_marked desk b.id && eqb b.leaf (position_of desk b.id)

  table-fine : cnt (λ b. not (fine b)) (table_blocks desk table (ids_of desk)) ≡ 0
  table-fine =
      none_of desk table (λ b. not (fine b)) (ids_of desk)
      (λ u r g l h. rw (le-leb u (ids_of desk) l, v.marks u g l, ap is_held h, eq-eqb (position_of desk u) (position_of desk u) refl) refl)
      (ids_of desk) (omega arith)

  found-fine : (k : ℕ) → k ≤ height_of desk → AllOf (λ b. fine b ≡ true) (found m desk path k)
  found-fine k h =
      all_pass fine (found m desk path k) (omega (arith, part (λ b. not (fine b)) k h, total (λ b. not (fine b)), table-fine))

  found-once : (k : ℕ) → k ≤ height_of desk → AllOf (λ b. cnt (is_id b.id) (gathered m desk path) ≡ 1) (found m desk path k)
  found-once k h =
      all_map (λ b. 0 < cnt (is_id b.id) (found m desk path k)) (λ b. cnt (is_id b.id) (gathered m desk path) ≡ 1)
      (λ b g. omega (arith, g, part (is_id b.id) k h, total (is_id b.id), (few desk table b.id (ids_of desk)).0))
      (found m desk path k) (selves (found m desk path k))

  -- the requested block does not stand off the way
  pub not-off : cnt (is_id (id_asked desk)) off ≡ 0
  not-off =
      let u = id_asked desk in
      let q : Block → Bool = leaf_is (leaf_asked desk) in
      let w : Block → Bool = λ b. is_id u b && not (leaf_is (leaf_asked desk) b) in
      let z : leaf_asked desk / 2 ^ height_of desk ≡ 0 = div-eq_of_lt asks.low in
      let c : cnt q off ≡ 0 =
      off-clean m (sizes_of desk) (key_of desk) (leaf_asked desk) server (height_of desk) 0 (is_written desk) (root_of desk) (rw z v.tied) (omega arith) in
      let t : cnt w (table_blocks desk table (ids_of desk)) ≡ 0 = none_of desk table w (ids_of desk) (λ u' r g l h. stays u') (ids_of desk) (omega arith) in
      omega (arith, either (is_id u) q off, c, t, total w)
    where
      stays : (u' : ℕ) → (eqb u' (id_asked desk) && not (eqb (position_of desk u') (leaf_asked desk))) ≡ false
      stays u' =
          by_cases (eqb u' (id_asked desk))
          (λ e. rw e (ap not (eq-eqb (position_of desk u') (leaf_asked desk) (ap (position_of desk) (eqb-true u' (id_asked desk) e)))))
          (λ e. rw e refl)

  pub agrees-genuine : Genuine m desk path
  agrees-genuine =
      record {
        digests = λ k r. digest-fits m (view_of desk) path server asks.low v.tied fair k r.0 r.1;
        left-flags = λ k l r. left-fits m (view_of desk) path server asks.low v.tied fair k r.0 r.1;
        right-flags = λ k l r. right-fits m (view_of desk) path server asks.low v.tied fair k r.0 r.1;
        ids = λ k r. all_map (λ b. fine b ≡ true) (λ b. b.id ≤ ids_of desk) (λ b h. leb-true _ _ (each (tests b) h).0) (found m desk path k) (found-fine k r.0);
        marks = λ k r. all_map (λ b. fine b ≡ true) (λ b. is_marked desk b.id ≡ true) (λ b h. (each (tests b) h).1.0) (found m desk path k) (found-fine k r.0);
        positions =
            λ k r.
            all_map (λ b. fine b ≡ true) (λ b. b.leaf ≡ position_of desk b.id) (λ b h. eqb-true _ _ (each (tests b) h).1.1.0) (found m desk path k) (found-fine k r.0);
        ways = λ k r. ways-fit m (view_of desk) path server asks.low v.tied fair k r.0 r.1;
        once = λ k r. found-once k r.0;
        there =
            λ h.
            let p = there-is desk table (id_asked desk) (ids_of desk) asks.id_low asks.id_high (sym (v.marks (id_asked desk) asks.id_low asks.id_high) ∙ h) in
            omega (arith, p, total (is_id (id_asked desk)), not-off);
      }
