-- What an accepted finish does to the bag of blocks: the requested block is replaced, nothing is lost, nothing is doubled. Assumes nothing.
use Prim.Native.Nat.{ℕ, zero, suc, ◌+◌, ◌<◌, ◌≤◌}
use mathlib.Core.Path.{◌≡◌, refl, sym, ap, ◌∙◌}
use mathlib.Core.Logic.{◌≢◌}
use mathlib.Core.Bool.{Bool, cond, not, ◌&&◌}
use mathlib.Core.List.{List, ◌++◌}
use native.Mathlib.Omega.{arith}
use mathlib.Core.Option.{Option, none, some}
use lib.Dec.{eqb}
use borrow.Author.Tests.{eqb-true, eqb-false}
use Rattle.words.proofs.Tests.{by_cases}
use Rattle.bags.specs.Bags.{cnt, those, flat}
use Rattle.bags.proofs.Bags.{cnt-append, cnt-and}
use Rattle.bags.proofs.Those.{cnt-others}
use Rattle.slots.specs.Slots.{Block}
use Rattle.desk.specs.Layout.{ids_of}
use Rattle.desk.specs.Readers.{sizes_of, kind_asked, id_asked, new_leaf, record_asked, leaf_asked}
use Rattle.items.specs.Items.{Means}
use Rattle.opening.specs.Opening.{view_of, is_id, gathered}
use Rattle.placing.proofs.Rising.{sorted-same}
use Rattle.placing.proofs.Placing.{placed_same}
use Rattle.store.specs.Steps.{under, carried, was_marked, record_found, to_place, placed, new_stash}
use Rattle.keeping.specs.Server.{Server, Agrees}
use Rattle.keeping.specs.Table.{Table, place_of, table_blocks}
use Rattle.keeping.proofs.Genuine.{Inv, Asks, off, total, not-off}

-- of a table's blocks, those of one id
own-place : (desk : List ℕ) (t : Block → Bool) (u v : ℕ) (o : Option (List ℕ)) → cnt (λ b. is_id u b && t b) (place_of desk v o) ≡ cond (eqb v u) (cnt t (place_of desk v o)) 0
own-place desk t u v none = by_cases (eqb v u) (λ e. rw e refl) (λ e. rw e refl)
own-place desk t u v (some r) = by_cases (eqb v u) (λ e. rw e refl) (λ e. rw e refl)

own : (desk : List ℕ) (table : Table) (t : Block → Bool) (u n : ℕ)
    → (n < u → cnt (λ b. is_id u b && t b) (table_blocks desk table n) ≡ 0)
    × (1 ≤ u → u ≤ n → cnt (λ b. is_id u b && t b) (table_blocks desk table n) ≡ cnt t (place_of desk u (table u)))
own desk table t u zero = (λ h. refl, λ g h. absurd (omega arith))
own desk table t u (suc n) =
    let i = own desk table t u n in
    let w : Block → Bool = λ b. is_id u b && t b in
    let a = cnt-append w (table_blocks desk table n) (place_of desk (suc n) (table (suc n))) in
    let p = own-place desk t u (suc n) (table (suc n)) in
    by_cases (eqb (suc n) u)
    (λ e.
    let q : suc n ≡ u = eqb-true (suc n) u e in
    let p' = rw e at p in
    let c : cnt t (place_of desk (suc n) (table (suc n))) ≡ cnt t (place_of desk u (table u)) = ap (λ (v : ℕ). cnt t (place_of desk v (table v))) q in
    (λ h. absurd (omega arith), λ g h. omega (arith, a, p', c, i.0 (omega arith))))
    (λ e.
    let q : suc n ≢ u = eqb-false (suc n) u e in
    let p' = rw e at p in
    (λ h. omega (arith, a, p', i.0 (omega arith)), λ g h. omega (arith, a, p', i.1 g (omega arith))))

-- the requested block, under its new leaf
abbrev pub requested : Means → List ℕ → List ℕ → List Block
requested m desk path = under (id_asked desk) (new_leaf desk) (carried (kind_asked desk) (was_marked m desk path) (record_found m desk path) (record_asked desk))

-- the requested block and the others; what is placed or remains is these
abbrev pub gathered_now : Means → List ℕ → List ℕ → List Block
gathered_now m desk path = requested m desk path ++ those (λ b. not (is_id (id_asked desk) b)) (gathered m desk path)

pub placed-now : (m : Means) (desk path : List ℕ) (t : Block → Bool) → cnt t (flat (placed m desk path)) + cnt t (new_stash m desk path) ≡ cnt t (gathered_now m desk path)
unfolding to_place
placed-now m desk path t =
    sym (cnt-append t (flat (placed m desk path)) (new_stash m desk path))
    ∙ placed_same (sizes_of desk) (leaf_asked desk) (to_place m desk path) t ∙ sorted-same (gathered_now m desk path) t

placed-all : (m : Means) (desk path : List ℕ) (t : Block → Bool)
    → cnt t (flat (placed m desk path)) + cnt t (new_stash m desk path)
    ≡ cnt t (requested m desk path) + cnt t (those (λ b. not (is_id (id_asked desk) b)) (gathered m desk path))
placed-all m desk path t =
    placed-now m desk path t ∙ cnt-append t (requested m desk path) (those (λ b. not (is_id (id_asked desk) b)) (gathered m desk path))

-- the new path, the new stash and what is off the way: the table's blocks with the requested one replaced
pub bag-step : (m : Means) (desk path : List ℕ) (server : Server) (table : Table) (v : Inv m desk server table) (asks : Asks desk)
    (fair : Agrees (view_of desk) server path) (t : Block → Bool)
    → cnt t (flat (placed m desk path)) + cnt t (new_stash m desk path) + cnt t (off m desk path server table v asks fair)
    + cnt t (place_of desk (id_asked desk) (table (id_asked desk)))
    ≡ cnt t (table_blocks desk table (ids_of desk)) + cnt t (requested m desk path)
bag-step m desk path server table v asks fair t =
    let q = is_id (id_asked desk) in
    let w : Block → Bool = λ b. is_id (id_asked desk) b && t b in
    omega (
      arith,
      placed-all m desk path t,
      cnt-others q t (gathered m desk path),
      total m desk path server table v asks fair t,
      total m desk path server table v asks fair w,
      cnt-and q t (off m desk path server table v asks fair),
      not-off m desk path server table v asks fair,
      (own desk table t (id_asked desk) (ids_of desk)).1 asks.id_low asks.id_high,
    )
