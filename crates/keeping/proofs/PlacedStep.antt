-- The blocks that a finish over a path that passes the checks places or keeps in the stash: each has an id of 1 to N that is marked, lies under its new
-- position and has a record of full length, so that slots can hold it, its bucket lies on its way, and a good stash may have it. Assumes nothing but what is
-- asked of a cipher.
use Prim.Native.Nat.{ℕ, zero, suc, ◌+◌, ◌-◌, ◌≤◌}
use mathlib.Core.Path.{◌≡◌, refl, sym, ap₂, subst, ◌∙◌}
use mathlib.Core.Logic.{◌≢◌}
use mathlib.Core.Bool.{Bool, true, false, not}
use mathlib.Core.List.{List, [], ◌∷◌}
use native.Mathlib.Omega.{arith}
use lib.ListN.{length, get_or}
use lib.Dec.{eqb, leb, ltb}
use borrow.Author.Tests.{eqb-true, eqb-false, eq-eqb, ne_eqb, le-leb, lt-ltb, leb-true, ltb-true, not-true}
use Rattle.words.specs.Numbers.{number}
use Rattle.words.specs.Tests.{every, Each}
use Rattle.words.proofs.Splice.{length_part}
use Rattle.words.proofs.Tests.{by_cases, each, every_of}
use Rattle.sizes.specs.Sizes.{record_len, request_head}
use Rattle.bags.specs.Bags.{bit, cnt, those, flat, All, AllOf}
use Rattle.bags.proofs.Bags.{cnt-append}
use Rattle.bags.proofs.All.{all_map, all_both, all_append, all-those, those-pass, all_pass, none-fails}
use Rattle.bags.proofs.Those.{cnt-those-le, cnt-those-none}
use Rattle.slots.specs.Slots.{Block, AllFit, Rising}
use Rattle.desk.specs.declared.Kind.{Kind}
use Rattle.desk.specs.declared.Kind.TheVariants.{Read, Write}
use Rattle.desk.specs.Layout.{c_at, ids_of, shape_of, place_at, mark_in}
use Rattle.desk.specs.Readers.{sizes_of, height_of, kind_asked, id_asked, new_leaf, record_asked, leaf_asked, position_of, mark_of, is_marked}
use Rattle.desk.specs.Stash.{AllPlaced}
use Rattle.desk.proofs.Read.{read-position, read-mark}
use Rattle.items.specs.Items.{Means, Sound}
use Rattle.opening.specs.Opening.{is_id, gathered}
use Rattle.opening.specs.Walk.{OpenDesk}
use Rattle.opening.proofs.Open.{good-open}
use Rattle.opening.proofs.Genuine.{checks-genuine}
use Rattle.opening.proofs.Gathered.{gathered-placeable, gathered-stands, gathered-long, record-length}
use Rattle.placing.specs.Placing.{on_way}
use Rattle.placing.specs.Ids.{AllRising}
use Rattle.placing.proofs.Rising.{sorted-rising}
use Rattle.placing.proofs.Placing.{placed-within, placed-small, placed-rising, remaining-rising}
use Rattle.store.specs.Steps as steps
use Rattle.store.specs.Steps.{mark_for, carried, under, was_marked, record_found, placed, new_stash}
use Rattle.keeping.proofs.Levels.{cnt-one, within-length, within-at, on-place}
use Rattle.keeping.proofs.BagStep.{requested, gathered_now, placed-now}
use Rattle.keeping.proofs.Written.{Lies}
use Rattle.keeping.proofs.MovedStep.{Checked, moved, parts_moved, moved-changed, size, conditions, asks, leaves-few, position-new, position-old, position-low, mark-new, mark-old}

module _ (m : Means) (o : Sound m) (desk path : List ℕ) (c : Checked m desk path) where
  abbrev id : ℕ
  id = id_asked desk

  opened : OpenDesk desk
  opened = good-open desk c.good c.status c.byte

  -- ---- each block passes these tests

  abbrev tests : Block → List Bool
  tests b =
      leb 1 b.id
      ∷ leb b.id (ids_of desk)
      ∷ eqb (get_or (parts_moved m desk path c).places (place_at b.id + mark_in) 0) 1
      ∷ eqb b.leaf (number 2 (parts_moved m desk path c).places (place_at b.id))
      ∷ ltb b.leaf 65536
      ∷ eqb (length b.bytes) record_len
      ∷ []

  abbrev fine : Block → Bool
  fine b = every (tests b)

  fine_of : (b : Block) → 1 ≤ b.id → b.id ≤ ids_of desk → mark_of (moved m desk path c) b.id ≡ 1 → b.leaf ≡ position_of (moved m desk path c) b.id
      → length b.bytes ≡ record_len → fine b ≡ true
  fine_of b g l k p n =
      let ch = moved-changed m desk path c in
      let low = position-low m desk path c ch refl b.id g l in
      every_of (tests b) (
        le-leb 1 b.id g,
        (
          le-leb b.id (ids_of desk) l,
          (
            eq-eqb _ 1 (sym (read-mark ch b.id g l) ∙ k),
            (
              eq-eqb _ _ (p ∙ read-position ch b.id g l),
              (lt-ltb b.leaf 65536 (omega (arith, p, low, leaves-few m desk path c)), (eq-eqb _ _ n, tt)),
            ),
          ),
        ),
      )

  -- the requested one
  under-fine : (kind : Kind) (marked : Bool) → kind_asked desk ≡ kind → was_marked m desk path ≡ marked
      → AllOf (λ b. fine b ≡ true) (under id (new_leaf desk) (carried kind marked (record_found m desk path) (record_asked desk)))
  under-fine kind marked k w = go kind marked refl refl
    where
      one : (bytes : List ℕ) → mark_for kind marked ≡ 1 → length bytes ≡ record_len → fine (record { id = id; leaf = new_leaf desk; bytes = bytes }) ≡ true
      one bytes e n =
          let ch = moved-changed m desk path c in
          fine_of (record { id = id; leaf = new_leaf desk; bytes = bytes }) (asks m desk path c).id_low (asks m desk path c).id_high
          (mark-new m desk path c ch refl ∙ ap₂ mark_for k w ∙ e) (sym (position-new m desk path c ch refl)) n

      go : (x : Kind) (y : Bool) → kind ≡ x → marked ≡ y
          → AllOf (λ b. fine b ≡ true) (under id (new_leaf desk) (carried x y (record_found m desk path) (record_asked desk)))
      go Read true e f = (
        one (record_found m desk path) (ap₂ mark_for e f)
            (record-length m desk path opened o (omega (arith, c.size)) (checks-genuine m desk path c.genuine) (w ∙ f)),
        tt,
      )
      go Read false e f = tt
      go Write y e f =
          (one (record_asked desk) (ap₂ mark_for e f) (length_part desk (c_at (shape_of desk) + request_head) record_len (omega (arith, size m desk path c))), tt)

  -- and the others
  abbrev others : List Block
  others = those (λ b. not (is_id id b)) (gathered m desk path)

  others-fine : AllOf (λ b. fine b ≡ true) others
  others-fine =
      let P : Block → Type 0 = λ b. (1 ≤ b.id) × (b.id ≤ ids_of desk) in
      let Q : Block → Type 0 = λ b. (is_marked desk b.id ≡ true) × (b.leaf ≡ position_of desk b.id) in
      let R : Block → Type 0 = λ b. length b.bytes ≡ record_len in
      let bs : List Block = gathered m desk path in
      let p = gathered-placeable m desk path opened c.genuine in
      let all : AllOf (λ b. P b × (Q b × R b)) bs =
      all_both P (λ b. Q b × R b) bs (all_both (λ b. 1 ≤ b.id) (λ b. b.id ≤ ids_of desk) bs p.low p.high)
      (all_both Q R bs (gathered-stands m desk path opened c.genuine c.good) (gathered-long m desk path opened o (omega (arith, c.size)))) in
      all_map (λ b. (not (is_id id b) ≡ true) × (P b × (Q b × R b))) (λ b. fine b ≡ true)
      (λ b h. other b (eqb-false b.id id (not-true (is_id id b) h.0)) h.1.0.0 h.1.0.1 h.1.1.0.0 h.1.1.0.1 h.1.1.1)
      others (all_both (λ b. not (is_id id b) ≡ true) (λ b. P b × (Q b × R b)) others (those-pass (λ b. not (is_id id b)) bs) (all-those (λ b. not (is_id id b)) (λ b. P b × (Q b × R b)) bs all))
    where
      other : (b : Block) → b.id ≢ id → 1 ≤ b.id → b.id ≤ ids_of desk → is_marked desk b.id ≡ true → b.leaf ≡ position_of desk b.id
          → length b.bytes ≡ record_len → fine b ≡ true
      other b n g l k p r =
          let ch = moved-changed m desk path c in
          fine_of b g l (mark-old m desk path c ch refl b.id g l n ∙ eqb-true _ 1 k) (p ∙ sym (position-old m desk path c ch refl b.id g l n)) r

  abbrev now : List Block
  now = gathered_now m desk path

  now-fine : AllOf (λ b. fine b ≡ true) now
  now-fine = all_append (λ b. fine b ≡ true) (requested m desk path) others (under-fine (kind_asked desk) (was_marked m desk path) refl refl) others-fine

  -- so each that is placed, and each that remains
  none_left : cnt (λ b. not (fine b)) (flat (placed m desk path)) + cnt (λ b. not (fine b)) (new_stash m desk path) ≡ 0
  none_left = placed-now m desk path (λ b. not (fine b)) ∙ none-fails fine now now-fine

  bucket-fine : (h : ℕ) → AllOf (λ b. fine b ≡ true) (get_or (placed m desk path) h [])
  bucket-fine h = all_pass fine (get_or (placed m desk path) h []) (omega (arith, none_left, cnt-one (λ b. not (fine b)) (placed m desk path) h))

  stash-fine : AllOf (λ b. fine b ≡ true) (new_stash m desk path)
  stash-fine = all_pass fine (new_stash m desk path) (omega (arith, none_left))

  -- ---- what that gives

  fine-fits : (bs : List Block) → AllOf (λ b. fine b ≡ true) bs → AllFit record_len bs
  fine-fits [] a = tt
  fine-fits (b ∷ bs) a =
      let t : Each (tests b) = each (tests b) a.0 in (
        record {
          id = omega (arith, leb-true b.id (ids_of desk) t.1.0, (conditions m desk path c).ids_high);
          leaf = ltb-true _ _ t.1.1.1.1.0;
          size = eqb-true _ _ t.1.1.1.1.1.0;
        },
        fine-fits bs a.1,
      )

  fine-used : (bs : List Block) → AllOf (λ b. fine b ≡ true) bs → AllOf (λ b. b.id ≢ 0) bs
  fine-used bs a = all_map (λ b. fine b ≡ true) (λ b. b.id ≢ 0) (λ b e z. let l = leb-true 1 b.id (each (tests b) e).0 in omega arith) bs a

  fine-placed : (bs : List Block) → AllOf (λ b. fine b ≡ true) bs → AllPlaced (shape_of desk) (parts_moved m desk path c).places bs
  fine-placed [] a = tt
  fine-placed (b ∷ bs) a =
      let t : Each (tests b) = each (tests b) a.0 in
      (record { high = leb-true _ _ t.1.0; marked = eqb-true _ _ t.1.1.0; carries = eqb-true _ _ t.1.1.1.0 }, fine-placed bs a.1)

  pub stash-fits : AllFit record_len (new_stash m desk path)
  stash-fits = fine-fits (new_stash m desk path) stash-fine

  pub stash-placed : AllPlaced (shape_of desk) (parts_moved m desk path c).places (new_stash m desk path)
  stash-placed = fine-placed (new_stash m desk path) stash-fine

  -- ---- by rising id, in the stash and in each bucket

  under-few : (u : ℕ) (kind : Kind) (marked : Bool) → cnt (is_id u) (under id (new_leaf desk) (carried kind marked (record_found m desk path) (record_asked desk))) ≤ bit (eqb id u)
  under-few u Read true = omega arith
  under-few u Read false = omega arith
  under-few u Write marked = omega arith

  now-once : (u : ℕ) → cnt (is_id u) now ≤ 1
  now-once u =
      let a = cnt-append (is_id u) (requested m desk path) others in
      let f = under-few u (kind_asked desk) (was_marked m desk path) in
      let q = (gathered-placeable m desk path opened c.genuine).once u in
      by_cases (eqb id u)
      (λ e.
      let z : id ≡ u = eqb-true id u e in
      let n = cnt-those-none (λ b. not (is_id id b)) (is_id u) (gathered m desk path)
      (λ b h. ne_eqb b.id u (λ k. eqb-false b.id id (not-true (is_id id b) h) (k ∙ sym z))) in
      let f' = rw e at f in
      omega (arith, a, f', n))
      (λ e. let f' = rw e at f in omega (arith, a, f', q, cnt-those-le (λ b. not (is_id id b)) (is_id u) (gathered m desk path)))

  place-rising : Rising 0 (steps.to_place m desk path)
  unfolding steps.to_place
  place-rising =
      let low : AllOf (λ b. 1 ≤ b.id) now = all_map (λ b. fine b ≡ true) (λ b. 1 ≤ b.id) (λ b e. leb-true 1 b.id (each (tests b) e).0) now now-fine in
      sorted-rising now low now-once

  pub stash-rising : Rising 0 (new_stash m desk path)
  stash-rising = remaining-rising (sizes_of desk) (leaf_asked desk) (steps.to_place m desk path) place-rising

  pub buckets-rising : (h : ℕ) → Rising 0 (get_or (placed m desk path) h [])
  buckets-rising h = each-rises (placed m desk path) h (placed-rising (sizes_of desk) (leaf_asked desk) (steps.to_place m desk path) place-rising)
    where
      each-rises : (bss : List (List Block)) (h : ℕ) → AllRising 0 bss → Rising 0 (get_or bss h [])
      each-rises [] h r = tt
      each-rises (bs ∷ bss) zero r = r.0
      each-rises (bs ∷ bss) (suc h) r = each-rises bss h r.1

  -- ---- the buckets

  pub placed-length : length (placed m desk path) ≡ suc (height_of desk)
  placed-length =
      within-length (sizes_of desk).slots (sizes_of desk) (leaf_asked desk) (height_of desk) (placed m desk path) (placed-within (sizes_of desk) (leaf_asked desk) (steps.to_place m desk path))

  pub laid : (k : ℕ) → k ≤ height_of desk → Lies (sizes_of desk) (leaf_asked desk) k (get_or (placed m desk path) (height_of desk - k) [])
  laid k l =
      let h = height_of desk - k in
      let e : height_of desk - h ≡ k = omega arith in
      let a : All (on_way (sizes_of desk) (leaf_asked desk) k) (get_or (placed m desk path) h []) =
      subst (λ (j : ℕ). All (on_way (sizes_of desk) (leaf_asked desk) j) (get_or (placed m desk path) h [])) e
      (within-at (sizes_of desk).slots (sizes_of desk) (leaf_asked desk) (height_of desk) (placed m desk path)
      (placed-within (sizes_of desk) (leaf_asked desk) (steps.to_place m desk path)) h (omega arith)) in
      record {
        fits = fine-fits (get_or (placed m desk path) h []) (bucket-fine h);
        used = fine-used (get_or (placed m desk path) h []) (bucket-fine h);
        few = placed-small (sizes_of desk) (leaf_asked desk) (steps.to_place m desk path) h;
        sits = on-place (sizes_of desk) (leaf_asked desk) k (get_or (placed m desk path) h []) a;
      }
