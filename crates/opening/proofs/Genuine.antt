-- The test of the contract is true exactly where each check of step 2 holds. Assumes nothing.
use Prim.Native.Nat.{ℕ, suc, ◌<◌, ◌≤◌}
use mathlib.Core.Path.{◌≡◌, refl}
use mathlib.Core.Logic.{◌↔◌}
use mathlib.Core.Bool.{Bool, true, false}
use mathlib.Core.List.{List, [], ◌∷◌}
use native.Mathlib.Omega.{arith}
use lib.Dec.{eqb, leb}
use borrow.Author.Tests.{eqb-true, eq-eqb, leb-true, le-leb, ltb-true, lt-ltb}
use Rattle.words.specs.Bytes.{same}
use Rattle.words.specs.Tests.{all, Each}
use Rattle.words.proofs.Tests.{all-at, all_true, each, every_of, and_left, and_right, same-eq, same_refl}
use Rattle.bags.specs.Bags.{cnt, AllOf}
use Rattle.bags.proofs.All.{all_map}
use Rattle.slots.specs.Slots.{Block}
use Rattle.sizes.specs.Sizes.{bucket_at}
use Rattle.desk.specs.Layout.{ids_of}
use Rattle.desk.specs.Readers.{height_of, sizes_of, id_asked, leaf_asked, position_of, is_marked}
use Rattle.placing.specs.Placing.{on_way}
use Rattle.items.specs.Items.{Means, flag_of, item_digest}
use Rattle.items.specs.Way.{item, reachable, digest_due}
use Rattle.opening.specs.Opening.{view_of, is_id, found_at, found, gathered, digest_fits, flags_fit, block_fits, each_fits, is_there, genuine, Reach, Genuine}
use Rattle.opening.proofs.Tests.{implied, implies}

module _ (m : Means) (desk path : List ℕ) where
  abbrev tests : ℕ → Block → List Bool
  tests k b =
      leb b.id (ids_of desk) ∷ is_marked desk b.id ∷ eqb b.leaf (position_of desk b.id) ∷ on_way (sizes_of desk) (leaf_asked desk) k b
      ∷ eqb (cnt (is_id b.id) (gathered m desk path)) 1 ∷ []

  abbrev flag_tests : ℕ → List Bool
  flag_tests k = leb (flag_of (sizes_of desk) (item (view_of desk) path k) 0) 1 ∷ leb (flag_of (sizes_of desk) (item (view_of desk) path k) 1) 1 ∷ []

  abbrev checks : List Bool
  checks =
      all (suc (height_of desk)) (digest_fits m (view_of desk) path)
      ∷ all (height_of desk) (flags_fit (view_of desk) path)
      ∷ all (suc (height_of desk)) (λ k. each_fits m desk path k (found m desk path k))
      ∷ is_there m desk path
      ∷ []

  each_fits_lem : (k : ℕ) (bs : List Block) → each_fits m desk path k bs ≡ true → AllOf (λ b. Each (tests k b)) bs
  each_fits_lem k [] h = tt
  each_fits_lem k (b ∷ bs) h =
      (each (tests k b) (and_left (block_fits m desk path k b) (each_fits m desk path k bs) h), each_fits_lem k bs (and_right (block_fits m desk path k b) (each_fits m desk path k bs) h))

  pub genuine-checks : genuine m desk path ≡ true → Genuine m desk path
  unfolding genuine
  genuine-checks h =
      let e : Each checks = each checks h in
      let slots : (k : ℕ) → Reach m desk path k → AllOf (λ b. Each (tests k b)) (found m desk path k) =
      λ k r. each_fits_lem k (found m desk path k) (all-at (λ k. each_fits m desk path k (found m desk path k)) (suc (height_of desk)) k (omega (arith, r.0)) e.1.1.0) in
      let flags : (k : ℕ) → k < height_of desk → Reach m desk path k → Each (flag_tests k) =
      λ k l r. each (flag_tests k) (implied _ _ (all-at (flags_fit (view_of desk) path) (height_of desk) k l e.1.0) r.1) in
      record {
        digests = λ k r. same-eq _ _ (implied _ _ (all-at (digest_fits m (view_of desk) path) (suc (height_of desk)) k (omega (arith, r.0)) e.0) r.1);
        left-flags = λ k l r. leb-true _ _ (flags k l r).0;
        right-flags = λ k l r. leb-true _ _ (flags k l r).1.0;
        ids = λ k r. all_map (λ b. Each (tests k b)) (λ b. b.id ≤ ids_of desk) (λ b a. leb-true _ _ a.0) (found m desk path k) (slots k r);
        marks = λ k r. all_map (λ b. Each (tests k b)) (λ b. is_marked desk b.id ≡ true) (λ b a. a.1.0) (found m desk path k) (slots k r);
        positions = λ k r. all_map (λ b. Each (tests k b)) (λ b. b.leaf ≡ position_of desk b.id) (λ b a. eqb-true _ _ a.1.1.0) (found m desk path k) (slots k r);
        ways = λ k r.
            all_map (λ b. Each (tests k b)) (λ b. bucket_at (sizes_of desk) b.leaf k ≡ bucket_at (sizes_of desk) (leaf_asked desk) k) (λ b a. eqb-true _ _ a.1.1.1.0) (found m desk path k) (slots k r);
        once = λ k r. all_map (λ b. Each (tests k b)) (λ b. cnt (is_id b.id) (gathered m desk path) ≡ 1) (λ b a. eqb-true _ _ a.1.1.1.1.0) (found m desk path k) (slots k r);
        there = λ k. ltb-true _ _ (implied _ _ e.1.1.1.0 k);
      }

  fits_each : (k : ℕ) (bs : List Block) → AllOf (λ b. b.id ≤ ids_of desk) bs → AllOf (λ b. is_marked desk b.id ≡ true) bs
      → AllOf (λ b. b.leaf ≡ position_of desk b.id) bs → AllOf (λ b. bucket_at (sizes_of desk) b.leaf k ≡ bucket_at (sizes_of desk) (leaf_asked desk) k) bs
      → AllOf (λ b. cnt (is_id b.id) (gathered m desk path) ≡ 1) bs → each_fits m desk path k bs ≡ true
  fits_each k [] a c d e f = refl
  fits_each k (b ∷ bs) a c d e f =
      let h : block_fits m desk path k b ≡ true = every_of (tests k b) (le-leb _ _ a.0, (c.0, (eq-eqb _ _ d.0, (eq-eqb _ _ e.0, (eq-eqb _ _ f.0, tt))))) in
      rw h (fits_each k bs a.1 c.1 d.1 e.1 f.1)

  found-fits : Genuine m desk path → (k : ℕ) → k ≤ height_of desk → (r : Bool) → reachable (view_of desk) path k ≡ r → each_fits m desk path k (found m desk path k) ≡ true
  unfolding found_at
  found-fits g k l true e =
      let r : Reach m desk path k = (l, e) in
      fits_each k (found m desk path k) (g.ids k r) (g.marks k r) (g.positions k r) (g.ways k r) (g.once k r)
  found-fits g k l false e = rw e

  pub checks-genuine : Genuine m desk path → genuine m desk path ≡ true
  unfolding genuine
  checks-genuine g =
      every_of checks (
        all_true (digest_fits m (view_of desk) path) (suc (height_of desk))
            (λ k l. implies (reachable (view_of desk) path k) (same (item_digest m (sizes_of desk) k (item (view_of desk) path k)) (digest_due (view_of desk) path k)) (λ e. rw (g.digests k (omega arith, e)) (same_refl (digest_due (view_of desk) path k)))),
        (
          all_true (flags_fit (view_of desk) path) (height_of desk)
              (λ k l. implies (reachable (view_of desk) path k) _ (λ e. every_of (flag_tests k) (le-leb _ _ (g.left-flags k l (omega arith, e)), (le-leb _ _ (g.right-flags k l (omega arith, e)), tt)))),
          (
            all_true (λ k. each_fits m desk path k (found m desk path k)) (suc (height_of desk)) (λ k l. found-fits g k (omega arith) (reachable (view_of desk) path k) refl),
            (implies (is_marked desk (id_asked desk)) _ (λ e. lt-ltb _ _ (g.there e)), tt),
          ),
        ),
      )

  -- Forged is given exactly where a check fails
  pub genuine-exactly : (genuine m desk path ≡ true) ↔ Genuine m desk path
  genuine-exactly = (genuine-checks, checks-genuine)
