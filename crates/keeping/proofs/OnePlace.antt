-- From the invariant's bag: every id ever written stands in exactly one place, and there are as many blocks as ids ever written. Assumes nothing.
use Prim.Native.Nat.{ℕ, zero, suc, ◌+◌, ◌<◌, ◌≤◌}
use mathlib.Core.Path.{◌≡◌, refl, sym, ap, ap₂, ◌∙◌}
use mathlib.Core.Bool.{Bool, false, not, ◌&&◌}
use mathlib.Core.List.{List, [], ◌∷◌}
use native.Mathlib.Omega.{arith}
use mathlib.Core.Option.{Option, none, some}
use lib.ListN.{length, length-append}
use lib.Dec.{eqb}
use borrow.Author.Tests.{eqb-true, eq-eqb}
use Rattle.words.proofs.Tests.{by_cases, same_refl}
use Rattle.bags.specs.Bags.{cnt, those, Same}
use Rattle.bags.proofs.Bags.{same_length}
use Rattle.bags.proofs.Those.{those-none}
use Rattle.slots.specs.Slots.{Block}
use Rattle.desk.specs.Readers.{position_of}
use Rattle.opening.specs.Opening.{is_id}
use Rattle.opening.proofs.Tests.{no_true}
use Rattle.placing.proofs.Rising.{same_block, same_block_lem}
use Rattle.keeping.specs.Table.{Table, is_held, is_some, ever_written, block_of, place_of, table_blocks}
use Rattle.keeping.proofs.Held.{none_of, few, there-is}
use Rattle.keeping.proofs.Plain.{some_inj}

those-one : (t : Block → Bool) (b : Block) (xs : List Block) → cnt t xs ≡ 1 → cnt (λ c. t c && not (same_block c b)) xs ≡ 0 → those t xs ≡ b ∷ []
unfolding those
those-one t b [] h z = absurd (omega arith)
those-one t b (x ∷ xs) h z =
    by_cases (t x)
    (λ e.
    by_cases (same_block x b)
    (λ f. rw e (ap₂ (λ (c : Block) (l : List Block). c ∷ l) (same_block_lem x b f) (those-none t xs (omega (arith, rw e at h)))))
    (λ f. absurd (omega (arith, rw (e, f) at z))))
    (λ e. rw e (those-one t b xs (omega (arith, rw e at h)) (omega (arith, rw e at z))))

module _ (desk : List ℕ) (table : Table) (n : ℕ) (xs : List Block) (bag : Same xs (table_blocks desk table n)) where
  place_none : (u : ℕ) → table u ≡ none → those (is_id u) xs ≡ []
  place_none u e = those-none (is_id u) xs (bag (is_id u) ∙ none_of desk table (is_id u) n (λ v r g l h. other v r h) n (omega arith))
    where
      other : (v : ℕ) (r : List ℕ) → table v ≡ some r → eqb v u ≡ false
      other v r h = by_cases (eqb v u) (λ f. absurd (no_true (ap is_held (sym h ∙ ap table (eqb-true v u f) ∙ e)))) (λ f. f)

  place-one : (u : ℕ) (r : List ℕ) → 1 ≤ u → u ≤ n → table u ≡ some r → those (is_id u) xs ≡ place_of desk u (some r)
  place-one u r g l e =
      let w : Block → Bool = λ c. is_id u c && not (same_block c (block_of desk u r)) in
      let z : cnt w (table_blocks desk table n) ≡ 0 = none_of desk table w n (λ v r' g l h. only v r' h) n (omega arith) in
      those-one (is_id u) (block_of desk u r) xs (omega (arith, bag (is_id u), (few desk table u n).0, there-is desk table u n g l (ap is_held e))) (bag w ∙ z)
    where
      only : (v : ℕ) (r' : List ℕ) → table v ≡ some r' → (eqb v u && not (same_block (block_of desk v r') (block_of desk u r))) ≡ false
      only v r' h =
          by_cases (eqb v u)
          (λ f.
          let p : v ≡ u = eqb-true v u f in
          let q : r' ≡ r = some_inj r' r (sym h ∙ ap table p ∙ e) in
          rw (f, q, same_refl r, eq-eqb (position_of desk v) (position_of desk u) (ap (position_of desk) p)) refl)
          (λ f. rw f refl)

  -- the places of an id: none, or the one block of what is held
  pub one_place : (u : ℕ) → 1 ≤ u → u ≤ n → those (is_id u) xs ≡ place_of desk u (table u)
  one_place u g l = go (table u) refl
    where
      go : (o : Option (List ℕ)) → table u ≡ o → those (is_id u) xs ≡ place_of desk u o
      go none e = place_none u e
      go (some r) e = place-one u r g l e

  -- there is no other id
  pub no_place : (u : ℕ) → n < u → those (is_id u) xs ≡ []
  no_place u h = those-none (is_id u) xs (bag (is_id u) ∙ (few desk table u n).1 h)

  pub how-many : length xs ≡ ever_written table n
  how-many = same_length xs (table_blocks desk table n) bag ∙ rows n
    where
      place-length : (u : ℕ) (o : Option (List ℕ)) → length (place_of desk u o) ≡ is_some o
      place-length u none = refl
      place-length u (some r) = refl

      rows : (k : ℕ) → length (table_blocks desk table k) ≡ ever_written table k
      rows zero = refl
      rows (suc k) =
          length-append (table_blocks desk table k) (place_of desk (suc k) (table (suc k))) ∙ ap₂ (λ (a b : ℕ). a + b) (rows k) (place-length (suc k) (table (suc k)))
