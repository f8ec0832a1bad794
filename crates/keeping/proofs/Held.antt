-- The blocks that stand for a table: which tests they pass, and how often. Assumes nothing.
use Prim.Native.Nat.{ℕ, zero, suc, ◌+◌, ◌<◌, ◌≤◌}
use mathlib.Core.Path.{◌≡◌, refl, sym, ap₂, ◌∙◌}
use mathlib.Core.Logic.{◌≢◌}
use mathlib.Core.Bool.{Bool, true, false}
use mathlib.Core.List.{List, [], ◌∷◌}
use native.Mathlib.Omega.{arith}
use mathlib.Core.Option.{Option, none, some}
use lib.Dec.{eqb}
use borrow.Author.Tests.{eqb-true, eqb-false, eq-eqb}
use Rattle.words.proofs.Tests.{by_cases}
use Rattle.bags.specs.Bags.{bit, cnt, AllOf}
use Rattle.bags.proofs.Bags.{cnt-append}
use Rattle.bags.proofs.All.{all_map}
use Rattle.slots.specs.Slots.{Block}
use Rattle.opening.specs.Opening.{is_id}
use Rattle.opening.proofs.Tests.{no_true}
use Rattle.keeping.specs.Table.{Table, is_held, block_of, place_of, table_blocks}

module _ (desk : List ℕ) (table : Table) where
  -- a test that no block of the table passes
  pub none_of : (t : Block → Bool) (top : ℕ) → ((u : ℕ) (r : List ℕ) → 1 ≤ u → u ≤ top → table u ≡ some r → t (block_of desk u r) ≡ false)
      → (n : ℕ) → n ≤ top → cnt t (table_blocks desk table n) ≡ 0
  none_of t top f zero l = refl
  none_of t top f (suc n) l =
      cnt-append t (table_blocks desk table n) _ ∙ ap₂ (λ (a b : ℕ). a + b) (none_of t top f n (omega arith)) (go (table (suc n)) refl (f (suc n)))
    where
      go : (o : Option (List ℕ)) → table (suc n) ≡ o
          → ((r : List ℕ) → 1 ≤ suc n → suc n ≤ top → table (suc n) ≡ some r → t (block_of desk (suc n) r) ≡ false) → cnt t (place_of desk (suc n) o) ≡ 0
      go none e g = refl
      go (some r) e g = rw (g r (omega arith) l e) refl

  place-few : (u v : ℕ) (o : Option (List ℕ)) → cnt (is_id u) (place_of desk v o) ≤ bit (eqb v u)
  place-few u v none = omega arith
  place-few u v (some r) = omega arith

  -- an id has at most one
  pub few : (u n : ℕ) → (cnt (is_id u) (table_blocks desk table n) ≤ 1) × (n < u → cnt (is_id u) (table_blocks desk table n) ≡ 0)
  few u zero = (omega arith, λ h. refl)
  few u (suc n) =
      let i = few u n in
      let a = cnt-append (is_id u) (table_blocks desk table n) (place_of desk (suc n) (table (suc n))) in
      let p = place-few u (suc n) (table (suc n)) in
      by_cases (eqb (suc n) u)
      (λ e.
      let q : suc n ≡ u = eqb-true (suc n) u e in
      let z = i.1 (omega arith) in
      let p' = rw e at p in
      (omega (arith, a, z, p'), λ h. absurd (omega arith)))
      (λ e. let p' = rw e at p in (omega (arith, a, i.0, p'), λ h. omega (arith, a, i.1 (omega arith), p')))

  -- an id that is held has one
  pub there-is : (u n : ℕ) → 1 ≤ u → u ≤ n → is_held (table u) ≡ true → 0 < cnt (is_id u) (table_blocks desk table n)
  there-is u zero g l h = absurd (omega arith)
  there-is u (suc n) g l h =
      let a = cnt-append (is_id u) (table_blocks desk table n) (place_of desk (suc n) (table (suc n))) in
      by_cases (eqb u (suc n))
      (λ e. let q : u ≡ suc n = eqb-true u (suc n) e in let p = here (table (suc n)) (rw q at h) q in omega (arith, a, p))
      (λ e. let q : u ≢ suc n = eqb-false u (suc n) e in omega (arith, a, there-is u n g (omega arith) h))
    where
      here : (o : Option (List ℕ)) → is_held o ≡ true → u ≡ suc n → 0 < cnt (is_id u) (place_of desk (suc n) o)
      here none h q = absurd (no_true (sym h))
      here (some r) h q = rw (eq-eqb (suc n) u (sym q)) (omega arith)

-- each block of a list has its id there
pub selves : (bs : List Block) → AllOf (λ b. 0 < cnt (is_id b.id) bs) bs
selves [] = tt
selves (c ∷ bs) = (
  rw (eq-eqb c.id c.id refl) (omega arith),
  all_map (λ b. 0 < cnt (is_id b.id) bs) (λ b. 0 < cnt (is_id b.id) (c ∷ bs)) (λ b h. omega (arith, h)) bs (selves bs),
)
