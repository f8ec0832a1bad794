-- The walk passes exactly where every block is placed and has its id nowhere else on the path or in the stash. Assumes nothing.
use Prim.Native.Nat.{ℕ, ◌+◌, ◌≤◌, ◌<◌}
use mathlib.Core.Bool.{true, ◌&&◌}
use mathlib.Core.Path.{◌≡◌, refl, ap}
use mathlib.Core.List.{List, [], ◌∷◌, ◌++◌, append-nil}
use native.Mathlib.Omega.{arith}
use lib.Dec.{eqb}
use borrow.Author.Tests.{eq-eqb, eqb-true}
use Rattle.words.proofs.Tests.{by_cases, and_left, and_right}
use Rattle.bags.specs.Bags.{bit, cnt, those, AllOf}
use Rattle.bags.proofs.Bags.{cnt-append}
use Rattle.slots.specs.Slots.{Block, is_used}
use Rattle.opening.specs.Opening.{is_id, is_placed}
use Rattle.opening.specs.Walk.{walk, passes}
use Rattle.opening.proofs.Tests.{implied, implies}

-- ---- lists of blocks

-- one block more
cnt-snoc : (id : ℕ) (met : List Block) (b : Block) → cnt (is_id id) (met ++ (b ∷ [])) ≡ cnt (is_id id) met + bit (eqb b.id id)
cnt-snoc id met b = omega (arith, cnt-append (is_id id) met (b ∷ []))

-- what stands in a list is counted there
pub counted : (xs ys : List Block) → ((id : ℕ) → cnt (is_id id) xs ≤ cnt (is_id id) ys) → AllOf (λ b. 0 < cnt (is_id b.id) ys) xs
counted [] ys h = tt
counted (b ∷ xs) ys h =
    let e : eqb b.id b.id ≡ true = eq-eqb b.id b.id refl in
    let f : bit (eqb b.id b.id) ≡ 1 = ap bit e in
    (omega (arith, f, h b.id), counted xs ys (λ id. omega (arith, h id)))

-- ids that stand nowhere twice
abbrev pub Distinct : List Block → Type 0
Distinct bs = (id : ℕ) → cnt (is_id id) bs ≤ 1

distinct_snoc : (met : List Block) (b : Block) → cnt (is_id b.id) met ≡ 0 → Distinct met → Distinct (met ++ (b ∷ []))
distinct_snoc met b h d id =
    by_cases (eqb b.id id)
    (λ e.
    let f : cnt (is_id b.id) met ≡ cnt (is_id id) met = ap (λ (i : ℕ). cnt (is_id i) met) (eqb-true b.id id e) in
    let g : bit (eqb b.id id) ≡ 1 = ap bit e in
    omega (arith, cnt-snoc id met b, f, g))
    (λ e. let g : bit (eqb b.id id) ≡ 0 = ap bit e in omega (arith, cnt-snoc id met b, g, d id))

-- ---- one walk

module _ (desk : List ℕ) (k : ℕ) where
  abbrev pub Placed : List Block → Type 0
  Placed bs = AllOf (λ b. is_placed desk k b ≡ true) bs

  pub record Goes (met bs : List Block) : Type 0 where
    pub placed : Placed (those is_used bs)
    pub distinct : Distinct met → Distinct (met ++ those is_used bs)

  pub walk-goes : (met bs : List Block) → walk desk k met bs ≡ true → Goes met bs
  unfolding walk those
  walk-goes met [] h = record { placed = tt; distinct = λ d id. rw append-nil (d id) }
  walk-goes met (b ∷ bs) h =
      by_cases (is_used b)
      (λ e.
      let p : is_placed desk k b && eqb (cnt (is_id b.id) met) 0 ≡ true = implied (is_used b) _ (and_left _ _ h) e in
      let g : Goes (met ++ (b ∷ [])) bs = walk-goes (met ++ (b ∷ [])) bs (rw e at (and_right (passes desk k met b) _ h)) in
      let fresh : cnt (is_id b.id) met ≡ 0 = eqb-true _ _ (and_right (is_placed desk k b) _ p) in
      record {
        placed = rw e (and_left _ _ p, g.placed);
        distinct = λ d id.
            let t : List Block = those is_used bs in
            rw e (omega (arith, g.distinct (distinct_snoc met b fresh d) id, cnt-append (is_id id) (met ++ (b ∷ [])) t, cnt-snoc id met b, cnt-append (is_id id) met (b ∷ t)));
      })
      (λ e.
      let g : Goes met bs = walk-goes met bs (rw (e, append-nil met) at (and_right (passes desk k met b) _ h)) in
      record { placed = rw e g.placed; distinct = λ d. rw e (g.distinct d) })

  pub walk_of : (whole met bs : List Block) → Placed (those is_used bs) → AllOf (λ b. cnt (is_id b.id) whole ≡ 1) (those is_used bs)
      → ((id : ℕ) → cnt (is_id id) met + cnt (is_id id) (those is_used bs) ≤ cnt (is_id id) whole) → walk desk k met bs ≡ true
  unfolding walk those
  walk_of whole met [] p o h = refl
  walk_of whole met (b ∷ bs) p o h =
      by_cases (is_used b)
      (λ e.
      let p₁ : Placed (b ∷ those is_used bs) = rw e at p in
      let o₁ : AllOf (λ b. cnt (is_id b.id) whole ≡ 1) (b ∷ those is_used bs) = rw e at o in
      let h₁ : (id : ℕ) → cnt (is_id id) met + cnt (is_id id) (b ∷ those is_used bs) ≤ cnt (is_id id) whole = rw e at h in
      let one : bit (eqb b.id b.id) ≡ 1 = ap bit (eq-eqb b.id b.id refl) in
      let fresh : cnt (is_id b.id) met ≡ 0 = omega (arith, h₁ b.id, one, o₁.0) in
      let here : passes desk k met b ≡ true = implies (is_used b) _ (λ t. rw (p₁.0, eq-eqb _ 0 fresh)) in
      let rest : walk desk k (met ++ (b ∷ [])) bs ≡ true = walk_of whole (met ++ (b ∷ [])) bs p₁.1 o₁.1 (λ id. omega (arith, h₁ id, cnt-snoc id met b)) in
      rw here (rw e rest))
      (λ e.
      let rest : walk desk k met bs ≡ true = walk_of whole met bs (rw e at p) (rw e at o) (rw e at h) in
      rw e (rw append-nil rest))
