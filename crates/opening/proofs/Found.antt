-- The laws of lookup: of the first of several slots with an id, and of lists that stand together. Assumes nothing.
use Prim.Native.Nat.{ℕ, zero, suc, ◌+◌, ◌*◌, ◌≤◌, ◌<◌}
use mathlib.Core.Bool.{false, cond}
use mathlib.Core.Path.{◌≡◌, refl, ap}
use mathlib.Core.List.{List, [], ◌∷◌, ◌++◌}
use native.Mathlib.Omega.{arith}
use lib.ListN.{length, drop, length-drop}
use lib.Dec.{eqb}
use borrow.Author.Tests.{eq-eqb, ne_eqb, eqb-true}
use Rattle.words.specs.Bytes.{part}
use Rattle.words.specs.Numbers.{number}
use Rattle.words.proofs.Splice.{length_part}
use Rattle.words.proofs.Tests.{by_cases}
use Rattle.bags.specs.Bags.{bit, cnt, those, AllOf}
use Rattle.slots.specs.Slots.{Block, is_used, slot_by, blocks_by, blocks_of}
use Rattle.slots.proofs.Blocks.{slots-suc}
use Rattle.sizes.specs.Sizes.{slot_head, slot_len, record_len}
use Rattle.placing.proofs.Laid.{slot-next}
use Rattle.opening.specs.Opening.{is_id, lookup}

-- ---- the next of several slots: it has the id, or the others are looked through

module _ (id : ℕ) (xs slot rest : List ℕ) (cut : xs ≡ slot ++ rest) (long : length slot ≡ slot_len) (n m : ℕ) (one : m + 1 ≡ n) where
  pub lookup-hit : number 2 slot 0 ≡ id → lookup id (blocks_of n xs) ≡ part slot slot_head record_len
  unfolding lookup
  lookup-hit e = rw (slot-next xs slot rest cut long n m one, eq-eqb (number 2 slot 0) id e)

  pub lookup-miss : (number 2 slot 0 ≡ id → ⊥) → lookup id (blocks_of n xs) ≡ lookup id (blocks_of m rest)
  unfolding lookup
  lookup-miss e = rw (slot-next xs slot rest cut long n m one, ne_eqb (number 2 slot 0) id e)

pub lookup-end : (id : ℕ) (xs : List ℕ) (n : ℕ) → n ≡ 0 → lookup id (blocks_of n xs) ≡ []
unfolding lookup blocks_by
lookup-end id xs n h = rw h

-- the records of slots have their length
pub records-long : (r n : ℕ) (xs : List ℕ) → slot_by r * n ≤ length xs → AllOf (λ b. length b.bytes ≡ r) (blocks_by r n xs)
unfolding blocks_by
records-long r zero xs h = tt
records-long r (suc n) xs h =
    let e = slots-suc r n in
    (length_part xs slot_head r (omega arith), records-long r n (drop (slot_by r) xs) (omega (arith, length-drop (slot_by r) xs)))

-- ---- lists of blocks

module _ (id : ℕ) where
  pub lookup-none : (bs : List Block) → cnt (is_id id) bs ≡ 0 → lookup id bs ≡ []
  unfolding lookup
  lookup-none [] h = refl
  lookup-none (b ∷ bs) h =
      by_cases (eqb b.id id)
      (λ e. let f : bit (eqb b.id id) ≡ 1 = ap bit e in absurd (omega arith))
      (λ e. rw e (lookup-none bs (omega arith)))

  pub lookup-skip : (xs ys : List Block) → cnt (is_id id) xs ≡ 0 → lookup id (xs ++ ys) ≡ lookup id ys
  unfolding lookup
  lookup-skip [] ys h = refl
  lookup-skip (b ∷ xs) ys h =
      by_cases (eqb b.id id)
      (λ e. let f : bit (eqb b.id id) ≡ 1 = ap bit e in absurd (omega arith))
      (λ e. rw e (lookup-skip xs ys (omega arith)))

  pub lookup-stay : (xs ys : List Block) → 0 < cnt (is_id id) xs → lookup id (xs ++ ys) ≡ lookup id xs
  unfolding lookup
  lookup-stay [] ys h = absurd (omega arith)
  lookup-stay (b ∷ xs) ys h =
      by_cases (eqb b.id id)
      (λ e. rw e)
      (λ e. let f : bit (eqb b.id id) ≡ 0 = ap bit e in rw e (lookup-stay xs ys (omega arith)))

  -- empty slots have no id
  pub lookup-used : 0 < id → (bs : List Block) → lookup id (those is_used bs) ≡ lookup id bs
  unfolding lookup those
  lookup-used h [] = refl
  lookup-used h (b ∷ bs) =
      by_cases (eqb b.id 0)
      (λ e. let f : eqb b.id id ≡ false = ne_eqb b.id id (λ q. let z = eqb-true b.id 0 e in omega arith) in rw (e, f) (lookup-used h bs))
      (λ e. rw e (ap (λ (r : List ℕ). cond (eqb b.id id) b.bytes r) (lookup-used h bs)))

  -- a record that is found has its length, and none is found only where there is none
  pub lookup-long : (r : ℕ) (bs : List Block) → AllOf (λ b. length b.bytes ≡ r) bs → 0 < cnt (is_id id) bs → length (lookup id bs) ≡ r
  unfolding lookup
  lookup-long r [] a h = absurd (omega arith)
  lookup-long r (b ∷ bs) a h =
      by_cases (eqb b.id id)
      (λ e. rw e a.0)
      (λ e. let f : bit (eqb b.id id) ≡ 0 = ap bit e in rw e (lookup-long r bs a.1 (omega arith)))
