-- Buckets by their level: how many there are, what each holds, and where its blocks lie. Assumes nothing.
use Prim.Native.Nat.{ℕ, zero, suc, ◌-◌, ◌≤◌}
use mathlib.Core.Path.{◌≡◌, refl, ap}
use mathlib.Core.Bool.{Bool}
use mathlib.Core.List.{List, [], ◌∷◌}
use native.Mathlib.Omega.{arith}
use lib.ListN.{length, get_or}
use borrow.Author.Tests.{eqb-true}
use Rattle.sizes.specs.declared.Sizes.{Sizes}
use Rattle.sizes.specs.Sizes.{place_in, bucket_at}
use Rattle.bags.specs.Bags.{cnt, flat, All, AllOf}
use Rattle.bags.proofs.Bags.{cnt-append}
use Rattle.slots.specs.Slots.{Block}
use Rattle.placing.specs.Filling.{Within}
use Rattle.placing.specs.Placing.{on_way, levels}

-- one of several lists
pub cnt-one : {A : Type 0} (t : A → Bool) (xs : List (List A)) (h : ℕ) → cnt t (get_or xs h []) ≤ cnt t (flat xs)
cnt-one t [] h = omega arith
cnt-one t (x ∷ xs) zero = omega (arith, cnt-append t x (flat xs))
cnt-one t (x ∷ xs) (suc h) = omega (arith, cnt-append t x (flat xs), cnt-one t xs h)

pub within-length : (z : ℕ) (s : Sizes) (leaf k : ℕ) (bs : List (List Block)) → Within z (levels s leaf k) bs → length bs ≡ suc k
within-length z s leaf zero [] w = absurd w
within-length z s leaf zero (b ∷ []) w = refl
within-length z s leaf zero (b ∷ (c ∷ bs)) w = absurd w.2
within-length z s leaf (suc k) [] w = absurd w
within-length z s leaf (suc k) (b ∷ bs) w = ap suc (within-length z s leaf k bs w.2)

pub within-at : (z : ℕ) (s : Sizes) (leaf k : ℕ) (bs : List (List Block)) → Within z (levels s leaf k) bs → (h : ℕ) → h ≤ k → All (on_way s leaf (k - h)) (get_or bs h [])
within-at z s leaf zero [] w h l = absurd w
within-at z s leaf zero (b ∷ bs) w zero l = let e : 0 - 0 ≡ 0 = omega arith in rw e w.1
within-at z s leaf zero (b ∷ bs) w (suc h) l = absurd (omega arith)
within-at z s leaf (suc k) [] w h l = absurd w
within-at z s leaf (suc k) (b ∷ bs) w zero l = let e : suc k - 0 ≡ suc k = omega arith in rw e w.1
within-at z s leaf (suc k) (b ∷ bs) w (suc h) l = let e : suc k - suc h ≡ k - h = omega arith in rw e (within-at z s leaf k bs w.2 h (omega arith))

pub on-place : (s : Sizes) (leaf k : ℕ) (bs : List Block) → All (on_way s leaf k) bs → AllOf (λ b. place_in s b.leaf k ≡ place_in s leaf k) bs
on-place s leaf k [] a = tt
on-place s leaf k (b ∷ bs) a =
    let e : bucket_at s b.leaf k ≡ bucket_at s leaf k = eqb-true _ _ a.0 in
    (omega arith, on-place s leaf k bs a.1)
