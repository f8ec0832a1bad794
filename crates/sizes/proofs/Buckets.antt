-- Buckets on the way to a leaf: each is a child of the one above it, on the leaf's side; two leaves share one exactly if they agree above. Assumes nothing.
use mathlib.Core.Path.{◌≡◌, sym, ap, ◌∙◌}
use mathlib.Core.Logic.{◌↔◌}
use Prim.Native.Nat.{ℕ, zero, suc, ◌+◌, ◌*◌, ◌-◌, ◌/◌, ◌^◌, ◌≤◌, ◌<◌}
use native.Mathlib.Nat.{pow-le-pow_right, pow-suc, pow-succ', div-div-eq-div-mul, div-lt_iff_lt-mul, div-one, sub_self, le_antisymm}
use native.Mathlib.Omega.{arith}
use lib.Pow.{pow-add}
use Rattle.words.proofs.Tests.{below_or}
use Rattle.sizes.specs.declared.Sizes.{Sizes}
use Rattle.sizes.specs.Sizes.{leaves, child, place_in, bucket_at, side_at, inners, item_len, bucket_len, bucket_count}
use Rattle.sizes.proofs.Lengths.{inner-item, leaf-item, inner-bucket, leaf-bucket, leaves-pos}

pub pow_pos : (k : ℕ) → 1 ≤ 2 ^ k
pow_pos k = pow-le-pow_right {n = 2} (omega arith) {i = 0} {j = k} (omega arith)

-- the place below is twice the place above, and one more on the right
pub next_place : (s : Sizes) (leaf k : ℕ) → k < s.height → place_in s leaf (suc k) ≡ 2 * place_in s leaf k + side_at s leaf k
next_place s leaf k h =
    let d = s.height - suc k in
    let f : s.height - k ≡ suc d = omega arith in
    let a : place_in s leaf k ≡ leaf / 2 ^ d / 2 =
    ap (λ (n : ℕ). leaf / 2 ^ n) f ∙ ap (λ (n : ℕ). leaf / n) (pow-suc 2 d) ∙ sym (div-div-eq-div-mul leaf (2 ^ d) 2) in
    rw a (omega arith)

pub side-small : (s : Sizes) (leaf k : ℕ) → side_at s leaf k ≤ 1
side-small s leaf k = omega arith

-- the bucket at level k + 1 is a child of the one at level k, left or right by the leaf's bit
pub child-bucket : (s : Sizes) (leaf k : ℕ) → k < s.height → bucket_at s leaf (suc k) ≡ child (bucket_at s leaf k) (side_at s leaf k)
child-bucket s leaf k h = omega (arith, next_place s leaf k h, pow-succ' 2 k, pow_pos k)

-- level k has 2 ^ k places
pub place-below : (s : Sizes) (leaf k : ℕ) → k ≤ s.height → leaf < leaves s → place_in s leaf k < 2 ^ k
place-below s leaf k h l =
    let e : k + (s.height - k) ≡ s.height = omega arith in
    let f : leaves s ≡ 2 ^ k * 2 ^ (s.height - k) = ap (λ (n : ℕ). 2 ^ n) (sym e) ∙ pow-add 2 k (s.height - k) in
    (div-lt_iff_lt-mul {k = 2 ^ (s.height - k)} {x = leaf} {y = 2 ^ k} (pow_pos (s.height - k))).1 (rw f at l)

-- the leaf's own place is the leaf
pub leaf-place : (s : Sizes) (leaf : ℕ) → place_in s leaf s.height ≡ leaf
leaf-place s leaf = rw sub_self (div-one leaf)

-- an inner level's bucket is an inner one, the leaf level's is a leaf's
pub bucket-inner : (s : Sizes) (leaf k : ℕ) → k < s.height → leaf < leaves s → bucket_at s leaf k < inners s
bucket-inner s leaf k h l =
    let p : 2 ^ suc k ≤ 2 ^ s.height = pow-le-pow_right {n = 2} (omega arith) {i = suc k} {j = s.height} h in
    omega (arith, place-below s leaf k (omega arith) l, pow-succ' 2 k, pow_pos k)

pub bucket-leaf : (s : Sizes) (leaf : ℕ) → bucket_at s leaf s.height ≡ inners s + leaf
bucket-leaf s leaf = ap (λ (n : ℕ). inners s + n) (leaf-place s leaf)

pub bucket-below : (s : Sizes) (leaf k : ℕ) → k ≤ s.height → leaf < leaves s → bucket_at s leaf k < bucket_count s
bucket-below s leaf k h l =
    below_or k s.height
    (λ m. omega (arith, bucket-inner s leaf k m l, leaves-pos s))
    (λ m.
    let e : k ≡ s.height = le_antisymm h m in
    omega (arith, bucket-leaf s leaf, ap (bucket_at s leaf) e))

-- so an item is as long as its bucket
pub item-bucket : (s : Sizes) (leaf k : ℕ) → k ≤ s.height → leaf < leaves s → bucket_len s (bucket_at s leaf k) ≡ item_len s k
item-bucket s leaf k h l =
    below_or k s.height
    (λ m. inner-bucket s (bucket_at s leaf k) (bucket-inner s leaf k m l) ∙ sym (inner-item s k m))
    (λ m.
    let e : k ≡ s.height = le_antisymm h m in
    leaf-bucket s (bucket_at s leaf k) (omega (arith, bucket-leaf s leaf, ap (bucket_at s leaf) e)) ∙ sym (leaf-item s k m))

-- buckets of different levels differ
pub levels-apart : (s : Sizes) (leaf j k : ℕ) → j < k → k ≤ s.height → leaf < leaves s → bucket_at s leaf j < bucket_at s leaf k
levels-apart s leaf j k h l m =
    let p : 2 ^ suc j ≤ 2 ^ k = pow-le-pow_right {n = 2} (omega arith) {i = suc j} {j = k} h in
    omega (arith, place-below s leaf j (omega arith) m, pow-succ' 2 j, pow_pos j)

-- two leaves have the same bucket at level k exactly if they agree above: on each level's side
module _ (s : Sizes) (leaf other : ℕ) (h : leaf < leaves s) (h' : other < leaves s) where
  pub agree_same : (k : ℕ) → k ≤ s.height → ((j : ℕ) → j < k → side_at s leaf j ≡ side_at s other j) → bucket_at s leaf k ≡ bucket_at s other k
  agree_same zero l agree =
      let p : place_in s leaf 0 < 2 ^ 0 = place-below s leaf 0 l h in
      let q : place_in s other 0 < 2 ^ 0 = place-below s other 0 l h' in
      omega arith
  agree_same (suc k) l agree =
      let e : bucket_at s leaf k ≡ bucket_at s other k = agree_same k (omega arith) (λ j m. agree j (omega arith)) in
      omega (arith, child-bucket s leaf k l, child-bucket s other k l, agree k (omega arith))

  above_same : (k : ℕ) → k < s.height → bucket_at s leaf (suc k) ≡ bucket_at s other (suc k) → (bucket_at s leaf k ≡ bucket_at s other k) × (side_at s leaf k ≡ side_at s other k)
  above_same k l e =
      let a = side-small s leaf k in
      let b = side-small s other k in
      let p = child-bucket s leaf k l in
      let q = child-bucket s other k l in
      (omega arith, omega arith)

  pub same-agree : (k : ℕ) → k ≤ s.height → bucket_at s leaf k ≡ bucket_at s other k → (j : ℕ) → j < k → side_at s leaf j ≡ side_at s other j
  same-agree zero l e j m = absurd (omega arith)
  same-agree (suc k) l e j m =
      let a = above_same k l e in
      below_or j k
      (λ n. same-agree k (omega arith) a.0 j n)
      (λ n. let i : j ≡ k = omega arith in rw i a.1)

  pub same-exactly : (k : ℕ) → k ≤ s.height → (bucket_at s leaf k ≡ bucket_at s other k) ↔ ((j : ℕ) → j < k → side_at s leaf j ≡ side_at s other j)
  same-exactly k l = (same-agree k l, agree_same k l)
