-- Lengths: items of a path follow each other without gaps and fill it; so do the buckets of a tree. Assumes nothing.
use mathlib.Core.Path.{◌≡◌, sym, ap, ◌∙◌}
use mathlib.Core.Bool.{Bool, true}
use mathlib.Core.List.{List, [], ◌∷◌, ◌++◌}
use Prim.Native.Nat.{ℕ, zero, suc, ◌+◌, ◌*◌, ◌-◌, ◌%◌, ◌^◌, ◌≤◌, ◌<◌}
use native.Mathlib.Nat.{mul-le-mul_right, mul-le-mul, suc-mul, zero-mul, zero-add, one-mul, mod-eq_of_lt, pow-le-pow_right}
use native.Mathlib.Omega.{arith}
use lib.ListN.{length, take}
use lib.Dec.{leb}
use borrow.Author.Tests.{lt-ltb, le-ltb, leb-true, le-leb}
use Rattle.words.specs.Bytes.{part}
use Rattle.words.proofs.Splice.{part-add, part-whole}
use Rattle.words.proofs.Tests.{below_or, each, every_of}
use Rattle.sizes.specs.declared.Sizes.{Sizes}
use Rattle.sizes.specs.Sizes.{most_height, most_slots, sizes_good, InRange, leaves, leaf_len, inner_len, item_len, item_at, path_len, item_of, most_path, inners, tree_at, bucket_len, bucket_count, tree_len, bucket_in}

-- ---- sizes in range: the test is true exactly where each is

abbrev size_tests : Sizes → List Bool
size_tests s = leb 1 s.height ∷ leb s.height most_height ∷ leb 1 s.slots ∷ leb s.slots most_slots ∷ []

pub sizes-range : (s : Sizes) → sizes_good s ≡ true → InRange s
sizes-range s h =
    let e = each (size_tests s) h in
    record {
      height_low = leb-true 1 s.height e.0;
      height_high = leb-true s.height most_height e.1.0;
      slots_low = leb-true 1 s.slots e.1.1.0;
      slots_high = leb-true s.slots most_slots e.1.1.1.0;
    }

pub range-sizes : (s : Sizes) → InRange s → sizes_good s ≡ true
range-sizes s r =
    every_of (size_tests s) (
      le-leb 1 s.height r.height_low,
      (le-leb s.height most_height r.height_high, (le-leb 1 s.slots r.slots_low, (le-leb s.slots most_slots r.slots_high, tt))),
    )

-- ---- numbers are small: what two factors of these sizes come to

pub power_small : (k : ℕ) → k ≤ 12 → (1 ≤ 2 ^ k) × (2 ^ k ≤ 4096)
power_small k h =
    (pow-le-pow_right {n = 2} (omega arith) {i = 0} {j = k} (omega arith), pow-le-pow_right {n = 2} (omega arith) {i = k} {j = 12} h)

pub power-is : (k : ℕ) → k ≤ 12 → 1 * 2 ^ k % 2 ^ 64 ≡ 2 ^ k
power-is k h = rw one-mul (mod-eq_of_lt (omega (arith, (power_small k h).1)))

pub product-most : (a b : ℕ) → a ≤ 4096 → b ≤ 618 → a * b ≤ 2531328
product-most a b h k = mul-le-mul {n₁ = a} {m₁ = b} {n₂ = 4096} {m₂ = 618} h k

-- ---- an item's length by its level, a bucket's by its number

pub inner-item : (s : Sizes) (k : ℕ) → k < s.height → item_len s k ≡ inner_len s
inner-item s k h = rw (lt-ltb k s.height h)

pub leaf-item : (s : Sizes) (k : ℕ) → s.height ≤ k → item_len s k ≡ leaf_len s
leaf-item s k h = rw (le-ltb k s.height h)

pub inner-bucket : (s : Sizes) (b : ℕ) → b < inners s → bucket_len s b ≡ inner_len s
inner-bucket s b h = rw (lt-ltb b (inners s) h)

pub leaf-bucket : (s : Sizes) (b : ℕ) → inners s ≤ b → bucket_len s b ≡ leaf_len s
leaf-bucket s b h = rw (le-ltb b (inners s) h)

-- ---- items of a path

pub next-item : (s : Sizes) (k : ℕ) → item_at s (suc k) ≡ item_at s k + inner_len s
next-item s k = suc-mul k (inner_len s)

pub level-fits : (s : Sizes) (j k : ℕ) → j ≤ k → item_at s j ≤ item_at s k
level-fits s j k h = mul-le-mul_right {m = j} {n = k} (inner_len s) h

pub level-below : (s : Sizes) (j k : ℕ) → j < k → item_at s j + inner_len s ≤ item_at s k
level-below s j k h = omega (arith, level-fits s (suc j) k h, next-item s j)

pub path_most : (s : Sizes) → InRange s → path_len s ≤ most_path
path_most s r = omega (arith, mul-le-mul {n₁ = s.height} {m₁ = inner_len s} {n₂ = 12} {m₂ = 618} (omega arith) (omega arith))

-- each lies in the path, and before the next
pub item_fits : (s : Sizes) (k : ℕ) → k ≤ s.height → item_at s k + item_len s k ≤ path_len s
item_fits s k h =
    below_or k s.height
    (λ l. omega (arith, inner-item s k l, level-below s k s.height l))
    (λ l. omega (arith, leaf-item s k l, level-fits s k s.height h))

pub items-apart : (s : Sizes) (j k : ℕ) → j < k → k ≤ s.height → item_at s j + item_len s j ≤ item_at s k
items-apart s j k h l = omega (arith, inner-item s j (omega arith), level-below s j k h)

-- the first n of them, one after another, are the path's beginning; all of them are the path
unfoldable pub items_to : Sizes → List ℕ → ℕ → List ℕ
items_to s path zero = []
items_to s path (suc k) = items_to s path k ++ item_of s path k

items-start : (s : Sizes) (path : List ℕ) (k : ℕ) → k ≤ s.height → items_to s path k ≡ part path 0 (item_at s k)
unfolding items_to
items-start s path zero h = rw zero-mul
items-start s path (suc k) h =
    rw (items-start s path k (omega arith), inner-item s k (omega arith), next-item s k) (sym (part-add path 0 (item_at s k) (inner_len s) ∙ rw zero-add))

pub items-fill : (s : Sizes) (path : List ℕ) → length path ≡ path_len s → items_to s path (suc s.height) ≡ path
unfolding items_to
items-fill s path h =
    rw (items-start s path s.height (omega arith), leaf-item s s.height (omega arith))
    (sym (part-add path 0 (item_at s s.height) (leaf_len s) ∙ rw zero-add) ∙ part-whole path (path_len s) (omega arith))

-- ---- buckets of a tree

pub leaves-pos : (s : Sizes) → 1 ≤ leaves s
leaves-pos s = pow-le-pow_right {n = 2} (omega arith) {i = 0} {j = s.height} (omega arith)

pub leaves_most : (s : Sizes) → s.height ≤ 12 → leaves s ≤ 4096
leaves_most s h = pow-le-pow_right {n = 2} (omega arith) {i = s.height} {j = 12} h

pub inner-at : (s : Sizes) (b : ℕ) → b < inners s → tree_at s b ≡ b * inner_len s
inner-at s b h = rw (lt-ltb b (inners s) h)

pub leaf-at : (s : Sizes) (b : ℕ) → inners s ≤ b → tree_at s b ≡ inners s * inner_len s + (b - inners s) * leaf_len s
leaf-at s b h = rw (le-ltb b (inners s) h)

-- the root stands first, and each begins where the one before it ends
pub first-bucket : (s : Sizes) → tree_at s 0 ≡ 0
first-bucket s =
    below_or 0 (inners s)
    (λ l. inner-at s 0 l ∙ zero-mul (inner_len s))
    (λ l.
    let e : inners s ≡ 0 = omega arith in
    leaf-at s 0 l ∙ rw e (omega arith))

pub next-bucket : (s : Sizes) (b : ℕ) → tree_at s (suc b) ≡ tree_at s b + bucket_len s b
next-bucket s b =
    below_or b (inners s)
    (λ l.
    below_or (suc b) (inners s)
    (λ m. omega (arith, inner-at s (suc b) m, inner-at s b l, inner-bucket s b l, suc-mul b (inner_len s)))
    (λ m.
    let e : inners s ≡ suc b = omega arith in
    let z : suc b - inners s ≡ 0 = omega arith in
    let f : tree_at s (suc b) ≡ inners s * inner_len s = leaf-at s (suc b) m ∙ rw (z, zero-mul) (omega arith) in
    let g : inners s * inner_len s ≡ suc b * inner_len s = ap (λ (n : ℕ). n * inner_len s) e in
    omega (arith, inner-at s b l, inner-bucket s b l, suc-mul b (inner_len s))))
    (λ l.
    let z : suc b - inners s ≡ suc (b - inners s) = omega arith in
    let f : (suc b - inners s) * leaf_len s ≡ (b - inners s) * leaf_len s + leaf_len s = ap (λ (n : ℕ). n * leaf_len s) z ∙ suc-mul (b - inners s) (leaf_len s) in
    omega (arith, leaf-at s (suc b) (omega arith), leaf-at s b l, leaf-bucket s b l))

pub last-bucket : (s : Sizes) → tree_at s (bucket_count s) ≡ tree_len s
last-bucket s =
    let e : bucket_count s - inners s ≡ leaves s = omega arith in
    leaf-at s (bucket_count s) (omega arith) ∙ rw e

later-bucket : (s : Sizes) (d b : ℕ) → tree_at s b ≤ tree_at s (d + b)
later-bucket s zero b = rw zero-add (omega arith)
later-bucket s (suc d) b =
    let e : suc d + b ≡ suc (d + b) = omega arith in
    rw e (omega (arith, later-bucket s d b, next-bucket s (d + b)))

-- each lies in the tree, and before the next
pub buckets-apart : (s : Sizes) (a b : ℕ) → a < b → tree_at s a + bucket_len s a ≤ tree_at s b
buckets-apart s a b h =
    let d = b - suc a in
    let e : d + suc a ≡ b = omega arith in
    omega (arith, rw e at (later-bucket s d (suc a)), next-bucket s a)

pub bucket-fits : (s : Sizes) (b : ℕ) → b < bucket_count s → tree_at s b + bucket_len s b ≤ tree_len s
bucket-fits s b h = omega (arith, buckets-apart s b (bucket_count s) h, last-bucket s)

-- the first n of them, one after another, are the tree's beginning; all of them are the tree
unfoldable pub buckets_to : Sizes → List ℕ → ℕ → List ℕ
buckets_to s tree zero = []
buckets_to s tree (suc b) = buckets_to s tree b ++ bucket_in s tree b

buckets-start : (s : Sizes) (tree : List ℕ) (b : ℕ) → buckets_to s tree b ≡ part tree 0 (tree_at s b)
unfolding buckets_to
buckets-start s tree zero = ap (λ (n : ℕ). take n tree) (sym (first-bucket s))
buckets-start s tree (suc b) =
    rw (buckets-start s tree b) (sym (ap (λ (n : ℕ). take n tree) (next-bucket s b) ∙ part-add tree 0 (tree_at s b) (bucket_len s b) ∙ rw zero-add))

pub buckets-fill : (s : Sizes) (tree : List ℕ) → length tree ≡ tree_len s → buckets_to s tree (bucket_count s) ≡ tree
buckets-fill s tree h =
    buckets-start s tree (bucket_count s) ∙ part-whole tree (tree_at s (bucket_count s)) (omega (arith, last-bucket s))
