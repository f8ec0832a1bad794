-- Fetch and put: fetch after put gives the path back, put after fetch changes nothing, put leaves every bucket off the way as it was. Assumes nothing.
use mathlib.Core.Path.{◌≡◌, refl, sym, ap, ◌∙◌}
use mathlib.Core.List.{List}
use Prim.Native.Nat.{ℕ, zero, suc, ◌+◌, ◌≤◌, ◌<◌}
use native.Mathlib.Omega.{arith}
use lib.ListN.{length, length-append}
use Rattle.words.specs.Bytes.{part}
use Rattle.words.proofs.Splice.{length_part, length-splice, part-splice, part-splice-before, part-splice-after, part_left, part_right, part-whole, splice-part}
use Rattle.words.proofs.Tests.{below_or}
use Rattle.sizes.specs.declared.Sizes.{Sizes}
use Rattle.sizes.specs.Sizes.{leaves, item_len, item_at, item_of, path_len, bucket_at, tree_at, tree_len, bucket_len, bucket_in, bucket_count}
use Rattle.sizes.proofs.Lengths.{items_to, items-fill, inner-item, leaf-item, next-item, item_fits, items-apart, buckets-apart, bucket-fits}
use Rattle.sizes.proofs.Buckets.{item-bucket, bucket-below, levels-apart}
use Rattle.tree.specs.Tree.{Fits, item_in, fetched, put_back, TreeResult, fetch_of, put_of}

-- the item of level k lies in the tree
pub in_tree : (s : Sizes) (leaf k : ℕ) → k ≤ s.height → leaf < leaves s → tree_at s (bucket_at s leaf k) + item_len s k ≤ tree_len s
in_tree s leaf k h l = omega (arith, bucket-fits s (bucket_at s leaf k) (bucket-below s leaf k h l), item-bucket s leaf k h l)

-- ---- what is fetched

module _ (s : Sizes) (leaf : ℕ) (tree : List ℕ) (low : leaf < leaves s) (size : length tree ≡ tree_len s) where
  length-item : (k : ℕ) → k ≤ s.height → length (item_in s leaf tree k) ≡ item_len s k
  length-item k h = length_part tree (tree_at s (bucket_at s leaf k)) (item_len s k) (omega (arith, in_tree s leaf k h low))

  pub length-fetched : (k : ℕ) → k ≤ s.height → length (fetched s leaf tree k) ≡ item_at s k
  unfolding fetched
  length-fetched zero h = omega arith
  length-fetched (suc k) h =
      length-append (fetched s leaf tree k) (item_in s leaf tree k)
      ∙ omega (arith, length-fetched k (omega arith), length-item k (omega arith), inner-item s k h, next-item s k)

  pub length_whole : length (fetched s leaf tree (suc s.height)) ≡ path_len s
  unfolding fetched
  length_whole =
      length-append (fetched s leaf tree s.height) (item_in s leaf tree s.height)
      ∙ omega (arith, length-fetched s.height (omega arith), length-item s.height (omega arith), leaf-item s s.height (omega arith))

  -- each item of it is the tree's
  item-to : (n k : ℕ) → n ≤ suc s.height → k < n → part (fetched s leaf tree n) (item_at s k) (item_len s k) ≡ item_in s leaf tree k
  unfolding fetched
  item-to zero k h l = absurd (omega arith)
  item-to (suc n) k h l =
      let f = length-fetched n (omega arith) in
      below_or k n
      (λ m.
      part_left (fetched s leaf tree n) (item_in s leaf tree n) (item_at s k) (item_len s k) (omega (arith, items-apart s k n m (omega arith)))
      ∙ item-to n k (omega arith) m)
      (λ m.
      let e : k ≡ n = omega arith in
      let g = length-item n (omega arith) in
      rw e
      (part_right (fetched s leaf tree n) (item_in s leaf tree n) 0 (item_at s n) (item_len s n) (omega arith)
      ∙ part-whole (item_in s leaf tree n) (item_len s n) (omega arith)))

  pub item-fetched : (k : ℕ) → k ≤ s.height → item_of s (fetched s leaf tree (suc s.height)) k ≡ item_in s leaf tree k
  item-fetched k h = item-to (suc s.height) k (omega arith) (omega arith)

-- ---- what is put back

module _ (s : Sizes) (leaf : ℕ) (path tree : List ℕ) (fits : Fits s leaf tree path) where
  length-laid : (k : ℕ) → k ≤ s.height → length (item_of s path k) ≡ item_len s k
  length-laid k h = length_part path (item_at s k) (item_len s k) (omega (arith, item_fits s k h))

  pub length-put_back : (n : ℕ) → n ≤ suc s.height → length (put_back s leaf path tree n) ≡ length tree
  unfolding put_back
  length-put_back zero h = refl
  length-put_back (suc n) h =
      let p = length-put_back n (omega arith) in
      length-splice (put_back s leaf path tree n) (tree_at s (bucket_at s leaf n)) (item_of s path n)
      (omega (arith, length-laid n (omega arith), in_tree s leaf n (omega arith) fits.leaf_low))
      ∙ p

  -- a part that lies before or after the item of level n is as it was
  module _ (n : ℕ) (h : n ≤ s.height) where
    at : ℕ
    at = tree_at s (bucket_at s leaf n)

    inside : at ≤ length (put_back s leaf path tree n)
    unfolding at
    inside = omega (arith, length-put_back n (omega arith), in_tree s leaf n h fits.leaf_low)

    pub before-laid : (b m : ℕ) → b + m ≤ tree_at s (bucket_at s leaf n) → part (put_back s leaf path tree (suc n)) b m ≡ part (put_back s leaf path tree n) b m
    unfolding put_back at
    before-laid b m l = part-splice-before (put_back s leaf path tree n) at (item_of s path n) b m l inside

    pub after-laid : (b m : ℕ) → tree_at s (bucket_at s leaf n) + item_len s n ≤ b → part (put_back s leaf path tree (suc n)) b m ≡ part (put_back s leaf path tree n) b m
    unfolding put_back at
    after-laid b m l = part-splice-after (put_back s leaf path tree n) at (item_of s path n) b m (omega (arith, length-laid n h)) inside

    -- the item itself is the path's
    pub laid : item_in s leaf (put_back s leaf path tree (suc n)) n ≡ item_of s path n
    unfolding put_back at
    laid =
        let e = length-laid n h in
        ap (λ (m : ℕ). part (put_back s leaf path tree (suc n)) at m) (sym e) ∙ part-splice (put_back s leaf path tree n) at (item_of s path n) inside

  -- each of the first n items is the path's
  item-put : (n k : ℕ) → n ≤ suc s.height → k < n → item_in s leaf (put_back s leaf path tree n) k ≡ item_of s path k
  item-put zero k h l = absurd (omega arith)
  item-put (suc n) k h l =
      below_or k n
      (λ m.
      let b = levels-apart s leaf k n m (omega arith) fits.leaf_low in
      before-laid n (omega arith) (tree_at s (bucket_at s leaf k)) (item_len s k)
      (omega (arith, buckets-apart s (bucket_at s leaf k) (bucket_at s leaf n) b, item-bucket s leaf k (omega arith) fits.leaf_low))
      ∙ item-put n k (omega arith) m)
      (λ m. let e : k ≡ n = omega arith in rw e (laid n (omega arith)))

  fetched-put : (n : ℕ) → n ≤ suc s.height → fetched s leaf (put_back s leaf path tree (suc s.height)) n ≡ items_to s path n
  unfolding fetched items_to
  fetched-put zero h = refl
  fetched-put (suc n) h = rw (fetched-put n (omega arith), item-put (suc s.height) n (omega arith) (omega arith))

  -- fetch after put of the same leaf gives the path back
  pub fetch-put : fetched s leaf (put_back s leaf path tree (suc s.height)) (suc s.height) ≡ path
  fetch-put = fetched-put (suc s.height) (omega arith) ∙ items-fill s path fits.path_length

  -- put leaves every bucket off the way as it was
  bucket-stays : (c : ℕ) → c < bucket_count s → ((k : ℕ) → k ≤ s.height → bucket_at s leaf k ≡ c → ⊥) → (n : ℕ) → n ≤ suc s.height
      → bucket_in s (put_back s leaf path tree n) c ≡ bucket_in s tree c
  unfolding put_back
  bucket-stays c h off zero l = refl
  bucket-stays c h off (suc n) l =
      let i = item-bucket s leaf n (omega arith) fits.leaf_low in
      below_or c (bucket_at s leaf n)
      (λ m. before-laid n (omega arith) (tree_at s c) (bucket_len s c) (buckets-apart s c (bucket_at s leaf n) m))
      (λ m.
      let d : bucket_at s leaf n < c = below_or (bucket_at s leaf n) c (λ d. d) (λ d. absurd (off n (omega arith) (omega arith))) in
      after-laid n (omega arith) (tree_at s c) (bucket_len s c) (omega (arith, buckets-apart s (bucket_at s leaf n) c d)))
      ∙ bucket-stays c h off n (omega arith)

  pub put-elsewhere : (c : ℕ) → c < bucket_count s → ((k : ℕ) → k ≤ s.height → bucket_at s leaf k ≡ c → ⊥)
      → bucket_in s (put_back s leaf path tree (suc s.height)) c ≡ bucket_in s tree c
  put-elsewhere c h off = bucket-stays c h off (suc s.height) (omega arith)

  pub put-on-way : (k : ℕ) → k ≤ s.height → bucket_in s (put_back s leaf path tree (suc s.height)) (bucket_at s leaf k) ≡ item_of s path k
  put-on-way k h =
      ap (λ (m : ℕ). part (put_back s leaf path tree (suc s.height)) (tree_at s (bucket_at s leaf k)) m) (item-bucket s leaf k h fits.leaf_low)
      ∙ item-put (suc s.height) k (omega arith) (omega arith)

-- put after fetch changes nothing
module _ (s : Sizes) (leaf : ℕ) (tree : List ℕ) (low : leaf < leaves s) (size : length tree ≡ tree_len s) where
  back_to : (n : ℕ) → n ≤ suc s.height → put_back s leaf (fetched s leaf tree (suc s.height)) tree n ≡ tree
  unfolding put_back
  back_to zero h = refl
  back_to (suc n) h =
      rw (back_to n (omega arith), item-fetched s leaf tree low size n (omega arith))
      (splice-part tree (tree_at s (bucket_at s leaf n)) (item_len s n) (omega (arith, in_tree s leaf n (omega arith) low)))

  pub put-fetch : put_back s leaf (fetched s leaf tree (suc s.height)) tree (suc s.height) ≡ tree
  put-fetch = back_to (suc s.height) (omega arith)

-- ---- two results that a contract allows are one

pub fetch_once : (s : Sizes) (leaf : ℕ) (tree path : List ℕ) (r r' : TreeResult) → r ≡ fetch_of s leaf tree path → r' ≡ fetch_of s leaf tree path → r ≡ r'
fetch_once s leaf tree path r r' p q = p ∙ sym q

pub put_once : (s : Sizes) (leaf : ℕ) (tree path : List ℕ) (r r' : TreeResult) → r ≡ put_of s leaf tree path → r' ≡ put_of s leaf tree path → r ≡ r'
put_once s leaf tree path r r' p q = p ∙ sym q
