-- One turn of each copying loop, and the end of the one that fetches. Assumes nothing.
use mathlib.Core.Path.{◌≡◌, sym, ap, ◌∙◌}
use mathlib.Core.List.{List}
use Prim.Native.Nat.{ℕ, suc, ◌+◌, ◌-◌, ◌≤◌}
use native.Mathlib.Numerals.{add-one}
use native.Mathlib.Omega.{arith}
use lib.ListN.{length}
use Rattle.words.specs.Bytes.{part, splice}
use Rattle.words.proofs.Splice.{splice-next, splice-whole}
use Rattle.sizes.specs.declared.Sizes.{Sizes}
use Rattle.sizes.specs.Sizes.{item_len, item_at, bucket_at, tree_at}
use Rattle.sizes.proofs.Lengths.{item_fits}
use Rattle.tree.specs.Tree.{Fits, item_in, fetched, put_back}
use Rattle.tree.proofs.Laws.{length-fetched, length_whole}

module _ (s : Sizes) (leaf : ℕ) (tree path₀ : List ℕ) (fits : Fits s leaf tree path₀) where
  pub fetch-turn : (path after : List ℕ) (k at from len : ℕ) → k ≤ s.height → at ≡ item_at s k → from ≡ tree_at s (bucket_at s leaf k) → len ≡ item_len s k
      → path ≡ splice path₀ 0 (fetched s leaf tree k) → after ≡ splice path at (part tree from (from + len - from)) → after ≡ splice path₀ 0 (fetched s leaf tree (k + 1))
  unfolding fetched
  fetch-turn path after k at from len h a f l p q =
      let n : from + len - from ≡ len = omega arith in
      let e : length (fetched s leaf tree k) ≡ item_at s k = length-fetched s leaf tree fits.leaf_low fits.tree_length k h in
      let z : item_at s k ≡ 0 + item_at s k = omega arith in
      q ∙ rw (n, a, f, l, p, add-one)
      (ap (λ (m : ℕ). splice (splice path₀ 0 (fetched s leaf tree k)) m (item_in s leaf tree k)) z
      ∙ splice-next path₀ 0 (fetched s leaf tree k) (item_in s leaf tree k) (item_at s k) e (omega (arith, item_fits s k h, fits.path_length)))

  pub fetch-end : (path : List ℕ) (k : ℕ) → k ≡ suc s.height → path ≡ splice path₀ 0 (fetched s leaf tree k) → path ≡ fetched s leaf tree (suc s.height)
  fetch-end path k e p =
      p ∙ rw e
      (splice-whole path₀ (fetched s leaf tree (suc s.height)) (length_whole s leaf tree fits.leaf_low fits.tree_length ∙ sym fits.path_length))

-- put's loop needs nothing to fit
pub put-turn : (s : Sizes) (leaf : ℕ) (path tree₀ tree after : List ℕ) (k at from len : ℕ) → at ≡ tree_at s (bucket_at s leaf k) → from ≡ item_at s k → len ≡ item_len s k
    → tree ≡ put_back s leaf path tree₀ k → after ≡ splice tree at (part path from (from + len - from)) → after ≡ put_back s leaf path tree₀ (k + 1)
unfolding put_back
put-turn s leaf path tree₀ tree after k at from len a f l p q =
    let n : from + len - from ≡ len = omega arith in
    q ∙ rw (n, a, f, l, p, add-one)
