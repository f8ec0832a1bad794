-- What a caller learns with a place: that it is the place, and that what stands there lies inside. Assumes nothing.
use Rattle.std.specs.Prelude.{ℕ, ◌+◌, ◌≤◌, ◌≡◌}
use Rattle.sizes.specs.declared.Sizes.{Sizes}
use Rattle.sizes.specs.Sizes.{leaf_len, inner_len, item_len, item_at, path_len, most_path, bucket_at, tree_at, tree_len}

-- where item k of a path starts; it has at least the length of a leaf's item
pub record ItemAt (s : Sizes) (k r : ℕ) : Type 0 where
  pub is : r ≡ item_at s k
  pub item_fits : r + item_len s k ≤ path_len s
  pub leaf_fits : r + leaf_len s ≤ path_len s
  pub most : path_len s ≤ most_path

-- the same of an inner item
pub record InnerAt (s : Sizes) (k r : ℕ) : Type 0 where
  pub is : r ≡ item_at s k
  pub inner_fits : r + inner_len s ≤ path_len s
  pub most : path_len s ≤ most_path

-- where the item of level k of the path to a leaf stands in the tree
pub record InTree (s : Sizes) (leaf k r : ℕ) : Type 0 where
  pub is : r ≡ tree_at s (bucket_at s leaf k)
  pub fits : r + item_len s k ≤ tree_len s
