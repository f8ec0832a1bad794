-- The tree's side. Fetch copies the items of a leaf's path from tree to path, root first; put copies them back; all else stays. Assumes nothing.
use Rattle.std.specs.Prelude.{ℕ, zero, suc, ◌<◌, ◌≡◌, Bool, not, ◌&&◌, List, [], ◌∷◌, ◌++◌, length, leb, eqb, Result}
use Rattle.words.specs.Bytes.{part, splice}
use Rattle.sizes.specs.declared.Sizes.{Sizes}
use Rattle.sizes.specs.declared.Refusal.{Refusal}
use Rattle.sizes.specs.declared.Refusal.TheVariants.{BadLeaf, BadLength, BadSize}
use Rattle.sizes.specs.Sizes.{sizes_good, InRange, leaves, item_len, item_of, path_len, bucket_at, tree_at, tree_len}
use Rattle.sizes.specs.Refusals.{first_of, kept_or}

-- the refusals of fetch and put, in order
abbrev pub tree_rows : Sizes → ℕ → List ℕ → List ℕ → List (Bool × Refusal)
tree_rows s leaf tree path =
    (not (sizes_good s), BadSize)
    ∷ (leb (leaves s) leaf, BadLeaf)
    ∷ (not (eqb (length tree) (tree_len s) && eqb (length path) (path_len s)), BadLength)
    ∷ []

unfoldable pub tree_checked : Sizes → ℕ → List ℕ → List ℕ → Result Unit Refusal
tree_checked s leaf tree path = first_of (tree_rows s leaf tree path)

-- what is known where none applies
pub record Fits (s : Sizes) (leaf : ℕ) (tree path : List ℕ) : Type 0 where
  pub range : InRange s
  pub leaf_low : leaf < leaves s
  pub tree_length : length tree ≡ tree_len s
  pub path_length : length path ≡ path_len s

-- the item of level k of the path to a leaf, in the tree
abbrev pub item_in : Sizes → ℕ → List ℕ → ℕ → List ℕ
item_in s leaf tree k = part tree (tree_at s (bucket_at s leaf k)) (item_len s k)

-- the first n items of the path, root first; and the tree with the first n put back
unfoldable pub fetched : Sizes → ℕ → List ℕ → ℕ → List ℕ
fetched s leaf tree zero = []
fetched s leaf tree (suc k) = fetched s leaf tree k ++ item_in s leaf tree k

unfoldable pub put_back : Sizes → ℕ → List ℕ → List ℕ → ℕ → List ℕ
put_back s leaf path tree zero = tree
put_back s leaf path tree (suc k) = splice (put_back s leaf path tree k) (tree_at s (bucket_at s leaf k)) (item_of s path k)

-- what fetch and put answer, and what both buffers then hold, on every input
pub record TreeResult : Type 0 where
  pub answer : Result Unit Refusal
  pub tree : List ℕ
  pub path : List ℕ

abbrev pub tree_result : Result Unit Refusal → List ℕ → List ℕ → TreeResult
tree_result a t p = record { answer = a; tree = t; path = p }

abbrev pub fetch_of : Sizes → ℕ → List ℕ → List ℕ → TreeResult
fetch_of s leaf tree path =
    record {
      answer = tree_checked s leaf tree path;
      tree = tree;
      path = kept_or (tree_checked s leaf tree path) path (fetched s leaf tree (suc s.height));
    }

abbrev pub put_of : Sizes → ℕ → List ℕ → List ℕ → TreeResult
put_of s leaf tree path =
    record {
      answer = tree_checked s leaf tree path;
      tree = kept_or (tree_checked s leaf tree path) tree (put_back s leaf path tree (suc s.height));
      path = path;
    }
