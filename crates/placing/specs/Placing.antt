-- Finish, step 5: placing. From leaf level up to the root, each bucket takes the remaining blocks whose leaf lies below it, lowest ids first, up to Z.
-- The rest is the new stash, by rising id. Assumes nothing.
use Rattle.std.specs.Prelude.{ℕ, zero, suc, Bool, cond, List, [], ◌∷◌, eqb, leb}
use Rattle.sizes.specs.declared.Sizes.{Sizes}
use Rattle.sizes.specs.Sizes.{bucket_at}
use Rattle.slots.specs.Slots.{Block}
use Rattle.placing.specs.Filling.{buckets, rest}

-- the bucket at level k of the path to a leaf lies on the way to the block's leaf
abbrev pub on_way : Sizes → ℕ → ℕ → Block → Bool
on_way s leaf k b = eqb (bucket_at s b.leaf k) (bucket_at s leaf k)

-- the tests of the levels k, k - 1, .., 0
abbrev pub levels : Sizes → ℕ → ℕ → List (Block → Bool)
levels s leaf zero = on_way s leaf 0 ∷ []
levels s leaf (suc k) = on_way s leaf (suc k) ∷ levels s leaf k

-- blocks by rising id
abbrev pub insert : Block → List Block → List Block
insert b [] = b ∷ []
insert b (c ∷ cs) = cond (leb b.id c.id) (b ∷ c ∷ cs) (c ∷ insert b cs)

unfoldable pub sorted : List Block → List Block
sorted [] = []
sorted (b ∷ bs) = insert b (sorted bs)

-- the buckets, from the leaf's up to the root's, of blocks by rising id; and what remains
unfoldable pub placed_in : Sizes → ℕ → List Block → List (List Block)
placed_in s leaf blocks = buckets s.slots (levels s leaf s.height) blocks

unfoldable pub remaining : Sizes → ℕ → List Block → List Block
remaining s leaf blocks = rest s.slots (levels s leaf s.height) blocks
