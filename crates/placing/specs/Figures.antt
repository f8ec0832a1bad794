-- The paper's worked figure of placing: height 2, one slot, the path to leaf 2; blocks by id and leaf. One statement. Assumes nothing.
use Rattle.std.specs.Prelude.{ℕ, ◌≡◌, refl, Bool, true, false, List, [], ◌∷◌, map, length, ltb}
use Rattle.sizes.specs.declared.Sizes.{Sizes}
use Rattle.sizes.specs.Sizes.{sized, bucket_at}
use Rattle.slots.specs.Slots.{Block}
use Rattle.placing.specs.Filling.{taken, left, buckets, rest}
use Rattle.placing.specs.Placing.{placed_in, remaining}

abbrev small : Sizes
small = sized 2 1

abbrev block : ℕ → ℕ → Block
block id leaf = record { id = id; leaf = leaf; bytes = [] }

abbrev four : List Block
four = block 1 2 ∷ block 2 3 ∷ block 3 0 ∷ block 4 2 ∷ []

-- more than `room` blocks remain: Full
abbrev is_full : ℕ → Bool
is_full room = ltb room (length (remaining small 2 four))

pub record PlacingFigures : Type 0 where
  pub way : map (bucket_at small 2) (2 ∷ 1 ∷ 0 ∷ []) ≡ 5 ∷ 2 ∷ 0 ∷ []
  pub placed : placed_in small 2 four ≡ (block 1 2 ∷ []) ∷ (block 2 3 ∷ []) ∷ (block 3 0 ∷ []) ∷ []
  pub remains : remaining small 2 four ≡ block 4 2 ∷ []
  pub one_accepts : is_full 1 ≡ false
  pub none_full : is_full 0 ≡ true

pub placing_figures : PlacingFigures
unfolding placed_in remaining buckets rest taken left
placing_figures = record { way = refl; placed = refl; remains = refl; one_accepts = refl; none_full = refl }
