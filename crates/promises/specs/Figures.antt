-- The paper's worked figures that are marked P: one table of the definitions, one statement. Assumes nothing.
use Rattle.std.specs.Prelude.{ℕ, ◌≡◌, List, [], ◌∷◌, Err}
use Rattle.sizes.specs.declared.Refusal.TheVariants.{Full}
use Rattle.sizes.specs.Sizes.{sized}
use Rattle.sizes.specs.Figures.{SizeFigures}
use Rattle.slots.specs.Slots.{Block}
use Rattle.desk.specs.Layout.{room_of}
use Rattle.desk.specs.Readers.{sizes_of, leaf_asked}
use Rattle.items.specs.Items.{Means}
use Rattle.opening.specs.Opening.{Genuine}
use Rattle.placing.specs.Figures.{PlacingFigures}
use Rattle.draws.specs.Figures.{DrawFigures}
use Rattle.store.specs.Steps.{to_place}
use Rattle.promises.specs.Stores.{Store, Accepted}
use Rattle.promises.specs.DemandTwo.{Ready, WornOut}

-- the four blocks (1,2) (2,3) (3,0) (4,2), whatever their records
abbrev block : ℕ → ℕ → List ℕ → Block
block id leaf bytes = record { id = id; leaf = leaf; bytes = bytes }

abbrev pub four : List ℕ → List ℕ → List ℕ → List ℕ → List Block
four r₁ r₂ r₃ r₄ = block 1 2 r₁ ∷ block 2 3 r₂ ∷ block 3 0 r₃ ∷ block 4 2 r₄ ∷ []

-- a finish at L = 2, Z = 1 on the path to leaf 2 that has these to place, and is neither Forged nor Worn
pub record PlacesFour (m : Means) (desk path buffer : List ℕ) : Type 0 where
  pub ready : Ready desk path buffer
  pub genuine : Genuine m desk path
  pub not_worn : WornOut m desk path → ⊥
  pub sizes : sizes_of desk ≡ sized 2 1
  pub leaf : leaf_asked desk ≡ 2
  pub r₁ : List ℕ
  pub r₂ : List ℕ
  pub r₃ : List ℕ
  pub r₄ : List ℕ
  pub blocks : to_place m desk path ≡ four r₁ r₂ r₃ r₄

pub record Figures (m : Means) (store : Store) : Type 0 where
  -- buckets of a path, lengths of items, paths, desk and tree
  pub sizes : SizeFigures
  -- the four blocks placed; one remains
  pub placing : PlacingFigures
  -- S = 1 accepts, S = 0 gives Full
  pub one_accepts : (desk path buffer : List ℕ) → PlacesFour m desk path buffer → room_of desk ≡ 1 → Accepted (store.finish desk path buffer).answer
  pub none_full : (desk path buffer : List ℕ) → PlacesFour m desk path buffer → room_of desk ≡ 0 → (store.finish desk path buffer).answer ≡ Err Full
  -- the leaves asked for, and the rearrangement
  pub draws : DrawFigures
