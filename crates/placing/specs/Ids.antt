-- Ids of blocks: which blocks can be placed, and lists by rising id. Assumes nothing.
use Rattle.std.specs.Prelude.{ℕ, ◌≤◌, Bool, List, [], ◌∷◌, eqb}
use Rattle.bags.specs.Bags.{cnt, AllOf}
use Rattle.slots.specs.Slots.{Block, Rising}

abbrev pub is_id : ℕ → Block → Bool
is_id id b = eqb b.id id

-- blocks that can be placed: ids 1 to N, each once
pub record Placeable (ids : ℕ) (bs : List Block) : Type 0 where
  pub low : AllOf (λ b. 1 ≤ b.id) bs
  pub high : AllOf (λ b. b.id ≤ ids) bs
  pub once : (id : ℕ) → cnt (is_id id) bs ≤ 1

-- several lists, each by rising id above k
abbrev pub AllRising : ℕ → List (List Block) → Type 0
AllRising k [] = Unit {0}
AllRising k (bs ∷ more) = Rising k bs × AllRising k more
