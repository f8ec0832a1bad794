-- When blocks are a good stash under the places of a desk: what body (e) must show, said of blocks. Assumes nothing.
use Rattle.std.specs.Prelude.{ℕ, ◌+◌, ◌≤◌, ◌≡◌, List, [], ◌∷◌, length, get_or}
use Rattle.words.specs.Numbers.{number}
use Rattle.slots.specs.Slots.{Block, Rising}
use Rattle.desk.specs.declared.Shape.{Shape}
use Rattle.desk.specs.Layout.{place_at, mark_in}

-- a block's id is at most N, is marked, and carries its position's leaf; d is body (d)
pub record Placed (h : Shape) (d : List ℕ) (b : Block) : Type 0 where
  pub high : b.id ≤ h.n
  pub marked : get_or d (place_at b.id + mark_in) 0 ≡ 1
  pub carries : b.leaf ≡ number 2 d (place_at b.id)

abbrev pub AllPlaced : Shape → List ℕ → List Block → Type 0
AllPlaced h d [] = Unit
AllPlaced h d (b ∷ bs) = Placed h d b × AllPlaced h d bs

pub record Stashed (h : Shape) (d : List ℕ) (bs : List Block) : Type 0 where
  pub room : length bs ≤ h.s
  pub rising : Rising 0 bs
  pub placed : AllPlaced h d bs
