-- Finish, steps 4 and 6, on the desk: what is asked of the new stash; `settled` of desk/specs/Changes is what is written. Assumes nothing.
use Rattle.std.specs.Prelude.{ℕ, ◌≡◌, List, length}
use Rattle.sizes.specs.Sizes.{record_len}
use Rattle.slots.specs.Slots.{Block, AllFit}

-- as many blocks as said, each of which a slot holds
pub record Held (over : ℕ) (stash : List Block) : Type 0 where
  pub count : length stash ≡ over
  pub fit : AllFit record_len stash
