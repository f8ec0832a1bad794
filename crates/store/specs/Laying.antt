-- The slots that are laid into the working copy, level by level. Assumes nothing.
use Rattle.std.specs.Prelude.{ℕ, ◌+◌, ◌-◌, ◌≤◌, ◌<◌, ◌≡◌, List, [], length, get_or}
use Rattle.sizes.specs.declared.Sizes.{Sizes}
use Rattle.sizes.specs.Sizes.{item_of}
use Rattle.slots.specs.Slots.{Block, slots_with}
use Rattle.items.specs.declared.View.{View}
use Rattle.items.specs.Items.{slots_of}
use Rattle.items.specs.Real.{real}
use Rattle.writing.specs.Writing.{path_written, root_written}
use Rattle.settling.specs.Settling.{Held}
use Rattle.desk.specs.Changes.{settled}
use Rattle.placing.specs.Walk.{pick}

-- the items of the first n levels hold the blocks of their heights
abbrev pub Laid : Sizes → List ℕ → List Block → List ℕ → ℕ → Type 0
Laid s at blocks w n = (k : ℕ) → k < n → slots_of s (item_of s w k) ≡ slots_with s.slots (pick (s.height - k) at blocks)

-- a plan that can be written: each bucket's blocks fit it, and those that remain fit the stash
pub record Writable (s : Sizes) (room over : ℕ) (at : List ℕ) (blocks : List Block) : Type 0 where
  pub buckets : (h : ℕ) → h ≤ s.height → length (pick h at blocks) ≤ s.slots
  pub room_enough : over ≤ room
  pub held : Held over (pick (s.height + 1) at blocks)

-- the blocks placed, by height
abbrev pub Placed : Sizes → List ℕ → List Block → List (List Block) → Type 0
Placed s at blocks placed = (h : ℕ) → h ≤ s.height → pick h at blocks ≡ get_or placed h []

-- path and desk as an accepted request leaves them, whatever list names the buckets
pub record Accepted (v : View) (path desk path' desk' : List ℕ) (id leaf mark : ℕ) (at : List ℕ) (blocks : List Block) : Type 0 where
  pub path_is : (placed : List (List Block)) → Placed v.sizes at blocks placed → path' ≡ path_written real v path placed
  pub desk_is : (placed : List (List Block)) → Placed v.sizes at blocks placed
      → desk' ≡ settled id leaf mark (pick (v.sizes.height + 1) at blocks) (root_written real v path placed) desk
