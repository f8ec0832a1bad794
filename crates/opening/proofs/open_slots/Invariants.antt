-- `opening::open_slots` meets its contract: the slots of the first k items are opened, the items from k on are as they were lent. Assumes nothing.
use mathlib.Core.Path.{◌≡◌}
use lib.ListN.{length}
use Rattle.sizes.specs.Sizes.{most_path}
use Rattle.opening.proofs.Copy.{Copied}
use Rattle.opening.proofs.open_slots.Given as goal

abbrev pub invariant-loop-k : goal.invariant-loop-k
invariant-loop-k l = (length l.w ≡ most_path) × Copied l.v l.path l.w l.k
