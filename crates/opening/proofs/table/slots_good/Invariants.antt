-- `opening::table::slots_good` meets its contract: the slots of the first k items were walked, the stash first. Assumes nothing.
use Prim.Native.Nat.{suc}
use mathlib.Core.Path.{◌≡◌}
use lib.ListN.{length}
use Rattle.sizes.specs.Sizes.{most_ids}
use Rattle.opening.proofs.Levels.{WalksTo}
use Rattle.opening.proofs.table.slots_good.Given as goal

abbrev pub invariant-loop-k : goal.invariant-loop-k
invariant-loop-k l = (length l.seen ≡ suc most_ids) × WalksTo l.desk l.w l.n l.seen l.k
