-- `items::reach` meets its contract: all items down to level k are reachable, until a flag leads no further. Assumes nothing.
use mathlib.Core.Bool.{true}
use mathlib.Core.Path.{◌≡◌}
use Rattle.items.specs.Way.{reachable}
use Rattle.items.proofs.reach.Given as goal

abbrev pub invariant-loop-k : goal.invariant-loop-k
invariant-loop-k l = reachable l.v l.path l.k ≡ true
