-- `desk::positions::highest` meets its contract: zeros are good places, and each put keeps them good. Assumes nothing.
use mathlib.Core.Path.{◌≡◌}
use mathlib.Core.Bool.{true}
use lib.ListN.{length}
use Rattle.desk.specs.Good.{places_good}
use Rattle.desk.specs.Together.{together, together_len}
use Rattle.desk.proofs.positions.highest.Given as goal

abbrev pub invariant-loop-i : goal.invariant-loop-i
invariant-loop-i l = (length l.top ≡ together_len) × (places_good l.fn.most together l.top ≡ true)
