-- `desk::positions::places_good` meets its contract: the first i places are good; forty-eight more that are low, or one more, keeps that; the first other one decides. Assumes nothing.
use Prim.Native.Nat.{◌≤◌, ◌-◌}
use mathlib.Core.Path.{◌≡◌}
use mathlib.Core.Bool.{true}
use Rattle.words.specs.Tests.{all}
use Rattle.desk.specs.Good.{place_good}
use Rattle.desk.proofs.positions.places_good.Given as goal

abbrev pub invariant-loop-i : goal.invariant-loop-i
invariant-loop-i l = (l.i ≤ l.n) × (all l.i (place_good l.most l.d) ≡ true)

abbrev pub decreases-loop-i : goal.decreases-loop-i
decreases-loop-i l = l.n - l.i
