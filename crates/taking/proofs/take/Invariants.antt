-- `taking::take` meets its contract: at each turn, what is left to do comes to what the whole text is. Assumes nothing.
use mathlib.Core.Path.{◌≡◌}
use lib.ListN.{length}
use Rattle.taking.specs.Taking.{take_into}
use Rattle.taking.proofs.Turns.{SoFar}
use Rattle.taking.proofs.take.Given as goal

abbrev pub invariant-loop-rest : goal.invariant-loop-rest
invariant-loop-rest l = SoFar l.chapter l.year l.n l.text (take_into l.chapter l.year l.n l.initial.sheet l.text) l.rest l.before l.planned l.sheet × (length l.sheet ≡ length l.initial.sheet)

abbrev pub decreases-loop-rest : goal.decreases-loop-rest
decreases-loop-rest l = length l.rest
