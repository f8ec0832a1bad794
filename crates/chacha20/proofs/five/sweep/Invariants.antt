-- `chacha20::five::sweep` meets its contract: after i turns it is i quarter rounds. Assumes nothing.
use Rattle.std.proofs.Common.{◌≡◌, ◌-◌, ◌≤◌}
use Rattle.chacha20.specs.Lanes.{swept}
use Rattle.chacha20.proofs.five.sweep.Given as goal

abbrev pub invariant-loop-i : goal.invariant-loop-i
invariant-loop-i l = (l.i ≤ 16) × (l.s ≡ swept l.i l.initial.s)

abbrev pub decreases-loop-i : goal.decreases-loop-i
decreases-loop-i l = 16 - l.i
