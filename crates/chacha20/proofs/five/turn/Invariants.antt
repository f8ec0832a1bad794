-- `chacha20::five::turn` meets its contract: after i turns the first i words of the row are the turned ones. Assumes nothing.
use Rattle.std.proofs.Common.{◌≡◌, ◌-◌, ◌≤◌}
use Rattle.chacha20.specs.Lanes.{turned}
use Rattle.chacha20.proofs.five.turn.Given as goal

abbrev pub invariant-loop-i : goal.invariant-loop-i
invariant-loop-i l = (l.i ≤ 16) × (l.s ≡ turned l.i l.t l.row l.by l.initial.s)

abbrev pub decreases-loop-i : goal.decreases-loop-i
decreases-loop-i l = 16 - l.i
