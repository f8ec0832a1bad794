-- `passing::pass` meets its contract: at each turn, what is left to do comes to what the whole pass is. Assumes nothing.
use Prim.Native.Nat.{◌-◌}
use mathlib.Core.Path.{◌≡◌}
use lib.ListN.{length}
use Rattle.passing.specs.Passing.{pass_from}
use Rattle.passing.proofs.PassTurns.{SoFar}
use Rattle.passing.proofs.pass.Given as goal

abbrev pub invariant-loop-id : goal.invariant-loop-id
invariant-loop-id l = SoFar l.first l.end l.draws (pass_from l.first 0 l.draws l.initial.desk l.initial.tree l.initial.path l.initial.sheet) l.id l.desk l.tree l.path l.sheet
    × (length l.desk ≡ length l.initial.desk) × (length l.tree ≡ length l.initial.tree) × (length l.path ≡ length l.initial.path) × (length l.sheet ≡ length l.initial.sheet)

abbrev pub decreases-loop-id : goal.decreases-loop-id
decreases-loop-id l = l.end - l.id
