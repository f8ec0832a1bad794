-- `book::read_all` meets its contract: at each turn, what is left to do comes to what the whole row is. Assumes nothing.
use Prim.Native.Nat.{◌-◌}
use mathlib.Core.Path.{◌≡◌}
use lib.ListN.{length}
use Rattle.verdicts.specs.Cells.{no_counts}
use Rattle.book.specs.MatrixRow.{row_from}
use Rattle.book.proofs.Turns.{SoFar}
use Rattle.book.proofs.read_all.Given as goal

abbrev pub invariant-loop-id : goal.invariant-loop-id
invariant-loop-id l = SoFar l.chapter l.first l.end l.draws (row_from l.chapter (l.end - l.first) l.first l.draws no_counts l.initial.desk l.initial.tree l.initial.path l.initial.record) l.id l.counts l.desk l.tree l.path l.record
    × (length l.desk ≡ length l.initial.desk) × (length l.tree ≡ length l.initial.tree) × (length l.path ≡ length l.initial.path) × (length l.record ≡ length l.initial.record)

abbrev pub decreases-loop-id : goal.decreases-loop-id
decreases-loop-id l = l.end - l.id
