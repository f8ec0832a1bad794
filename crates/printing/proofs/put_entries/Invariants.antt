-- `printing::put_entries` meets its contract: at each turn, the lines of the first i entries are written. Assumes nothing.
use Rattle.printing.proofs.Entries.{SoFar}
use Rattle.printing.proofs.put_entries.Given as goal

abbrev pub invariant-loop-i : goal.invariant-loop-i
invariant-loop-i l = SoFar l.chapter l.n l.sheet l.initial.w l.i l.w
