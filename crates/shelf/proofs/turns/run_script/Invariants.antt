-- `shelf::turns::run_script` is safe and ends: what holds between two turns holds after each. Assumes nothing.
use Rattle.shelf.proofs.Between.{Between}
use Rattle.shelf.proofs.turns.run_script.Given as goal

abbrev pub invariant-loop-turn : goal.invariant-loop-turn
invariant-loop-turn g l =
    Between l.initial.window l.initial.desk l.initial.tree l.initial.path l.initial.record l.initial.leaves l.initial.out l.window l.desk l.tree l.path l.record l.leaves l.out l.at l._turn
