-- `runs::run::at_end` meets its contract: where nothing is missing, nothing is said. Assumes nothing.
use mathlib.Core.Logic.{⊎_elim}
use native.Mathlib.Omega.{arith}
use Rattle.runs.proofs.Steps.{silent}
use Rattle.runs.proofs.run.at_end.Goals as goal

pub returns-in-Ready : goal.returns-in-Ready
returns-in-Ready c = ⊎_elim (λ e. rw e.2 (silent c.args.out.now, omega arith)) (λ e. rw e (silent c.args.out.now, omega arith)) c.in-Ready.is
