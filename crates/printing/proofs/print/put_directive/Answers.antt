-- `printing::print::put_directive` meets its contract: a pass and a fail get nothing. Assumes nothing.
use mathlib.Core.Logic.{⊎_elim}
use native.Mathlib.Omega.{arith}
use Rattle.printing.proofs.Entries.{adds_none}
use Rattle.printing.proofs.print.put_directive.Goals as goal

pub returns-in-Pass : goal.returns-in-Pass
returns-in-Pass c = ⊎_elim (λ e. rw e (adds_none _, omega arith)) (λ e. rw e (adds_none _, omega arith)) c.in-Pass.is
