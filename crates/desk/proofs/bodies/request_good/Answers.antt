-- `desk::bodies::request_good` meets its contract: status 0 has one rule, the others have another. Assumes nothing.
use mathlib.Core.Path.{sym, ◌∙◌}
use borrow.Author.Tests.{eq-eqb, ne_eqb}
use Rattle.desk.specs.Good.{request_good}
use Rattle.desk.proofs.bodies.request_good.Goals as goal

pub returns-then-status-from : goal.returns-then-status-from
unfolding request_good
returns-then-status-from c = rw (eq-eqb _ _ (c.if-status-from.true ∙ c.from.ensures)) c.is_zero.ensures

pub returns : goal.returns
unfolding request_good
returns c = rw (ne_eqb _ _ (λ e. c.if-status-from.false (e ∙ sym c.from.ensures))) c.open_good.ensures
