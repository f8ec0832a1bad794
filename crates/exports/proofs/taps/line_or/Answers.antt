-- `exports::taps::line_or` meets its contract: by the three cases. Assumes nothing.
use Rattle.std.specs.Prelude.{Err, Result}
use mathlib.Core.Path.{sym, ap, ◌∙◌}
use Rattle.tap.specs.declared.NotRead.{NotRead}
use Rattle.exports.specs.TapCodes.{line_or}
use Rattle.exports.proofs.taps.line_or.Goals as goal

pub returns-in-Ok : goal.returns-in-Ok
unfolding line_or
returns-in-Ok c = sym (ap (λ (t : Result Unit NotRead). line_or t c.args.lent) c.in-Ok.is)

pub returns-in-Err-Refused : goal.returns-in-Err-Refused
unfolding line_or
returns-in-Err-Refused c = sym (ap (λ (t : Result Unit NotRead). line_or t c.args.lent) (c.in-Err-Refused.is ∙ ap Err (rw c.in-Err-Refused.is at c.in-Err-Refused.field-0-is)))

pub returns-in-Err-Bad : goal.returns-in-Err-Bad
unfolding line_or
returns-in-Err-Bad c = sym (ap (λ (t : Result Unit NotRead). line_or t c.args.lent) (c.in-Err-Bad.is ∙ ap Err (rw c.in-Err-Bad.is at c.in-Err-Bad.field-0-is)))
