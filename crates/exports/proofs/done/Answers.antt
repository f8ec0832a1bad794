-- `exports::done` meets its contract: by the two cases. Assumes nothing.
use mathlib.Core.Path.{sym, ap, ◌∙◌}
use Rattle.exports.specs.Codes.{outcome_code}
use Rattle.exports.proofs.Signed.{code-back}
use Rattle.exports.proofs.done.Goals as goal

pub returns-in-Ok : goal.returns-in-Ok
unfolding outcome_code
returns-in-Ok c = sym (ap outcome_code c.in-Ok.is)

pub returns-in-Err : goal.returns-in-Err
unfolding outcome_code
returns-in-Err c = code-back _ c.refused.ensures ∙ sym (ap outcome_code c.in-Err.is)
