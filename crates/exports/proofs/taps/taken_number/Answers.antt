-- `exports::taps::taken_number` meets its contract: by the three cases. Assumes nothing.
use Rattle.std.specs.Prelude.{Err}
use mathlib.Core.Path.{sym, ap, ◌∙◌}
use Rattle.exports.specs.TapCodes.{taken_code}
use Rattle.exports.proofs.Signed.{code-back}
use Rattle.exports.proofs.TapAnswers.{trouble-back}
use Rattle.exports.proofs.taps.taken_number.Goals as goal

pub returns-in-Ok : goal.returns-in-Ok
unfolding taken_code
returns-in-Ok c = sym (ap taken_code c.in-Ok.is)

pub returns-in-Err-Refused : goal.returns-in-Err-Refused
unfolding taken_code
returns-in-Err-Refused c = code-back _ c.refused.ensures ∙ sym (ap taken_code (c.in-Err-Refused.is ∙ ap Err (rw c.in-Err-Refused.is at c.in-Err-Refused.field-0-is)))

pub returns-in-Err-Bad : goal.returns-in-Err-Bad
unfolding taken_code
returns-in-Err-Bad c = trouble-back _ c.trouble_number.ensures ∙ sym (ap taken_code (c.in-Err-Bad.is ∙ ap Err (rw c.in-Err-Bad.is at c.in-Err-Bad.field-0-is)))
