-- `exports::finished` meets its contract: by the four cases. Assumes nothing.
use mathlib.Core.Path.{sym, ap, ◌∙◌}
use native.Mathlib.Omega.{arith}
use Rattle.exports.specs.Codes.{finished_code}
use Rattle.exports.proofs.Signed.{code-back, refusal-fits, plus-fits}
use Rattle.exports.proofs.finished.Goals as goal

pub returns-in-Ok-Record : goal.returns-in-Ok-Record
unfolding finished_code
returns-in-Ok-Record c = (rw (c.in-Ok-Record.is, (rw c.in-Ok-Record.is at c.in-Ok-Record.field-0-is)), plus-fits 1 (omega arith))

pub returns-in-Ok-Never : goal.returns-in-Ok-Never
unfolding finished_code
returns-in-Ok-Never c = (rw (c.in-Ok-Never.is, (rw c.in-Ok-Never.is at c.in-Ok-Never.field-0-is)), plus-fits 2 (omega arith))

pub returns-in-Ok-Done : goal.returns-in-Ok-Done
unfolding finished_code
returns-in-Ok-Done c = (rw (c.in-Ok-Done.is, (rw c.in-Ok-Done.is at c.in-Ok-Done.field-0-is)), plus-fits 3 (omega arith))

pub returns-in-Err : goal.returns-in-Err
unfolding finished_code
returns-in-Err c =
    let e = code-back _ c.refused.ensures in
    (e ∙ sym (ap finished_code c.in-Err.is), rw e (refusal-fits _))
