-- `exports::books::row_number` meets its contract: by the three cases. Assumes nothing.
use mathlib.Core.Path.{sym, ap, ◌∙◌}
use mathlib.Core.Bool.{Bool, cond}
use lib.IntN.{pos}
use Rattle.exports.specs.BookCodes.{complete_code, incomplete_code, row_code}
use Rattle.exports.proofs.Signed.{code-back}
use Rattle.exports.proofs.books.row_number.Goals as goal

pub returns-then-row : goal.returns-then-row
unfolding row_code
returns-then-row c = sym (ap row_code c.in-Ok.is ∙ ap (λ (b : Bool). pos (cond b complete_code incomplete_code)) c.if-row.true)

pub returns-else-row : goal.returns-else-row
unfolding row_code
returns-else-row c = sym (ap row_code c.in-Ok.is ∙ ap (λ (b : Bool). pos (cond b complete_code incomplete_code)) c.if-row.false)

pub returns-in-Err : goal.returns-in-Err
unfolding row_code
returns-in-Err c = code-back _ c.refused.ensures ∙ sym (ap row_code c.in-Err.is)
