-- `exports::books::counts_or` meets its contract: by the two cases. Assumes nothing.
use Rattle.std.specs.Prelude.{Result}
use Rattle.sizes.specs.declared.Refusal.{Refusal}
use mathlib.Core.Path.{sym, ap}
use Rattle.verdicts.specs.declared.counts.Row.{Row}
use Rattle.exports.specs.BookCodes.{counts_or}
use Rattle.exports.proofs.books.counts_or.Goals as goal

pub returns-in-Err : goal.returns-in-Err
unfolding counts_or
returns-in-Err c = sym (ap (λ (r : Result Row Refusal). counts_or r c.args.lent) c.in-Err.is)

pub returns-in-Ok : goal.returns-in-Ok
unfolding counts_or
returns-in-Ok c = sym (ap (λ (r : Result Row Refusal). counts_or r c.args.lent) c.in-Ok.is)
