-- `passing::request_entry` meets its contract: a refused request is refused, and a finished one has its outcome. Assumes nothing.
use mathlib.Core.Path.{sym, ap}
use Rattle.std.proofs.lemmas.Result.{err_from_is_err_and}
use Rattle.passing.specs.Passing.{finished_outcome}
use Rattle.passing.proofs.OneEntry.{entry-refused, entry-finished}
use Rattle.passing.proofs.request_entry.Goals as goal

pub returns-in_err-finished : goal.returns-in_err-finished
returns-in_err-finished c =
    let a = c.args in
    let p = err_from_is_err_and c.from_residual.result c.from_residual.ensures.1 in
    rw (p.1, p.2) (entry-refused a.desk.now a.tree.now a.path.now a.entry.now a.id a.draw c.kind_of-kind.ensures c.request.ensures c.in_err-finished.was)

pub returns-in_err-finished-2 : goal.returns-in_err-finished-2
returns-in_err-finished-2 c =
    let a = c.args in
    let s = c.from_residual-in_err-finished-2 in
    let p = err_from_is_err_and s.result s.ensures.1 in
    rw (p.1, p.2) (entry-finished a.desk.now a.tree.now a.path.now a.entry.now a.id a.draw c.kind_of-kind.ensures c.request.ensures c.in_ok-finished.was (sym (ap finished_outcome c.in_err-finished-2.was)))

pub returns : goal.returns
returns c =
    let a = c.args in
    entry-finished a.desk.now a.tree.now a.path.now a.entry.now a.id a.draw c.kind_of-kind.ensures c.request.ensures c.in_ok-finished.was (sym (ap finished_outcome c.in_ok-finished-2.was))
