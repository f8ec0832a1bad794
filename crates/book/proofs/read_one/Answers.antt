-- `book::read_one` meets its contract: a refused request is the read's refusal, and a finished one has a column. Assumes nothing.
use Rattle.std.proofs.lemmas.Result.{err_from_is_err_and}
use Rattle.book.proofs.OneRead.{read-refused, read-finished}
use Rattle.book.proofs.read_one.Goals as goal

pub returns-in_err-finished : goal.returns-in_err-finished
returns-in_err-finished c =
    let a = c.args in
    let p = err_from_is_err_and c.from_residual.result c.from_residual.ensures.1 in
    rw (p.1, p.2) (read-refused a.chapter a.desk.now a.tree.now a.path.now a.«record».now a.id a.draw c.request.ensures c.in_err-finished.was)

pub returns : goal.returns
returns c =
    let a = c.args in
    read-finished a.chapter a.desk.now a.tree.now a.path.now a.«record».now a.id a.draw c.request.ensures c.in_ok-finished.was c.found_by.ensures
