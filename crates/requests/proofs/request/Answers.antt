-- `requests::request` meets its contract: a refused ask ends it, else the rest goes on with the desk that ask left. Assumes nothing.
use Rattle.std.proofs.lemmas.Result.{err_from_is_err_and}
use native.Mathlib.Omega.{arith}
use Rattle.requests.proofs.Composed.{ask-refused, ask-done, ask-head}
use Rattle.requests.proofs.request.Goals as goal

pub fetch_finish-requires : goal.fetch_finish-requires
fetch_finish-requires c = let a = c.args in omega (arith, ask-head a.desk.now a.tree.now a.path.now a.«record».now a.kind a.id a.leaf c.ask.ensures c.in_ok-position.was, c.ask.auto.desk)

pub returns-in_err-position : goal.returns-in_err-position
returns-in_err-position c =
    let a = c.args in
    let p = err_from_is_err_and c.from_residual.result c.from_residual.ensures.1 in
    rw (p.1, p.2) (ask-refused a.desk.now a.tree.now a.path.now a.«record».now a.kind a.id a.leaf c.ask.ensures c.in_err-position.was)

pub returns : goal.returns
returns c = let a = c.args in ask-done a.desk.now a.tree.now a.path.now a.«record».now a.kind a.id a.leaf c.ask.ensures c.in_ok-position.was c.fetch_finish.ensures
