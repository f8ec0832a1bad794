-- `requests::fetch_finish` meets its contract: a refused fetch ends it, else finish and put go on with the path fetched. Assumes nothing.
use Rattle.requests.proofs.Composed.{fetch-refused, fetch-done}
use Rattle.requests.proofs.fetch_finish.Goals as goal

pub returns-in-Err : goal.returns-in-Err
returns-in-Err c = let a = c.args in fetch-refused _ a.leaf a.desk.now a.tree.now a.path.now a.«record».now c.fetch.ensures c.in-Err.is

pub returns-in-Ok : goal.returns-in-Ok
returns-in-Ok c = let a = c.args in fetch-done _ a.leaf a.desk.now a.tree.now a.path.now a.«record».now c.fetch.ensures c.in-Ok.is c.finish_put.ensures
