-- `requests::finish_put` meets its contract: the tree is put where the finish was accepted, and stays where it was refused. Assumes nothing.
use Rattle.std.proofs.Common.{arith}
use Rattle.requests.proofs.Composed.{returned-put, returned-kept}
use Rattle.requests.proofs.finish_put.Goals as goal

pub returns-then-is_ok : goal.returns-then-is_ok
returns-then-is_ok c = let a = c.args in returned-put _ a.leaf a.tree.now c.finish-finished.ensures (grind (arith, c.is_ok.ensures.negation, c.if-is_ok.true)) c.put.ensures

pub returns-else-is_ok : goal.returns-else-is_ok
returns-else-is_ok c = let a = c.args in returned-kept _ a.leaf a.tree.now c.finish-finished.ensures (grind (arith, c.is_ok.ensures.negation, c.if-is_ok.false))
