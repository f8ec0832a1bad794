-- `lines::descriptions::test_from` meets its contract: each call finds what the definition says, from its place on. Assumes nothing.
use Rattle.lines.proofs.Tails.{past-min, test-is}
use Rattle.lines.proofs.descriptions.test_from.Goals as goal

pub returns : goal.returns
returns c =
    let a = c.args in
    test-is a.ok a.number a.at a.line.now _ _ _ _ _ (past-min a.at _ _ c.min-past.ensures c.requires) c.front_len.ensures c.first_directive-cut.ensures c.verdict_by.ensures c.trimmed.ensures
