-- `lines::plan_after` meets its contract: each test decides its case. Assumes nothing.
use native.Mathlib.Omega.{arith}
use Rattle.lines.proofs.Arms.{plan-none, plan-tail, plan-good}
use Rattle.lines.proofs.plan_after.Goals as goal

pub returns-then-n-eq0 : goal.returns-then-n-eq0
returns-then-n-eq0 c = plan-none c.args.rest.now _ c.count-number.ensures.0 c.if-n-eq0.true

pub returns-then-not-only_spaces : goal.returns-then-not-only_spaces
returns-then-not-only_spaces c =
    plan-tail c.args.rest.now _ _ c.count-number.ensures c.only_spaces.ensures (c.if-not-only_spaces.true)

pub returns : goal.returns
returns c =
    plan-good c.args.rest.now _ _ c.count-number.ensures c.only_spaces.ensures (omega arith) (c.if-not-only_spaces.false)
