-- `store::lay` meets its contract: after k turns the items of the first k levels hold their buckets. Assumes nothing.
use Rattle.placing.specs.Plans.{blocks_in}
use Rattle.store.specs.Laying.{Laid}
use Rattle.store.proofs.lay.Given as goal

abbrev pub invariant-loop-k : goal.invariant-loop-k
invariant-loop-k l = Laid l.s l.plan.at.now (blocks_in l.plan) l.w l.k
