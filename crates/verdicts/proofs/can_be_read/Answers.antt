-- `verdicts::can_be_read` meets its contract: the three tests of the definition. Assumes nothing.
use Rattle.verdicts.specs.Verdict.{can_be_read}
use Rattle.verdicts.proofs.can_be_read.Goals as goal

pub returns : goal.returns
unfolding can_be_read
returns c = rw c.before-2.ensures.0
