-- `settling::set_root` meets its contract: the digest laid in, and the byte set. Assumes nothing.
use Rattle.desk.specs.Changes.{with_root}
use Rattle.settling.proofs.set_root.Goals as goal

pub returns : goal.returns
unfolding with_root
returns c = rw c.copy.ensures
