-- `desk::bodies::open_good` meets its contract: the tests of the definition, in its order. Assumes nothing.
use Rattle.desk.specs.Good.{open_good}
use Rattle.desk.proofs.Lengths.{tail-part}
use Rattle.desk.proofs.bodies.open_good.Goals as goal

pub returns : goal.returns
unfolding open_good
returns c = rw (c.is_zero.ensures, c.from-id.ensures, c.get16.ensures, c.has.ensures, c.get16-leaf.ensures, c.get16-zeros.ensures, tail-part)
