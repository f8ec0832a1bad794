-- `desk::head_good` meets its contract: the tests of the definition, in its order. Assumes nothing.
use mathlib.Core.Path.{◌∙◌}
use Rattle.desk.specs.Good.{head_good}
use Rattle.desk.proofs.Statuses.{names-ok}
use Rattle.desk.proofs.head_good.Goals as goal

pub returns : goal.returns
unfolding head_good
returns c = rw (c.good.ensures, c.sizes_of.ensures, c.ids_good.ensures, c.from.ensures, c.get16.ensures, c.is_ok.ensures.value ∙ names-ok _ _ c.try_from.ensures)
