-- `opening::checks::flags_at` meets its contract: two tests. Assumes nothing.
use Rattle.opening.proofs.checks.flags_at.Goals as goal

pub returns : goal.returns
returns c = rw (c.flag.ensures, c.flag-2.ensures)
