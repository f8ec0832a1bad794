-- `desk::status_of` meets its contract: a good desk's status byte names a status. Assumes nothing.
use mathlib.Core.Path.{◌∙◌}
use native.Mathlib.Omega.{arith}
use borrow.Author.Tests.{le-leb}
use Rattle.desk.proofs.Known.{known}
use Rattle.desk.proofs.Statuses.{names-ok}
use Rattle.desk.proofs.status_of.Goals as goal

pub bounds-desk-43 : goal.bounds-desk-43
bounds-desk-43 c = omega (arith, (known _ c.requires).size)

pub unwrap-requires : goal.unwrap-requires
unwrap-requires c = names-ok _ _ c.try_from.ensures ∙ le-leb _ _ (known _ c.requires).head.status_high
