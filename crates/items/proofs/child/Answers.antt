-- `items::child` meets its contract: zeros or the digest go in, as the flag says. Assumes nothing.
use borrow.Author.Tests.{eq-eqb, ne_eqb}
use Rattle.items.proofs.child.Goals as goal

pub returns-then-flag-eq0 : goal.returns-then-flag-eq0
returns-then-flag-eq0 c = rw (eq-eqb _ _ c.if-flag-eq0.true) c.absorb.ensures

pub returns : goal.returns
returns c = rw (ne_eqb _ _ c.if-flag-eq0.false) c.absorb-2.ensures
