-- `desk::bodies::slot_good` meets its contract: the tests of the definition, in its order; an id out of range decides before its place is read. Assumes nothing.
use borrow.Author.Tests.{lt-ltb, le-ltb, le-leb, lt-leb}
use Rattle.desk.specs.Good.{slot_after}
use Rattle.desk.proofs.bodies.slot_good.Goals as goal

pub returns-then-id-last : goal.returns-then-id-last
unfolding slot_after
returns-then-id-last c = rw (← c.slot_at-at.ensures, ← c.get16.ensures, ← c.from-id.ensures, le-ltb _ _ c.if-id-last.true)

pub returns-then-h-id : goal.returns-then-h-id
unfolding slot_after
returns-then-h-id c = rw (← c.slot_at-at.ensures, ← c.get16.ensures, ← c.from-id.ensures, lt-ltb _ _ c.if-id-last.false, ← c.h.view_is, lt-leb _ _ c.if-h-id.true)

pub returns : goal.returns
unfolding slot_after
returns c =
    rw (c.get16-2.ensures, c.get16-3.ensures, ← c.slot_at-at.ensures, ← c.get16.ensures, ← c.from-id.ensures, lt-ltb _ _ c.if-id-last.false, ← c.h.view_is, le-leb _ _ c.if-h-id.false)
