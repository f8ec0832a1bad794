-- `verdicts::make` meets its contract: a record is made exactly where it can be. Assumes nothing.
use Rattle.verdicts.proofs.Written.{can-put, made, not_made}
use Rattle.verdicts.proofs.make.Goals as goal

pub put_record-requires : goal.put_record-requires
put_record-requires c = let a = c.args in can-put a.«record».now a.chapter a.name.now c.can_be_read.ensures c.if-can.true

pub returns-then-can : goal.returns-then-can
returns-then-can c = let a = c.args in made a.«record».now a.verdict a.chapter a.year a.name.now c.can_be_read.ensures c.if-can.true c.put_record.ensures

pub returns-else-can : goal.returns-else-can
returns-else-can c = let a = c.args in not_made a.«record».now a.verdict a.chapter a.year a.name.now c.can_be_read.ensures c.if-can.false
