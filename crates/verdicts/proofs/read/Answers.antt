-- `verdicts::read` meets its contract: a record of another length is bad. Assumes nothing.
use mathlib.Core.Path.{sym}
use Rattle.verdicts.proofs.GoodRecord.{bad-length}
use Rattle.verdicts.proofs.read.Goals as goal

pub returns-then-record-ne-RECORD : goal.returns-then-record-ne-RECORD
returns-then-record-ne-RECORD c = sym (bad-length _ c.if-record-ne-RECORD.true)
