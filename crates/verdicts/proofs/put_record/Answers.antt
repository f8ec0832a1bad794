-- `verdicts::put_record` meets its contract: its parts, one right after another, are the record. Assumes nothing.
use Rattle.verdicts.proofs.Written.{written-by}
use Rattle.verdicts.proofs.put_record.Goals as goal

pub returns : goal.returns
returns c =
    written-by c.args.verdict c.args.chapter c.args.year c.args.name.now c.requires.1 c.args.«record».now c.requires.0 c.head_bytes-head.ensures c.copy.ensures c.copy-2.ensures c.clear.ensures
