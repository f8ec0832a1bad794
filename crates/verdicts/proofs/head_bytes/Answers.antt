-- `verdicts::head_bytes` meets its contract: the bytes of the definition, written out. Assumes nothing.
use Rattle.words.specs.Numbers.{bytes_of}
use Rattle.verdicts.proofs.head_bytes.Goals as goal

pub returns : goal.returns
unfolding bytes_of
returns c = rw (c.from.ensures, c.to_le_bytes.ensures)
