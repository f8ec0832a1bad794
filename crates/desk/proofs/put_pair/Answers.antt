-- `desk::put_pair` meets its contract: the second number stands right after the first. Assumes nothing.
use Rattle.words.specs.Numbers.{bytes_of}
use Rattle.words.proofs.Splice.{splice-next}
use Rattle.words.proofs.Numbers.{length-bytes_of}
use borrow.Author.Rules.{rules}
use Rattle.desk.proofs.put_pair.Goals as goal

pub returns : goal.returns
returns c =
    let a = c.args in
    rw (
      c.put_number-2.ensures,
      c.put_number.ensures,
      splice-next a.dst.now a.at (bytes_of 4 a.offset) (bytes_of 4 a.len) 4 (length-bytes_of 4 a.offset) (search rules),
    )
