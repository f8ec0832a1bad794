-- `sha256::padding::last` meets its contract: the bytes left over, the bit 1, zeros that were there, the length at the end of a block. Assumes nothing.
use Rattle.std.proofs.Common.{arith, rules}
use Rattle.sha256.proofs.Padded.{length-padding, last-is}
use Rattle.sha256.proofs.padding.last.Goals as goal

pub overflow_sub-n : goal.overflow_sub-n
overflow_sub-n c = omega (arith, length-padding c.args.total)

pub returns : goal.returns
returns c =
    let a = c.args in
    let b = c.last_blocks-n in record { p_len = search rules; p_after = last-is a.left.now a.total b.result c.requires.left_len b.ensures.result_value c.put_big64.new.s (rw (c.copy.ensures, c.requires.p_value) at c.put_big64.ensures) }
