-- `sha256::Hasher::finish` meets its contract: the last blocks are the bytes left over and the padding. Assumes nothing.
use Rattle.std.proofs.Common.{◌≡◌, ◌*◌, length, take, arith, length-take-le}
use Rattle.sha256.proofs.Held.{finish-is}
use Rattle.sha256.proofs.stream.Hasher.finish.Goals as goal

pub returns : goal.returns
returns c =
    let b = c.last_blocks in
    let p = c.last.new.p in
    let q = take (64 * b.result) p in
    let t = rw (c.begun.ensures, ← b.ensures.result_value) at c.last.ensures.p_after in
    let l : length q ≡ 64 * b.result = length-take-le (64 * b.result) p (omega (arith, c.last.ensures.p_len, b.ensures.upper_bound)) in
    λ bs held. finish-is c.args.self bs q c.blocks-2.result c.bytes_of.result held t (omega arith) c.blocks-2.ensures c.bytes_of.ensures
