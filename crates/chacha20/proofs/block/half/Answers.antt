-- `chacha20::block::half` meets its contract: the definition in its own order. Assumes nothing.
use Rattle.std.proofs.Common.{arith}
use Rattle.chacha20.specs.ChaCha.{add32, half}
use Rattle.chacha20.proofs.Rotated.{rotated-left}
use Rattle.chacha20.proofs.block.half.Goals as goal

pub returns : goal.returns
unfolding add32 half
returns c =
    let a = c.args in
    let d = rotated-left _ a.j _ (omega arith) (omega arith) c.rotate_left-d.ensures in
    let b = rotated-left _ a.k _ (omega arith) (omega arith) c.rotate_left-b.ensures in
    rw (b, d)
