-- `chacha20::mix` meets its contract: after i turns the first i bytes are combined. Assumes nothing.
use Rattle.std.proofs.Common.{arith}
use lib.Bits.{bit_xor}
use Rattle.chacha20.specs.ChaCha.{zipped}
use Rattle.chacha20.proofs.Front.{front-none}
use Rattle.chacha20.proofs.Zipped.{zipped-turn, zipped-end}
use Rattle.chacha20.proofs.mix.Goals as goal

pub loop-i-init : goal.loop-i-init
loop-i-init c = front-none (zipped bit_xor c.args.part.now c.args.ks.now) c.args.part.now

pub loop-i-preserved : goal.loop-i-preserved
loop-i-preserved c =
    let l = c.loop-i in
    let a = c.args in
    zipped-turn bit_xor a.part.now a.ks.now l.part l.i (omega arith) l.invariant (omega arith)

pub returns : goal.returns
returns c =
    let l = c.loop-i in
    let a = c.args in
    zipped-end bit_xor a.part.now a.ks.now l.part l.i (omega arith) l.invariant (omega arith)
