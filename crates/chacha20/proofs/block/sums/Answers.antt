-- `chacha20::block::sums` meets its contract: after i turns the first i words are added. Assumes nothing.
use Rattle.std.proofs.Common.{arith}
use Rattle.chacha20.specs.ChaCha.{add32, zipped}
use Rattle.chacha20.proofs.Front.{front-none}
use Rattle.chacha20.proofs.Zipped.{zipped-turn, zipped-end}
use Rattle.chacha20.proofs.block.sums.Goals as goal

pub loop-i-init : goal.loop-i-init
loop-i-init c = front-none (zipped add32 c.args.s.now c.args.t.now) c.args.s.now

pub loop-i-preserved : goal.loop-i-preserved
unfolding add32
loop-i-preserved c =
    let l = c.loop-i in
    let a = c.args in
    zipped-turn add32 a.s.now a.t.now l.s l.i (omega arith) l.invariant (omega arith)

pub returns : goal.returns
returns c =
    let l = c.loop-i in
    let a = c.args in
    zipped-end add32 a.s.now a.t.now l.s l.i (omega arith) l.invariant (omega arith)
