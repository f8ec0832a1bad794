-- `chacha20::five::bytes_of_five` meets its contract: the five blocks fill all the room. Assumes nothing.
use Rattle.std.proofs.Common.{◌≡◌, ◌∙◌, refl, arith}
use Rattle.words.specs.Bytes.{zeros}
use Rattle.chacha20.proofs.Serial.{laid-none, laid-turn, five-laid}
use Rattle.chacha20.proofs.five.bytes_of_five.Goals as goal

pub loop-k-init : goal.loop-k-init
loop-k-init c = laid-none (zeros 320) c.args.u.now

pub loop-k-preserved : goal.loop-k-preserved
loop-k-preserved c =
    let l = c.loop-k in
    c.serialize.ensures ∙ laid-turn l.k c.args.u.now (zeros 320) l.out (omega arith) l.invariant

pub returns : goal.returns
returns c =
    let l = c.loop-k in
    let e : l.k ≡ 4 = omega arith in
    five-laid c.args.u.now c.args.p.now (zeros 320) l.out c.serialize-2.new.out refl (rw e at l.invariant) c.serialize-2.ensures
