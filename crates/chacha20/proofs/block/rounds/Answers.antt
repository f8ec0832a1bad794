-- `chacha20::block::rounds` meets its contract: after n turns it is n times both rounds. Assumes nothing.
use Rattle.std.proofs.Common.{◌≡◌, refl, ap, ◌∙◌, add-one, arith}
use Rattle.chacha20.specs.ChaCha.{rounds, inner}
use Rattle.chacha20.proofs.block.rounds.Goals as goal

pub loop-init : goal.loop-init
unfolding rounds
loop-init c = refl

pub loop-preserved : goal.loop-preserved
unfolding rounds
loop-preserved c = rw add-one (c.inner.ensures ∙ ap inner c.loop.invariant)

pub returns : goal.returns
returns c =
    let l = c.loop in
    let e : l.counter ≡ 10 = omega arith in
    rw (← e) l.invariant
