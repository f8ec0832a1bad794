-- `chacha20::five::rounds_five` meets its contract: after n turns both states have had n times both rounds. Assumes nothing.
use Rattle.std.proofs.Common.{◌≡◌, refl, ap, ◌∙◌, add-one, arith}
use Rattle.chacha20.specs.ChaCha.{rounds, inner}
use Rattle.chacha20.specs.Lanes.{rounds_four, inner_four}
use Rattle.chacha20.proofs.five.rounds_five.Goals as goal

pub loop-init : goal.loop-init
unfolding rounds rounds_four
loop-init c = (refl, refl)

pub loop-preserved : goal.loop-preserved
unfolding rounds rounds_four
loop-preserved c =
    let i = c.loop.invariant in
    (rw add-one (c.inner_four.ensures ∙ ap inner_four i.0), rw add-one (c.inner.ensures ∙ ap inner i.1))

pub returns : goal.returns
returns c =
    let l = c.loop in
    let e : l.counter ≡ 10 = omega arith in
    (rw (← e) l.invariant.0, rw (← e) l.invariant.1)
