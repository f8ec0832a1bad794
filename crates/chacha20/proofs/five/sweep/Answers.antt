-- `chacha20::five::sweep` meets its contract: after i turns it is i quarter rounds. Assumes nothing.
use Rattle.chacha20.specs.ChaCha.{quarter_at}
use Rattle.std.proofs.Common.{◌≡◌, ℕ, ◌+◌, List, refl, ap, ◌∙◌, add-one, arith}
use Rattle.chacha20.specs.Lanes.{swept}
use Rattle.chacha20.proofs.five.sweep.Goals as goal

pub loop-i-init : goal.loop-i-init
unfolding swept
loop-i-init c = (omega arith, refl)

pub loop-i-preserved : goal.loop-i-preserved
unfolding swept
loop-i-preserved c =
    let l = c.loop-i in
    (omega arith, rw add-one (c.quarter_at.ensures ∙ ap (λ (x : List ℕ). quarter_at x l.i (16 + l.i) (32 + l.i) (48 + l.i)) l.invariant.1))

pub returns : goal.returns
returns c =
    let l = c.loop-i in
    let e : l.i ≡ 16 = omega arith in
    rw (← e) l.invariant.1
