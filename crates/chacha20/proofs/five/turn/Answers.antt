-- `chacha20::five::turn` meets its contract: after i turns the first i words of the row are the turned ones. Assumes nothing.
use Rattle.std.proofs.Common.{◌≡◌, ℕ, ◌+◌, ◌%◌, List, get_or, set, refl, ap, add-one, arith}
use Rattle.chacha20.specs.Lanes.{turned}
use Rattle.chacha20.proofs.five.turn.Goals as goal

pub loop-i-init : goal.loop-i-init
unfolding turned
loop-i-init c = (omega arith, refl)

pub loop-i-preserved : goal.loop-i-preserved
unfolding turned
loop-i-preserved c =
    let l = c.loop-i in
    let a = c.args in
    (omega arith, rw add-one (ap (λ (x : List ℕ). set x (a.row + l.i) (get_or a.s.now (a.row + (l.i + a.by) % 16) 0)) l.invariant.1))

pub returns : goal.returns
returns c =
    let l = c.loop-i in
    let e : l.i ≡ 16 = omega arith in
    rw (← e) l.invariant.1
