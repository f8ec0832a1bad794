-- `shelf::turns::more` meets its contract: a text that fills the window is longer than any line that can be read. Assumes nothing.
use Prim.Native.Nat.{◌-◌}
use native.Mathlib.Omega.{arith}
use Rattle.words.specs.Bytes.{part}
use Rattle.words.proofs.Splice.{length_part}
use Rattle.shelf.proofs.Long.{long-ends}
use Rattle.shelf.proofs.turns.more.Goals as goal

pub returns-then-n-window : goal.returns-then-n-window
returns-then-n-window g c =
    let a = c.args in
    let p = c.requires in
    let n = a.at.to - a.at.from in
    let l = length_part a.window.now a.at.from n (omega (arith, p.0.from_to, p.0.inside)) in
    (tt, λ rest sh. long-ends a.at.run (part a.window.now a.at.from n) rest sh a.out.now _ (omega (arith, l, p.0.window_most, c.if-n-window.true)) p.1 p.0.going c.bad-step.ensures.1.is)
