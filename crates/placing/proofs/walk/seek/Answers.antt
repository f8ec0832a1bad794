-- `placing::walk::seek` meets its contract: before each turn the search goes on from h, and both leaves are halved h times. Assumes nothing.
use Prim.Native.Nat.{◌+◌}
use mathlib.Core.Path.{sym, ◌∙◌}
use native.Mathlib.Omega.{arith}
use Rattle.placing.specs.Walk as walk
use Rattle.placing.proofs.Walked.{seek_hit, seek-miss, seek-end}
use Rattle.placing.proofs.Given.{halved, room-is}
use Rattle.placing.proofs.walk.seek.Goals as goal

pub returns-then-a-b : goal.returns-then-a-b
returns-then-a-b c =
    let l = c.loop-h in
    let a = c.args in
    let r = room-is a.s a.leaf a.used.now a.x l.h l.a l.b (omega arith) l.invariant.0.0 l.invariant.0.1 in
    (sym (l.invariant.1 ∙ seek_hit (walk.has_room a.s a.leaf a.used.now a.x) (a.s.height + 1) l.h (omega arith) (r ∙ c.if-a-b.true)), omega arith)

pub loop-h-preserved : goal.loop-h-preserved
loop-h-preserved c =
    let l = c.loop-h in
    let a = c.args in
    let r = room-is a.s a.leaf a.used.now a.x l.h l.a l.b (omega arith) l.invariant.0.0 l.invariant.0.1 in (
      (rw l.invariant.0.0 (halved a.x l.h), rw l.invariant.0.1 (halved a.leaf l.h)),
      l.invariant.1 ∙ seek-miss (walk.has_room a.s a.leaf a.used.now a.x) (a.s.height + 1) l.h (omega arith) (r ∙ c.if-a-b.false),
    )

pub returns : goal.returns
returns c =
    let l = c.loop-h in
    let a = c.args in
    (sym (l.invariant.1 ∙ seek-end (walk.has_room a.s a.leaf a.used.now a.x) (a.s.height + 1) l.h (omega arith)), omega arith)
