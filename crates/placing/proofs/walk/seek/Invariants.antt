-- `placing::walk::seek` meets its contract: before each turn the search goes on from h, and both leaves are halved h times. Assumes nothing.
use Prim.Native.Nat.{◌-◌, ◌/◌, ◌^◌}
use mathlib.Core.Path.{◌≡◌}
use Rattle.placing.specs.Walk as walk
use Rattle.placing.proofs.walk.seek.Given as goal

abbrev pub invariant-loop-h : goal.invariant-loop-h
invariant-loop-h l =
    ((l.a ≡ l.x / 2 ^ l.h) × (l.b ≡ l.leaf / 2 ^ l.h))
    × (walk.seek (walk.has_room l.s l.leaf l.used l.x) l.n 0 ≡ walk.seek (walk.has_room l.s l.leaf l.used l.x) (l.n - l.h) l.h)
