-- `items::inner_digest` meets its contract: three parts go in, one behind the other. Assumes nothing.
use Prim.Native.Nat.{◌+◌, ◌-◌}
use mathlib.Core.List.{[]}
use native.Mathlib.Omega.{arith}
use Rattle.items.proofs.Digest.{inner-given}
use Rattle.items.proofs.inner_digest.Goals as goal

pub returns : goal.returns
returns c =
    let a = c.args in
    let at = c.inner_at-at.result in
    let p = c.inner_at-at.ensures.is in
    let q = c.leaf_len.ensures in
    let f = at + c.leaf_len.result in
    inner-given a.s a.path.now a.k c.requires.1 at f (f + 2) (f + 2 + 32) (f + 1) (f + 2 - at) (f + 2 + 32 - (f + 2)) (f + 2 + 32 + 32 - (f + 2 + 32)) _
    p (omega (arith, p, q)) (omega (arith, p, q)) (omega (arith, p, q)) (omega (arith, p, q)) (omega (arith, p, q)) (omega arith) (omega arith)
    (c.finish.ensures _ (c.child-right.ensures.holds _ (c.child-left.ensures.holds _ (c.absorb-body.ensures.holds [] c.new.ensures))))
