-- `items::is_due` meets its contract: compared with the root digest, or with the part of the parent that its side names. Assumes nothing.
use Prim.Native.Nat.{◌+◌, ◌-◌, ◌*◌}
use mathlib.Core.Path.{ap, ◌∙◌}
use native.Mathlib.Omega.{arith}
use Rattle.words.specs.Bytes.{same}
use Rattle.items.proofs.Way.{due-root, due-child}
use Rattle.items.proofs.is_due.Goals as goal

pub returns-then-k-eq0 : goal.returns-then-k-eq0
returns-then-k-eq0 c =
    let a = c.args in
    c.same.ensures ∙ ap (same a.d.now) (due-root a.v a.path.now a.k c.if-k-eq0.true)

pub returns : goal.returns
returns c =
    let a = c.args in
    let b = c.inner_at.result + c.leaf_len.result + 2 + 32 * c.side.result in
    c.same-2.ensures
    ∙ ap (same a.d.now) (due-child a.v a.path.now a.k b (b + 32 - b) (omega arith) (omega arith)
    (omega (arith, c.inner_at.ensures.is, c.leaf_len.ensures, c.side.ensures.0)) (omega arith))
