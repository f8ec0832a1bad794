-- `tree::copy_in` meets its contract: after k turns the tree is that with the first k items put back. Assumes nothing.
use native.Mathlib.Numerals.{add-one}
use Prim.Native.Nat.{ℕ, ◌+◌}
use mathlib.Core.Path.{◌≡◌, refl, ap, ◌∙◌}
use native.Mathlib.Omega.{arith}
use Rattle.tree.specs.Tree.{put_back}
use Rattle.tree.proofs.Turns.{put-turn}
use borrow.Author.Rules.{rules}
use Rattle.tree.proofs.copy_in.Goals as goal

pub loop-k-init : goal.loop-k-init
unfolding put_back
loop-k-init c = (refl, refl)

pub loop-k-preserved : goal.loop-k-preserved
loop-k-preserved c =
    let l = c.loop-k in
    let a = c.args in (
      search rules,
      put-turn a.s a.leaf a.path.now a.tree.now l.tree c.copy.new.dst l.k c.in_tree.result c.item_at-from.result c.item_len.result
          c.in_tree.ensures.is c.item_at-from.ensures.is c.item_len.ensures l.invariant.1 c.copy.ensures,
    )

pub returns : goal.returns
returns c =
    let l = c.loop-k in
    let a = c.args in
    let e : l.k ≡ a.s.height + 1 = omega arith in
    l.invariant.1 ∙ ap (λ (k : ℕ). put_back a.s a.leaf a.path.now a.tree.now k) e ∙ rw add-one
