-- `tree::copy_out` meets its contract: after k turns the first k items stand at the path's beginning. Assumes nothing.
use mathlib.Core.Path.{refl, sym}
use native.Mathlib.Omega.{arith}
use Rattle.words.proofs.Splice.{splice-nil}
use Rattle.tree.specs.Tree.{fetched}
use Rattle.tree.proofs.Turns.{fetch-turn, fetch-end}
use borrow.Author.Rules.{rules}
use Rattle.tree.proofs.copy_out.Goals as goal

pub loop-k-init : goal.loop-k-init
unfolding fetched
loop-k-init c = (refl, sym (splice-nil c.args.path.now 0))

pub loop-k-preserved : goal.loop-k-preserved
loop-k-preserved c =
    let l = c.loop-k in
    let a = c.args in
    let p = c.requires in (
      search rules,
      fetch-turn a.s a.leaf a.tree.now a.path.now p l.path c.copy.new.dst l.k c.item_at.result c.in_tree-from.result c.item_len.result
          (omega arith) c.item_at.ensures.is c.in_tree-from.ensures.is c.item_len.ensures l.invariant.1 c.copy.ensures,
    )

pub returns : goal.returns
returns c =
    let l = c.loop-k in
    let a = c.args in
    fetch-end a.s a.leaf a.tree.now a.path.now c.requires l.path l.k (omega arith) l.invariant.1
