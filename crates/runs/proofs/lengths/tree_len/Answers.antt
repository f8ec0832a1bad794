-- `runs::lengths::tree_len` meets its contract: a tree of the shelf is low. Assumes nothing.
use mathlib.Core.Path.{ap, ◌∙◌}
use native.Mathlib.Omega.{arith}
use Rattle.sizes.specs.Sizes.{tree_len}
use Rattle.runs.proofs.Steps.{tree_most}
use Rattle.runs.proofs.lengths.tree_len.Goals as goal

pub tree_len-requires : goal.tree_len-requires
tree_len-requires c = rw c.of.ensures c.requires.range

pub returns : goal.returns
returns c =
    let a = c.args in
    let p = c.requires in
    let e = c.tree_len.ensures ∙ ap tree_len c.of.ensures in
    (e, omega (arith, tree_most a.store.height a.store.slots p.range.height_low p.given.height_high p.range.slots_high))
