-- `runs::lengths::path_len` meets its contract: a path of the shelf is short. Assumes nothing.
use mathlib.Core.Path.{ap, ◌∙◌}
use native.Mathlib.Omega.{arith}
use Rattle.sizes.specs.Sizes.{path_len}
use Rattle.runs.proofs.Steps.{path_most}
use Rattle.runs.proofs.lengths.path_len.Goals as goal

pub path_len-requires : goal.path_len-requires
path_len-requires c = rw c.of.ensures c.requires.range

pub returns : goal.returns
returns c =
    let a = c.args in
    let p = c.requires in
    let e = c.path_len.ensures ∙ ap path_len c.of.ensures in
    (e, omega (arith, path_most a.store.height a.store.slots p.range.height_low p.given.height_high p.range.slots_high))
