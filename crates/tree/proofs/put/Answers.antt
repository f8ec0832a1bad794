-- `tree::put` meets its contract: a refusal keeps the tree, and where none applies `copy_in` lays the items in. Assumes nothing.
use Rattle.std.proofs.lemmas.Result.{err_from_is_err_and}
use mathlib.Core.Path.{sym, ap, ◌∙◌}
use Rattle.tree.specs.Tree.{tree_checked}
use Rattle.tree.proofs.Checks.{checked-fits}
use Rattle.tree.proofs.put.Goals as goal

pub copy_in-requires : goal.copy_in-requires
copy_in-requires c =
    let a = c.args in
    checked-fits c.of-s.result a.leaf a.tree.now a.path.now (sym c.in_ok-checked.ensures)

pub returns-in_err-checked : goal.returns-in_err-checked
returns-in_err-checked c =
    let p = err_from_is_err_and c.from_residual.result c.from_residual.ensures.1 in rw (p.1, p.2, ← c.of-s.ensures, ← c.in_err-checked.ensures)

pub returns : goal.returns
returns c = rw (c.copy_in.ensures, c.of-s.ensures, (ap (λ s. tree_checked s c.args.leaf c.args.tree.now c.args.path.now) (sym c.of-s.ensures) ∙ sym c.in_ok-checked.ensures))
