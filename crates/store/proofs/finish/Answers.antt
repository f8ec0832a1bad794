-- `store::finish` meets its contract: the refusals before the path change nothing, and an open desk goes on to the path. Assumes nothing.
use Rattle.std.proofs.lemmas.Result.{err_from_is_err_and}
use mathlib.Core.Path.{sym, ◌∙◌}
use native.Mathlib.Omega.{arith}
use Rattle.store.proofs.Rows.{entry-refused, entry-passed, entered}
use Rattle.store.proofs.finish.Goals as goal

pub finish_open-requires : goal.finish_open-requires
finish_open-requires c =
    let a = c.args in
    let e = entered a.desk.now a.path.now a.«record».now (sym c.in_ok-entry_checked.ensures) (omega (arith, c.slice_known-1.given 42)) in
    record { open_desk = e.0; path_len = e.1 }

pub returns-in_err-entry_checked : goal.returns-in_err-entry_checked
returns-in_err-entry_checked c =
    let a = c.args in
    let p = err_from_is_err_and c.from_residual.result c.from_residual.ensures.1 in
    rw (p.1, p.2) (entry-refused a.desk.now a.path.now a.«record».now (sym c.in_err-entry_checked.ensures))

pub returns : goal.returns
returns c = let a = c.args in c.finish_open.ensures ∙ entry-passed a.desk.now a.path.now a.«record».now (sym c.in_ok-entry_checked.ensures)
