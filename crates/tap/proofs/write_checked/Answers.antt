-- `tap::write_checked` meets its contract: the book's refusals come first, then that of the buffer. Assumes nothing.
use Rattle.std.proofs.lemmas.Result.{err_from_is_err_and}
use Rattle.std.specs.Prelude.{Ok}
use mathlib.Core.Path.{◌≡◌, sym, ◌∙◌}
use native.Mathlib.Omega.{arith}
use Rattle.book.specs.MatrixRow.{row_checked}
use Rattle.book.proofs.Passed.{row-passed}
use Rattle.tap.proofs.Ranges.{good-range}
use Rattle.tap.proofs.TextWritten.{checked_refused, checked-length, checked-done}
use Rattle.tap.proofs.write_checked.Goals as goal

pub overflow_sub-end : goal.overflow_sub-end
overflow_sub-end c =
    let done : let a = c.args in row_checked a.desk.now a.tree.now a.first a.end a.draws.now ≡ Ok tt = sym c.in_ok-row_checked.ensures in
    (good-range (row-passed done)).rising

pub returns-then-out-room : goal.returns-then-out-room
returns-then-out-room c =
    let done : let a = c.args in row_checked a.desk.now a.tree.now a.first a.end a.draws.now ≡ Ok tt = sym c.in_ok-row_checked.ensures in
    let a = c.args in checked-length a.desk.now a.tree.now a.first a.end a.draws.now a.out.now done c.room.ensures (λ e. omega (arith, c.if-out-room.true, e))

pub returns-in_err-row_checked : goal.returns-in_err-row_checked
returns-in_err-row_checked c =
    let a = c.args in
    let p = err_from_is_err_and c.from_residual.result c.from_residual.ensures.1 in
    rw (p.1, p.2) (checked_refused a.desk.now a.tree.now a.first a.end a.draws.now a.out.now (sym c.in_err-row_checked.ensures))

pub returns : goal.returns
returns c =
    let done : let a = c.args in row_checked a.desk.now a.tree.now a.first a.end a.draws.now ≡ Ok tt = sym c.in_ok-row_checked.ensures in
    let a = c.args in checked-done a.desk.now a.tree.now a.first a.end a.draws.now a.out.now done c.room.ensures (omega (arith, c.if-out-room.false))
