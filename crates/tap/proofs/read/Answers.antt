-- `tap::read` meets its contract: the checks refuse, or the text is read into a sheet of zeros. Assumes nothing.
use Rattle.std.proofs.lemmas.Result.{err_from_is_err_and}
use Rattle.std.specs.Prelude.{Ok}
use Prim.Native.Nat.{◌-◌, ◌*◌, ◌≤◌}
use mathlib.Core.Path.{◌≡◌, sym, ◌∙◌}
use native.Mathlib.Omega.{arith}
use lib.Seq.{length-take-le}
use Rattle.words.specs.Bytes.{zeros}
use Rattle.words.proofs.Splice.{take-zeros}
use Rattle.sizes.specs.Sizes.{record_len, most_ids}
use Rattle.book.specs.MatrixRow.{row_checked}
use Rattle.book.proofs.Passed.{row-passed}
use Rattle.tap.proofs.Ranges.{good-range}
use Rattle.tap.proofs.TextRead.{read-refused, read_done}
use Rattle.tap.proofs.read.Goals as goal

pub overflow_sub-n : goal.overflow_sub-n
overflow_sub-n c =
    let done : let a = c.args in row_checked a.desk.now a.tree.now a.first a.end a.draws.now ≡ Ok tt = sym c.in_ok-row_checked.ensures in
    (good-range (row-passed done)).rising

pub slice_bounds-sheet-end : goal.slice_bounds-sheet-end
slice_bounds-sheet-end c =
    let done : let a = c.args in row_checked a.desk.now a.tree.now a.first a.end a.draws.now ≡ Ok tt = sym c.in_ok-row_checked.ensures in
    let short : let a = c.args in (a.end - a.first) * record_len ≤ most_ids * record_len = omega (arith, (good-range (row-passed done)).few) in
    short

pub slice_bounds-read_checked-end : goal.slice_bounds-read_checked-end
slice_bounds-read_checked-end c =
    let done : let a = c.args in row_checked a.desk.now a.tree.now a.first a.end a.draws.now ≡ Ok tt = sym c.in_ok-row_checked.ensures in
    let short : let a = c.args in (a.end - a.first) * record_len ≤ most_ids * record_len = omega (arith, (good-range (row-passed done)).few) in
    let a = c.args in sym (length-take-le ((a.end - a.first) * record_len) (zeros (most_ids * record_len)) short)

pub read_checked-requires : goal.read_checked-requires
read_checked-requires c =
    let done : let a = c.args in row_checked a.desk.now a.tree.now a.first a.end a.draws.now ≡ Ok tt = sym c.in_ok-row_checked.ensures in
    let short : let a = c.args in (a.end - a.first) * record_len ≤ most_ids * record_len = omega (arith, (good-range (row-passed done)).few) in
    let a = c.args in (done, take-zeros ((a.end - a.first) * record_len) (most_ids * record_len) short)

pub returns-in_err-row_checked : goal.returns-in_err-row_checked
returns-in_err-row_checked c =
    let a = c.args in
    let p = err_from_is_err_and c.from_residual.result c.from_residual.ensures.1 in
    rw (p.1, p.2) (read-refused a.desk.now a.tree.now a.chapter a.year a.first a.end a.draws.now a.text.now (sym c.in_err-row_checked.ensures))

pub returns : goal.returns
returns c =
    let done : let a = c.args in row_checked a.desk.now a.tree.now a.first a.end a.draws.now ≡ Ok tt = sym c.in_ok-row_checked.ensures in
    let a = c.args in
    read_done a.desk.now a.tree.now a.chapter a.year a.first a.end a.draws.now a.text.now done c.read_checked.ensures
