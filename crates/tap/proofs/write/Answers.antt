-- `tap::write` meets its contract: the checks refuse, or the ids are read into a sheet of zeros. Assumes nothing.
use Rattle.std.proofs.lemmas.Result.{err_from_is_err_and}
use Rattle.std.specs.Prelude.{Ok}
use Prim.Native.Nat.{◌-◌, ◌*◌, ◌≤◌}
use mathlib.Core.Path.{◌≡◌, sym, ◌∙◌}
use native.Mathlib.Omega.{arith}
use lib.Seq.{length-take-le}
use Rattle.words.specs.Bytes.{zeros}
use Rattle.words.proofs.Splice.{take-zeros}
use Rattle.sizes.specs.Sizes.{record_len, most_ids}
use Rattle.tap.specs.Tap.{write_checked}
use Rattle.book.proofs.Passed.{row-passed}
use Rattle.tap.proofs.Ranges.{Good, good-range}
use Rattle.tap.proofs.TextWritten.{write-passed, write-refused, write_done}
use Rattle.tap.proofs.write.Goals as goal

pub overflow_sub-n : goal.overflow_sub-n
overflow_sub-n c =
    let done : let a = c.args in write_checked a.desk.now a.tree.now a.first a.end a.draws.now a.out.now ≡ Ok tt = sym c.in_ok-write_checked.ensures in
    let range : let a = c.args in Good a.first a.end = good-range (row-passed (write-passed done).row) in
    range.rising

pub slice_bounds-sheet-end : goal.slice_bounds-sheet-end
slice_bounds-sheet-end c =
    let done : let a = c.args in write_checked a.desk.now a.tree.now a.first a.end a.draws.now a.out.now ≡ Ok tt = sym c.in_ok-write_checked.ensures in
    let range : let a = c.args in Good a.first a.end = good-range (row-passed (write-passed done).row) in
    let short : let a = c.args in (a.end - a.first) * record_len ≤ most_ids * record_len = omega (arith, range.few) in
    short

pub slice_bounds-write_range-end : goal.slice_bounds-write_range-end
slice_bounds-write_range-end c =
    let done : let a = c.args in write_checked a.desk.now a.tree.now a.first a.end a.draws.now a.out.now ≡ Ok tt = sym c.in_ok-write_checked.ensures in
    let range : let a = c.args in Good a.first a.end = good-range (row-passed (write-passed done).row) in
    let short : let a = c.args in (a.end - a.first) * record_len ≤ most_ids * record_len = omega (arith, range.few) in
    let a = c.args in sym (length-take-le ((a.end - a.first) * record_len) (zeros (most_ids * record_len)) short)

pub write_range-requires : goal.write_range-requires
write_range-requires c =
    let done : let a = c.args in write_checked a.desk.now a.tree.now a.first a.end a.draws.now a.out.now ≡ Ok tt = sym c.in_ok-write_checked.ensures in
    let range : let a = c.args in Good a.first a.end = good-range (row-passed (write-passed done).row) in
    let short : let a = c.args in (a.end - a.first) * record_len ≤ most_ids * record_len = omega (arith, range.few) in
    let a = c.args in (done, take-zeros ((a.end - a.first) * record_len) (most_ids * record_len) short)

pub returns-in_err-write_checked : goal.returns-in_err-write_checked
returns-in_err-write_checked c =
    let a = c.args in
    let p = err_from_is_err_and c.from_residual.result c.from_residual.ensures.1 in
    rw (p.1, p.2) (write-refused a.desk.now a.tree.now a.chapter a.first a.end a.draws.now a.out.now (sym c.in_err-write_checked.ensures))

pub returns : goal.returns
returns c =
    let done : let a = c.args in write_checked a.desk.now a.tree.now a.first a.end a.draws.now a.out.now ≡ Ok tt = sym c.in_ok-write_checked.ensures in
    let a = c.args in
    write_done a.desk.now a.tree.now a.chapter a.first a.end a.draws.now a.out.now done c.write_range.ensures
