-- `tap::write_range` meets its contract: after a refusal the buffer is as it was, and otherwise has the text in front. Assumes nothing.
use Rattle.std.proofs.lemmas.Result.{err_from_is_err_and}
use Prim.Native.Nat.{◌-◌}
use mathlib.Core.Path.{◌∙◌}
use native.Mathlib.Omega.{arith}
use Rattle.book.proofs.Passed.{row-passed}
use Rattle.tap.proofs.Ranges.{good-range, empty-long}
use Rattle.tap.proofs.TextWritten.{write-passed, range-refused, range-printed}
use Rattle.tap.proofs.write_range.Goals as goal

pub pass_all-requires : goal.pass_all-requires
pass_all-requires c = ((write-passed c.requires.0).row, empty-long (c.args.end - c.args.first) c.requires.1)

pub overflow_sub-end : goal.overflow_sub-end
overflow_sub-end c = (good-range (row-passed (write-passed c.requires.0).row)).rising

pub put-requires : goal.put-requires
put-requires c =
    let w = write-passed c.requires.0 in
    let g = good-range (row-passed w.row) in
    (g.some, omega (arith, g.few), c.pass_all.auto.sheet ∙ empty-long (c.args.end - c.args.first) c.requires.1, w.room)

pub returns-in_err-pass_all : goal.returns-in_err-pass_all
returns-in_err-pass_all c =
    let p = err_from_is_err_and c.from_residual.result c.from_residual.ensures.1 in
    rw (p.1, p.2) (range-refused c.args.desk.now c.args.tree.now c.args.chapter c.args.first (c.args.end - c.args.first) c.args.draws.now c.args.out.now c.requires.1 c.pass_all.ensures c.in_err-pass_all.was)

pub returns : goal.returns
returns c =
    range-printed c.args.desk.now c.args.tree.now c.args.chapter c.args.first (c.args.end - c.args.first) c.args.draws.now c.args.out.now c.requires.1 c.pass_all.ensures c.in_ok-pass_all.was c.put.ensures.0
