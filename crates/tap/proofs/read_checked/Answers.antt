-- `tap::read_checked` meets its contract: a bad text is the answer, and a good one's sheet goes through the store. Assumes nothing.
use Prim.Native.Nat.{◌-◌}
use mathlib.Core.Path.{◌∙◌}
use native.Mathlib.Omega.{arith}
use Rattle.std.proofs.lemmas.Result.{err_from_is_err_and}
use Rattle.book.proofs.Passed.{row-passed}
use Rattle.tap.proofs.Ranges.{good-range, empty-long}
use Rattle.tap.proofs.TextRead.{text-bad, text-good}
use Rattle.tap.proofs.read_checked.Goals as goal

pub overflow_sub-end : goal.overflow_sub-end
overflow_sub-end c = (good-range (row-passed c.requires.0)).rising

pub take-requires : goal.take-requires
take-requires c = (empty-long (c.args.end - c.args.first) c.requires.1, omega (arith, (good-range (row-passed c.requires.0)).few))

pub returns-in_err-take : goal.returns-in_err-take
returns-in_err-take c =
    let p = err_from_is_err_and c.from_residual.result c.from_residual.ensures.1 in
    rw (p.1, p.2) (text-bad c.args.desk.now c.args.tree.now c.args.chapter c.args.year c.args.first (c.args.end - c.args.first) c.args.draws.now c.args.text.now c.requires.1 c.take.ensures c.in_err-take.was)

pub pass_all-requires : goal.pass_all-requires
pass_all-requires c = (c.requires.0, c.take.auto.sheet ∙ empty-long (c.args.end - c.args.first) c.requires.1)

pub returns-in_err-pass_all : goal.returns-in_err-pass_all
returns-in_err-pass_all c =
    let s = c.from_residual-in_err-pass_all in
    let p = err_from_is_err_and s.result s.ensures.1 in
    rw (p.1, p.2) (text-good c.args.desk.now c.args.tree.now c.args.chapter c.args.year c.args.first (c.args.end - c.args.first) c.args.draws.now c.args.text.now c.requires.1 c.take.ensures c.in_ok-take.was c.pass_all.ensures c.in_err-pass_all.was)

pub returns : goal.returns
returns c =
    text-good c.args.desk.now c.args.tree.now c.args.chapter c.args.year c.args.first (c.args.end - c.args.first) c.args.draws.now c.args.text.now c.requires.1 c.take.ensures c.in_ok-take.was c.pass_all.ensures c.in_ok-pass_all.was
