-- `lines::test_after` meets its contract: each test decides its case. Assumes nothing.
use native.Mathlib.Omega.{arith}
use Rattle.lines.proofs.Arms.{test-none, test-joined, test-unheld, test-held}
use Rattle.lines.proofs.test_after.Goals as goal

pub returns-then-number-eq0 : goal.returns-then-number-eq0
returns-then-number-eq0 c =
    let a = c.args in
    (test-none a.chapter a.ok a.w a.line.now (omega arith) _ c.count-number.ensures.0 c.if-number-eq0.true, tt)

pub returns-then-not-ends_number : goal.returns-then-not-ends_number
returns-then-not-ends_number c =
    let a = c.args in
    (test-joined a.chapter a.ok a.w a.line.now (omega arith) _ c.count-number.ensures.0 _ c.ends_number.ensures (c.if-not-ends_number.true), tt)

pub returns-then-not-can_be_read : goal.returns-then-not-can_be_read
returns-then-not-can_be_read c =
    let a = c.args in
    (test-unheld a.chapter a.ok a.w a.line.now (omega arith) _ c.count-number.ensures.0 _ c.ends_number.ensures (omega arith) (c.if-not-ends_number.false) _ c.test_from-test.ensures.0 _ c.can_be_read.ensures (c.if-not-can_be_read.true), tt)

pub returns : goal.returns
returns c =
    let a = c.args in
    (test-held a.chapter a.ok a.w a.line.now (omega arith) _ c.count-number.ensures.0 _ c.ends_number.ensures (omega arith) (c.if-not-ends_number.false) _ c.test_from-test.ensures.0 _ c.can_be_read.ensures (c.if-not-can_be_read.false), c.test_from-test.ensures.1)
