-- `lines::read` meets its contract: the first test that holds decides. Assumes nothing.
use mathlib.Core.Path.{sym, ap, ◌∙◌}
use native.Mathlib.Omega.{arith}
use lib.ListN.{length}
use Rattle.text.proofs.Found.{starts-begins, same-as, strips-begins}
use Rattle.lines.specs.Words.{version_line, hash, ok_word, not_ok_word, plan_word}
use Rattle.lines.specs.Line.{line_of, plan_after}
use Rattle.lines.proofs.Tails.{first-as}
use Rattle.lines.proofs.Arms.{plan-inside}
use Rattle.lines.proofs.read.Goals as goal

pub returns-then-eq : goal.returns-then-eq
unfolding line_of
returns-then-eq c =
    let e1 = same-as c.args.line.now version_line _ c.as_slice.ensures ∙ sym c.eq.ensures ∙ c.if-eq.true in
    (rw e1, tt)

pub returns-then-starts_with : goal.returns-then-starts_with
unfolding line_of
returns-then-starts_with c =
    let line = c.args.line.now in
    let e1 = same-as line version_line _ c.as_slice.ensures ∙ sym c.eq.ensures ∙ c.if-eq.false in
    let e2 = sym (first-as line hash (omega arith)) ∙ sym c.starts_with.ensures.value ∙ c.if-starts_with.true in
    (rw (e1, e2), tt)

pub returns-then-starts_with-2 : goal.returns-then-starts_with-2
unfolding line_of
returns-then-starts_with-2 c =
    let line = c.args.line.now in
    let e1 = same-as line version_line _ c.as_slice.ensures ∙ sym c.eq.ensures ∙ c.if-eq.false in
    let e2 = sym (first-as line hash (omega arith)) ∙ sym c.starts_with.ensures.value ∙ c.if-starts_with.false in
    let e3 = sym (starts-begins line ok_word) ∙ sym c.starts_with-2.ensures.value ∙ c.if-starts_with-2.true in
    (rw (e1, e2, e3) c.test_after.ensures.0, c.test_after.ensures.1)

pub returns-then-starts_with-3 : goal.returns-then-starts_with-3
unfolding line_of
returns-then-starts_with-3 c =
    let line = c.args.line.now in
    let e1 = same-as line version_line _ c.as_slice.ensures ∙ sym c.eq.ensures ∙ c.if-eq.false in
    let e2 = sym (first-as line hash (omega arith)) ∙ sym c.starts_with.ensures.value ∙ c.if-starts_with.false in
    let e3 = sym (starts-begins line ok_word) ∙ sym c.starts_with-2.ensures.value ∙ c.if-starts_with-2.false in
    let e4 = sym (starts-begins line not_ok_word) ∙ sym c.starts_with-3.ensures.value ∙ c.if-starts_with-3.true in
    (rw (e1, e2, e3, e4) c.test_after-then-starts_with-3.ensures.0, c.test_after-then-starts_with-3.ensures.1)

pub returns-in-Some : goal.returns-in-Some
unfolding line_of
returns-in-Some c =
    let line = c.args.line.now in
    let e1 = same-as line version_line _ c.as_slice.ensures ∙ sym c.eq.ensures ∙ c.if-eq.false in
    let e2 = sym (first-as line hash (omega arith)) ∙ sym c.starts_with.ensures.value ∙ c.if-starts_with.false in
    let e3 = sym (starts-begins line ok_word) ∙ sym c.starts_with-2.ensures.value ∙ c.if-starts_with-2.false in
    let e4 = sym (starts-begins line not_ok_word) ∙ sym c.starts_with-3.ensures.value ∙ c.if-starts_with-3.false in
    let p = c.in-Some.ensures.cases in
    let e5 = sym (strips-begins line plan_word) ∙ p.0 in
    (rw (e1, e2, e3, e4, e5) (c.plan_after.ensures ∙ ap plan_after p.1), plan-inside (length line) _ _ c.plan_after.ensures)

pub returns-in-None : goal.returns-in-None
unfolding line_of
returns-in-None c =
    let line = c.args.line.now in
    let e1 = same-as line version_line _ c.as_slice.ensures ∙ sym c.eq.ensures ∙ c.if-eq.false in
    let e2 = sym (first-as line hash (omega arith)) ∙ sym c.starts_with.ensures.value ∙ c.if-starts_with.false in
    let e3 = sym (starts-begins line ok_word) ∙ sym c.starts_with-2.ensures.value ∙ c.if-starts_with-2.false in
    let e4 = sym (starts-begins line not_ok_word) ∙ sym c.starts_with-3.ensures.value ∙ c.if-starts_with-3.false in
    let e5 = sym (strips-begins line plan_word) ∙ c.in-None.ensures.cases in
    (rw (e1, e2, e3, e4, e5), tt)
