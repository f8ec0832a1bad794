-- `text::numbers::number_of` meets its contract: after i digits of value v, what stands from there on decides. Assumes nothing.
use mathlib.Core.Path.{◌≡◌, sym, ap, ◌∙◌}
use native.Mathlib.Omega.{arith}
use lib.ListN.{length, drop_of_length-le}
use Rattle.text.specs.Fronts.{digits, number_by}
use Rattle.text.proofs.Fronts as fronts
use Rattle.text.proofs.numbers.number_of.Goals as goal

pub returns-then-not-is_ascii_digit : goal.returns-then-not-is_ascii_digit
returns-then-not-is_ascii_digit c =
    let l = c.loop-i in
    let s = c.args.s.now in
    c.number_by.ensures ∙ fronts.read-end s l.i l.v l.invariant (fronts.digits-stop s l.i c.loop-i-test.true (sym c.is_ascii_digit.ensures.value ∙ c.if-not-is_ascii_digit.true))

pub returns-then-i-eq-MOST_DIGITS : goal.returns-then-i-eq-MOST_DIGITS
returns-then-i-eq-MOST_DIGITS c =
    let l = c.loop-i in
    let s = c.args.s.now in
    fronts.read-long s l.i l.v l.invariant c.loop-i-test.true c.if-i-eq-MOST_DIGITS.true (sym c.is_ascii_digit.ensures.value ∙ c.if-not-is_ascii_digit.false)

pub loop-i-preserved : goal.loop-i-preserved
loop-i-preserved c =
    let l = c.loop-i in
    let s = c.args.s.now in
    let e = sym c.is_ascii_digit.ensures.value ∙ c.if-not-is_ascii_digit.false in
    rw c.from.ensures (fronts.read_more s l.i l.v l.invariant c.loop-i-test.true (omega arith) e)

pub returns : goal.returns
returns c =
    let l = c.loop-i in
    let s = c.args.s.now in
    let n : length s ≡ l.i = omega arith in
    c.number_by-2.ensures ∙ ap (λ m. number_by m l.v) n ∙ fronts.read-end s l.i l.v l.invariant (ap digits (drop_of_length-le s {i = l.i} (omega arith)) ∙ fronts.digits-none)
