-- `lines::fronts::count` meets its contract: after `length` digits of the value so far, what stands from there on decides. Assumes nothing.
use mathlib.Core.Path.{◌≡◌, sym, ap, ◌∙◌}
use native.Mathlib.Omega.{arith}
use lib.ListN.{length, drop_of_length-le}
use Rattle.text.specs.Fronts.{digits}
use Rattle.text.proofs.Fronts.{digits-stop, digits-none}
use Rattle.lines.specs.Line.{count}
use Rattle.lines.proofs.Digits as laws
use Rattle.lines.proofs.fronts.count.Goals as goal

pub returns-then-not-is_ascii_digit : goal.returns-then-not-is_ascii_digit
returns-then-not-is_ascii_digit c =
    let l = c.loop-length in
    let s = c.args.s.now in
    let e = digits-stop s l.length c.loop-length-test.true (sym c.is_ascii_digit.ensures.value ∙ c.if-not-is_ascii_digit.true) in
    (laws.end s l.length l.value l.invariant e, l.invariant.inside)

pub loop-length-preserved : goal.loop-length-preserved
loop-length-preserved c =
    let l = c.loop-length in
    let s = c.args.s.now in
    let e = sym c.is_ascii_digit.ensures.value ∙ c.if-not-is_ascii_digit.false in
    rw (c.min-value.ensures, c.from.ensures, laws.capped-min) (laws.turn s l.length l.value l.invariant c.loop-length-test.true e)

pub returns : goal.returns
returns c =
    let l = c.loop-length in
    let s = c.args.s.now in
    let n : l.length ≡ length s = omega arith in
    (ap (count l.value) (sym n) ∙ laws.end s l.length l.value l.invariant (ap digits (drop_of_length-le s {i = l.length} (omega arith)) ∙ digits-none), omega arith)
