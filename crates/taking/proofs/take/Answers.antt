-- `taking::take` meets its contract: at each turn, what is left to do comes to what the whole text is. Assumes nothing.
use Prim.Native.Nat.{◌+◌, ◌<◌}
use mathlib.Core.Path.{◌≡◌, sym, ap, ◌∙◌}
use native.Mathlib.Omega.{arith}
use borrow.Author.Tests.{eqb-true, eqb-false}
use lib.ListN.{length}
use Rattle.std.proofs.lemmas.Grind.{common_steps}
use Rattle.std.specs.Prelude.{Result, Ok, Err, MatchResult}
use Rattle.taking.specs.declared.BadText.{BadText}
use Rattle.taking.specs.Taking.{took, in_line}
use Rattle.taking.proofs.Turns.{line_taken, text_refused, no_more}
use Rattle.taking.proofs.take.Goals as goal

pub returns-in_err-planned : goal.returns-in_err-planned
returns-in_err-planned c =
    let l = c.loop-rest in
    let a = c.args in
    let low : 0 < length l.rest.now = let z = eqb-false (length l.rest.now) 0 (sym c.is_empty.ensures ∙ c.loop-rest-test.true) in omega arith in
    let m : MatchResult c.take_line.result (λ y. c.map_err.result ≡ Ok y) (λ t. c.map_err.result ≡ Err (in_line t (l.before + 1))) = grind (arith, common_steps) in
    let r : c.from_residual.result ≡ Err c.in_err-planned.field-0.0 = grind (arith, common_steps) in
    text_refused a.chapter a.year a.n a.text.now _ l.rest.now l.before l.planned l.sheet l.invariant.0 low c.before-end.result c.before-end.ensures.0 c.take_line.result c.take_line.ensures m c.in_err-planned.was r

pub loop-rest-preserved : goal.loop-rest-preserved
loop-rest-preserved c =
    let l = c.loop-rest in
    let a = c.args in
    let low : 0 < length l.rest.now = let z = eqb-false (length l.rest.now) 0 (sym c.is_empty.ensures ∙ c.loop-rest-test.true) in omega arith in
    let t : c.take_line.result ≡ Ok c.in_ok-planned.planned = grind (arith, common_steps) in
    (line_taken a.chapter a.year a.n a.text.now _ l.rest.now l.before l.planned l.sheet l.invariant.0 low c.before-end.result c.before-end.ensures.0 c.take_line.ensures t c.min.result c.min.ensures, c.take_line.auto.sheet ∙ l.invariant.1)

pub returns : goal.returns
returns c =
    let a = c.args in
    let l = c.loop-rest in
    let z : length l.rest.now ≡ 0 = eqb-true (length l.rest.now) 0 (sym c.is_empty.ensures ∙ c.loop-rest-test.false) in
    ap (λ (x : Result (Unit {0}) BadText). took x l.sheet) c.at_end.ensures ∙ no_more a.chapter a.year a.n a.text.now _ l.rest.now l.before l.planned l.sheet l.invariant.0 z
