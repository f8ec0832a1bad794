-- `desk::positions::places_good` meets its contract: the first i places are good; forty-eight more that are low, or one more, keeps that; the first other one decides. Assumes nothing.
use mathlib.Core.Path.{sym, ◌∙◌}
use borrow.Author.Rules.{rules}
use Rattle.words.proofs.Tests.{all_none, all_more, all-fails, all_end}
use Rattle.desk.specs.Good.{places_good}
use Rattle.desk.proofs.Together.{more-good}
use Rattle.desk.proofs.positions.places_good.Goals as goal

pub loop-i-init : goal.loop-i-init
loop-i-init c = (search rules, all_none _)

pub loop-i-preserved-then-low : goal.loop-i-preserved-then-low
loop-i-preserved-then-low c =
    let l = c.low.ensures c.if-low.true in
    (l.0, more-good _ _ _ _ c.highest-top.ensures l.1 c.loop-i.invariant.1)

pub returns-then-not-place_good : goal.returns-then-not-place_good
unfolding places_good
returns-then-not-place_good c = sym (all-fails _ _ _ c.loop-i-test.true (sym c.place_good.ensures ∙ c.if-not-place_good.true))

pub loop-i-preserved : goal.loop-i-preserved
loop-i-preserved c = (search rules, all_more _ _ c.loop-i.invariant.1 (sym c.place_good.ensures ∙ c.if-not-place_good.false))

pub returns : goal.returns
unfolding places_good
returns c = sym (all_end _ _ _ c.loop-i.invariant.0 c.loop-i-test.false c.loop-i.invariant.1)
