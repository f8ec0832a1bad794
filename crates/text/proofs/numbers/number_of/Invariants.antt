-- `text::numbers::number_of` meets its contract: after i digits of value v, what stands from there on decides. Assumes nothing.
use Rattle.text.proofs.Fronts as fronts
use Rattle.text.proofs.numbers.number_of.Given as goal

abbrev pub invariant-loop-i : goal.invariant-loop-i
invariant-loop-i l = fronts.Read l.s l.i l.v
