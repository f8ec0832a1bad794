-- `text::numbers::numbers` meets its contract: i numbers are laid in, and what stands from `at` on has the others. Assumes nothing.
use Rattle.text.proofs.Fronts as fronts
use Rattle.text.proofs.numbers.numbers.Given as goal

abbrev pub invariant-loop-place : goal.invariant-loop-place
invariant-loop-place l = fronts.Got l.s l.initial.out l.out l.at l.place-index
