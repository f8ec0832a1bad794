-- `lines::directives::first_directive` meets its contract: the bytes that were passed have none, and what stands from there on decides. Assumes nothing.
use Rattle.lines.proofs.Cuts as laws
use Rattle.lines.proofs.directives.first_directive.Given as goal

abbrev pub invariant-loop-at : goal.invariant-loop-at
invariant-loop-at l = laws.Passed l.s l.at
