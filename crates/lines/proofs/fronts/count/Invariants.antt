-- `lines::fronts::count` meets its contract: after `length` digits of the value so far, what stands from there on decides. Assumes nothing.
use Rattle.lines.proofs.Digits as laws
use Rattle.lines.proofs.fronts.count.Given as goal

abbrev pub invariant-loop-length : goal.invariant-loop-length
invariant-loop-length l = laws.Counted l.s l.length l.value
