-- `chacha20::five::rounds_five` meets its contract: after n turns both states have had n times both rounds. Assumes nothing.
use Rattle.std.proofs.Common.{◌≡◌}
use Rattle.chacha20.specs.ChaCha.{rounds}
use Rattle.chacha20.specs.Lanes.{rounds_four}
use Rattle.chacha20.proofs.five.rounds_five.Given as goal

abbrev pub invariant-loop : goal.invariant-loop
invariant-loop l = (l.s ≡ rounds_four l.counter l.initial.s) × (l.o ≡ rounds l.counter l.initial.o)
