-- `chacha20::block::rounds` meets its contract: after n turns it is n times both rounds. Assumes nothing.
use Rattle.std.proofs.Common.{◌≡◌}
use Rattle.chacha20.specs.ChaCha.{rounds}
use Rattle.chacha20.proofs.block.rounds.Given as goal

abbrev pub invariant-loop : goal.invariant-loop
invariant-loop l = l.s ≡ rounds l.counter l.initial.s
