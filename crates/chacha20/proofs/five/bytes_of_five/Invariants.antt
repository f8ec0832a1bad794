-- `chacha20::five::bytes_of_five` meets its contract: after k turns the bytes of the first k blocks stand in front. Assumes nothing.
use Rattle.std.proofs.Common.{◌≡◌}
use Rattle.words.specs.Bytes.{splice}
use Rattle.chacha20.proofs.Serial.{laid}
use Rattle.chacha20.proofs.five.bytes_of_five.Given as goal

abbrev pub invariant-loop-k : goal.invariant-loop-k
invariant-loop-k l = l.out ≡ splice l.initial.out 0 (laid l.k l.u)
