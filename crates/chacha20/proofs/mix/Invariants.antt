-- `chacha20::mix` meets its contract: after i turns the first i bytes are combined. Assumes nothing.
use Rattle.std.proofs.Common.{◌≡◌}
use lib.Bits.{bit_xor}
use Rattle.chacha20.specs.ChaCha.{zipped}
use Rattle.chacha20.proofs.Front.{front}
use Rattle.chacha20.proofs.mix.Given as goal

abbrev pub invariant-loop-i : goal.invariant-loop-i
invariant-loop-i l = l.part ≡ front l.i (zipped bit_xor l.initial.part l.ks) l.initial.part
