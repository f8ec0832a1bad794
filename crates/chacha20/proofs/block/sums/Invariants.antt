-- `chacha20::block::sums` meets its contract: after i turns the first i words are added. Assumes nothing.
use Rattle.std.proofs.Common.{◌≡◌}
use Rattle.chacha20.specs.ChaCha.{add32, zipped}
use Rattle.chacha20.proofs.Front.{front}
use Rattle.chacha20.proofs.block.sums.Given as goal

abbrev pub invariant-loop-i : goal.invariant-loop-i
invariant-loop-i l = l.s ≡ front l.i (zipped add32 l.initial.s l.t) l.initial.s
