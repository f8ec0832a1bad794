-- `chacha20::mix_two` meets its contract: after each turn the bytes before `at` are combined. Assumes nothing.
use Rattle.std.proofs.Common.{◌≡◌, ◌+◌, ◌/◌, ◌%◌, ◌^◌, length, min}
use Rattle.chacha20.specs.ChaCha.{blocks}
use Rattle.chacha20.proofs.Cipher.{mixed}
use Rattle.chacha20.proofs.mix_two.Given as goal

abbrev pub invariant-loop-at : goal.invariant-loop-at
invariant-loop-at l =
    ((l.at % 64 ≡ 0) × (l.next ≡ (l.n + l.at / 64) % 2 ^ 32))
    × (l.part ≡ mixed l.initial.part (blocks l.key l.nonce l.n 5) (min l.at (length l.initial.part)))
