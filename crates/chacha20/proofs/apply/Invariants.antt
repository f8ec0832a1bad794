-- `chacha20::apply` meets its contract: after each turn the bytes before `at` are enciphered. Assumes nothing.
use Rattle.std.proofs.Common.{◌≡◌, ◌/◌, ◌%◌, ◌^◌, length, min}
use Rattle.chacha20.proofs.Cipher.{ciphered}
use Rattle.chacha20.proofs.apply.Given as goal

abbrev pub invariant-loop-at : goal.invariant-loop-at
invariant-loop-at l =
    ((l.at % 64 ≡ 0) × (l.n % 2 ^ 32 ≡ l.at / 64 % 2 ^ 32))
    × (l.text ≡ ciphered l.key l.nonce l.initial.text (min l.at (length l.initial.text)))
