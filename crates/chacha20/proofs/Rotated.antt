-- The library's rotation is the RFC's (2.1). Assumes nothing.
use Rattle.std.proofs.Common.{◌≡◌, ℕ, ◌-◌, ◌%◌, ◌<◌, ◌∙◌, arith}
use Rattle.std.specs.Int.{w32, rotate_left}
use Rattle.chacha20.specs.ChaCha.{rotl}

pub rotated-left : (x n r : ℕ) → 0 < n → n < 32 → r ≡ rotate_left w32 x n → r ≡ rotl x n
unfolding rotl
rotated-left x n r p q h =
    let e : n % 32 ≡ n = omega arith in
    let f : (32 - n) % 32 ≡ 32 - n = omega arith in
    h ∙ rw (e, f)
