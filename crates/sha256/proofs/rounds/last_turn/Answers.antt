-- `sha256::rounds::last_turn` meets its contract: after i rounds of the turn the state is the one after t + i. Assumes nothing.
use Rattle.std.proofs.Common.{◌≡◌, ℕ, ◌+◌, subst, arith}
use Rattle.digest_sha2.specs.Sha2.{run}
use Rattle.digest_sha2.specs.Sha256.{v256}
use Rattle.sha256.proofs.rounds.last_turn.Goals as goal

pub returns : goal.returns
returns c =
    let l = c.loop-i in
    let e : l.i ≡ 16 = omega arith in
    λ ws s₀ t k p. subst (λ (i : ℕ). l.s ≡ run v256 ws (t + i) s₀) e (l.invariant.1 ws s₀ t k p)
