-- `sha256::rounds::step` meets its contract: it is one round more. Assumes nothing.
use Rattle.digest_sha2.specs.Sha256.{v256}
use Rattle.digest_sha2.proofs.Rounds.{run_more}
use Rattle.sha256.proofs.rounds.step.Goals as goal

pub returns : goal.returns
returns c =
    let a = c.args in
    λ ws s₀ t k e p. run_more v256 a.k.now a.w.now ws s₀ a.s c.round.result t a.i c.requires.i_bound c.round.ensures k e p
