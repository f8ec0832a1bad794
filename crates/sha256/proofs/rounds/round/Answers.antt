-- `sha256::rounds::round` meets its contract: its sums are the round's. Assumes nothing.
use Rattle.std.proofs.Common.{refl}
use Rattle.digest_sha2.specs.Sha2.{plus}
use Rattle.digest_sha2.specs.Sha256.{v256}
use Rattle.digest_sha2.proofs.Rounds.{round_is}
use Rattle.sha256.proofs.rounds.round.Goals as goal

pub returns : goal.returns
unfolding plus
returns c =
    let a = c.args in
    round_is v256 a.s a.k a.w c.big1.ensures refl c.ch.ensures refl refl refl c.big0.ensures c.maj.ensures refl refl refl
