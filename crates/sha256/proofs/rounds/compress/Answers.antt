-- `sha256::rounds::compress` meets its contract: words of the block, rounds, sums. Assumes nothing.
use Rattle.digest_sha2.specs.Sha256.{v256}
use Rattle.digest_sha2.proofs.Rounds.{compress-is}
use Rattle.sha256.proofs.rounds.compress.Goals as goal

pub returns : goal.returns
returns c =
    let a = c.args in
    compress-is v256 a.s a.b.now c.load-w.result c.rounds.result c.add_all.result c.load-w.ensures c.rounds.ensures c.add_all.ensures
