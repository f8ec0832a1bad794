-- `digest_sha2::constants256::initial` meets its contract: the eight words are computed to be the standard's. Assumes nothing.
use Rattle.std.proofs.Common.{refl}
use Rattle.digest_sha2.specs.Sha256.{H256}
use Rattle.digest_sha2.proofs.constants256.initial.Goals as goal

pub returns : goal.returns
unfolding H256
returns c = refl
