-- `sha256::Hasher::new` meets its contract: no block, no byte. Assumes nothing.
use Rattle.std.proofs.Common.{refl}
use Rattle.digest_sha2.specs.Sha2.{after}
use Rattle.sha256.proofs.stream.Hasher.new.Goals as goal

pub returns : goal.returns
unfolding after
returns c = record { hash = c.initial.ensures; left = refl; count = refl }
