-- `sha256::stream::Hasher::whole` meets its contract: it is the hash value after the blocks. Assumes nothing.
use Rattle.std.proofs.Common.{◌/◌, length, refl, arith}
use Rattle.sha256.proofs.Held.{grown-whole}
use Rattle.sha256.proofs.stream.Hasher.whole.Goals as goal

pub returns : goal.returns
returns c =
    let part = c.args.part.now in
    grown-whole c.args.self.now part (length part / 64) _ c.blocks-self.result c.requires.total_value (omega arith) refl c.blocks-self.ensures
