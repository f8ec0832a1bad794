-- `digest_sha2::functions32::ch` meets its contract: its three operations are the standard's four. Assumes nothing.
use Rattle.std.proofs.Common.{rules}
use Rattle.digest_sha2.proofs.Choose.{choose-is}
use Rattle.digest_sha2.proofs.functions32.ch.Goals as goal

pub returns : goal.returns
returns c = choose-is 32 c.args.x c.args.y c.args.z (search rules) (search rules) (search rules)
