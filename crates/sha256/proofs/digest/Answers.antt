-- `sha256::digest` meets its contract: all of the message is absorbed, from nothing. Assumes nothing.
use Rattle.std.proofs.Common.{[]}
use Rattle.sha256.proofs.digest.Goals as goal

pub returns : goal.returns
returns c =
    c.finish.ensures c.args.msg.now (c.absorb.ensures.holds [] c.new.ensures)
