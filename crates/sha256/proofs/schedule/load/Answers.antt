-- `sha256::schedule::load` meets its contract: after t turns the first t words are the block's. Assumes nothing.
use Rattle.std.proofs.Common.{refl, arith}
use Rattle.digest_sha2.specs.Sha2.{words_of}
use Rattle.digest_sha2.proofs.Schedule.{words_more}
use Rattle.sha256.proofs.schedule.load.Goals as goal

pub loop-t-init : goal.loop-t-init
unfolding words_of
loop-t-init c = refl

pub loop-t-preserved : goal.loop-t-preserved
loop-t-preserved c =
    let l = c.loop-t in
    words_more 4 c.args.b.now l.x-items l.t c.get_big32.result (omega arith) l.invariant c.get_big32.ensures
