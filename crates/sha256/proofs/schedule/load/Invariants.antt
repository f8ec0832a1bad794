-- `sha256::schedule::load` meets its contract: after t turns the first t words are the block's. Assumes nothing.
use Rattle.std.proofs.Common.{◌≡◌, take}
use Rattle.digest_sha2.specs.Sha2.{words_of}
use Rattle.sha256.proofs.schedule.load.Given as goal

abbrev pub invariant-loop-t : goal.invariant-loop-t
invariant-loop-t l = take l.t l.x-items ≡ words_of 4 l.t l.b
