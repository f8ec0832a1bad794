-- `sha256::rounds::rounds` meets its contract: after each turn as many rows of constants are used, and the words in hand are the next turn's.
-- Assumes nothing.
use Rattle.std.proofs.Common.{◌≡◌, ◌*◌, length}
use Rattle.digest_sha2.specs.Sha2.{extend}
use Rattle.digest_sha2.specs.Sha256.{v256}
use Rattle.digest_sha2.specs.Turns.{Reached}
use Rattle.sha256.proofs.rounds.rounds.Given as goal

abbrev pub invariant-loop-row : goal.invariant-loop-row
invariant-loop-row l = (length l.w ≡ 16) × Reached v256 (extend v256 48 l.initial.w) l.fn.start (16 * l.row) 0 l.s l.w
