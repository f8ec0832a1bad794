-- `sha256::rounds::last_turn` meets its contract: after i rounds of the turn the state is the one after t + i. Assumes nothing.
use Rattle.std.proofs.Common.{◌≡◌, ℕ, ◌+◌, ◌%◌, ◌≤◌, List}
use Rattle.words.specs.Bytes.{part}
use Rattle.digest_sha2.specs.Sha2.{run}
use Rattle.digest_sha2.specs.Sha256.{v256, K256}
use Rattle.digest_sha2.specs.Turns.{Reached}
use Rattle.sha256.proofs.rounds.last_turn.Given as goal

abbrev pub invariant-loop-i : goal.invariant-loop-i
invariant-loop-i l = ((l.i ≤ 16) × (l.i % 4 ≡ 0)) × ((ws z : List ℕ) (t : ℕ) → l.k ≡ part K256 t 16 → Reached v256 ws z t 0 l.fn.start l.w → l.s ≡ run v256 ws (t + l.i) z)
