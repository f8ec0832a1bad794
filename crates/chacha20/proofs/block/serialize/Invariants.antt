-- `chacha20::block::serialize` meets its contract: after w turns the first w words of the block are laid in. Assumes nothing.
use Rattle.std.proofs.Common.{◌≡◌, ◌+◌, ◌-◌, ◌*◌, ◌≤◌, length, get_or}
use Rattle.words.specs.Bytes.{splice}
use Rattle.chacha20.specs.ChaCha.{serialize}
use Rattle.chacha20.specs.Lanes.{table}
use Rattle.chacha20.proofs.block.serialize.Given as goal

abbrev pub invariant-loop-w : goal.invariant-loop-w
invariant-loop-w l = ((l.w ≤ 16) × (length l.out ≡ length l.initial.out)) × (l.out ≡ splice l.initial.out l.at (serialize (table l.w (λ j. get_or l.s (j * l.step + l.k) 0))))

abbrev pub decreases-loop-w : goal.decreases-loop-w
decreases-loop-w l = 16 - l.w
