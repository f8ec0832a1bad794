-- `words::copy` meets its contract: after i turns the first i bytes of the source are laid in. Assumes nothing.
use mathlib.Core.Path.{◌≡◌}
use lib.ListN.{length, take}
use Rattle.words.specs.Bytes.{splice}
use Rattle.words.proofs.copy.Given as goal

abbrev pub invariant-loop-i : goal.invariant-loop-i
invariant-loop-i l = (length l.dst ≡ length l.initial.dst) × (l.dst ≡ splice l.initial.dst l.at (take l.i l.src))
