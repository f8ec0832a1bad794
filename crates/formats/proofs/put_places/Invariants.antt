-- `formats::put_places` meets its contract: after i turns the first i places are written. Assumes nothing.
use mathlib.Core.Path.{◌≡◌}
use lib.ListN.{length, take}
use Rattle.words.specs.Bytes.{splice}
use Rattle.formats.specs.Format.{unmarked}
use Rattle.formats.proofs.put_places.Given as goal

abbrev pub invariant-loop-i : goal.invariant-loop-i
invariant-loop-i l = (length l.dst ≡ length l.initial.dst) × (l.dst ≡ splice l.initial.dst l.at (unmarked (take l.i l.leaves)))
