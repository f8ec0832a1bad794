-- `desk::positions::none_above` meets its contract: what was found of the first pairs is their test. Assumes nothing.
use mathlib.Core.Path.{◌≡◌}
use lib.ListN.{length, get_or}
use lib.Dec.{leb}
use Rattle.words.specs.Tests.{all}
use Rattle.desk.proofs.positions.none_above.Given as goal

abbrev pub invariant-loop-byte : goal.invariant-loop-byte
invariant-loop-byte l = l.good ≡ all (length l.yielded) (λ k. leb (get_or l.d k 0) (get_or l.top k 0))
