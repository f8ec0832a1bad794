-- `desk::bodies::slots_good` meets its contract: the first i slots are good, and `last` is the id of the last of them. Assumes nothing.
use mathlib.Core.Path.{◌≡◌}
use mathlib.Core.Bool.{true}
use Rattle.words.specs.Tests.{all}
use Rattle.desk.specs.Good.{id_before, slot_good}
use Rattle.desk.proofs.bodies.slots_good.Given as goal

abbrev pub invariant-loop-i : goal.invariant-loop-i
invariant-loop-i l = (l.last ≡ id_before l.h l.e l.i) × (all l.i (slot_good l.h l.d l.e) ≡ true)
