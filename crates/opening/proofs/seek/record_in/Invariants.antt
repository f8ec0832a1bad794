-- `opening::seek::record_in` meets its contract: before each turn, what is looked up is in the slots that are left. Assumes nothing.
use Prim.Native.Nat.{◌≤◌, ◌*◌}
use mathlib.Core.Path.{◌≡◌}
use lib.ListN.{length}
use Rattle.sizes.specs.Sizes.{slot_len}
use Rattle.slots.specs.Slots.{blocks_of}
use Rattle.opening.specs.Opening.{lookup}
use Rattle.opening.proofs.seek.record_in.Given as goal

abbrev pub invariant-loop-slot : goal.invariant-loop-slot
invariant-loop-slot l =
    (l.slot-iterator.iter.size ≡ slot_len) × (slot_len * l.slot-iterator.n ≤ length l.slot-iterator.iter.rest.now)
    × (lookup l.id (blocks_of l.n l.slots) ≡ lookup l.id (blocks_of l.slot-iterator.n l.slot-iterator.iter.rest.now))
