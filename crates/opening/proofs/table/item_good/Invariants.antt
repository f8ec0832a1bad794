-- `opening::table::item_good` meets its contract: some slots were walked, and the rest is walked from there. Assumes nothing.
use Prim.Native.Nat.{◌≤◌, ◌*◌}
use mathlib.Core.Path.{◌≡◌}
use lib.ListN.{length}
use Rattle.sizes.specs.Sizes.{slot_len}
use Rattle.slots.specs.Slots.{blocks_of}
use Rattle.opening.proofs.Walk.{Run}
use Rattle.opening.proofs.table.item_good.Given as goal

abbrev pub invariant-loop-slot : goal.invariant-loop-slot
invariant-loop-slot l =
    (l.slot-iterator.iter.size ≡ slot_len) × (slot_len * l.slot-iterator.n ≤ length l.slot-iterator.iter.rest.now)
    × Run l.desk l.k (blocks_of l.v.sizes.slots l.slots) (blocks_of l.slot-iterator.n l.slot-iterator.iter.rest.now) l.initial.seen l.seen
