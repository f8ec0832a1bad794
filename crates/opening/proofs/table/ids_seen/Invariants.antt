-- `opening::table::ids_seen` meets its contract: the ids of the slots before those that are left are met. Assumes nothing.
use Prim.Native.Nat.{ℕ, ◌<◌, ◌≤◌, ◌*◌}
use mathlib.Core.Path.{◌≡◌}
use mathlib.Core.List.{List, ◌++◌}
use lib.ListN.{length}
use Rattle.words.specs.Numbers.{number}
use Rattle.sizes.specs.Sizes.{most_ids, slot_len}
use Rattle.slots.specs.Slots.{Block, blocks_of}
use Rattle.opening.specs.Walk.{Seen}
use Rattle.opening.proofs.table.ids_seen.Given as goal

abbrev pub invariant-loop-slot : goal.invariant-loop-slot
invariant-loop-slot l =
    ((l.slot-iterator.iter.size ≡ slot_len) × (slot_len * l.slot-iterator.n ≤ length l.slot-iterator.iter.rest.now))
    × ((i : ℕ) → i < l.slot-iterator.n → number 2 l.slot-iterator.iter.rest.now (slot_len * i) ≤ most_ids)
    × ((met : List Block) × (met ++ blocks_of l.slot-iterator.n l.slot-iterator.iter.rest.now ≡ blocks_of l.n l.slots) × Seen l.seen met)
