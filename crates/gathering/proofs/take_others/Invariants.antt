-- `gathering::take_others` meets its contract: before each turn, taking from slot k on what is left gives the whole. Assumes nothing.
use Prim.Native.Nat.{◌≤◌, ◌+◌, ◌*◌}
use mathlib.Core.Path.{◌≡◌}
use lib.ListN.{length}
use Rattle.words.specs.Bytes.{splice}
use Rattle.sizes.specs.Sizes.{slot_len}
use Rattle.slots.specs.Slots.{blocks_of, slots_bytes, Bytes}
use Rattle.gathering.specs.Gathering.{others}
use Rattle.gathering.proofs.take_others.Given as goal

abbrev pub invariant-loop-slot : goal.invariant-loop-slot
invariant-loop-slot l =
    ((l.slot-iterator.iter.size ≡ slot_len) × Bytes l.slot-iterator.iter.rest.now) × (slot_len * l.slot-iterator.n ≤ length l.slot-iterator.iter.rest.now)
    × (l.k + l.slot-iterator.n ≤ l.m + l.z)
    × (l.k + length (others l.id (blocks_of l.slot-iterator.n l.slot-iterator.iter.rest.now)) ≡ l.m + length (others l.id (blocks_of l.z l.slots)))
    × (splice l.bank (slot_len * l.k) (slots_bytes (others l.id (blocks_of l.slot-iterator.n l.slot-iterator.iter.rest.now))) ≡ splice l.initial.bank (slot_len * l.m) (slots_bytes (others l.id (blocks_of l.z l.slots))))
