-- `gathering::take_path` meets its contract: after k turns the blocks of the first k items are in the bank. Assumes nothing.
use Prim.Native.Nat.{◌≤◌, ◌+◌, ◌*◌}
use mathlib.Core.Path.{◌≡◌}
use lib.ListN.{length}
use Rattle.words.specs.Bytes.{splice}
use Rattle.sizes.specs.Sizes.{most_slots, slot_len}
use Rattle.bags.specs.Bags.{those}
use Rattle.slots.specs.Slots.{slots_bytes}
use Rattle.gathering.specs.Gathering.{used_to, is_other}
use Rattle.gathering.proofs.take_path.Given as goal

abbrev pub invariant-loop-k : goal.invariant-loop-k
invariant-loop-k l = (l.end ≤ l.m + most_slots * l.k)
    × (l.end ≡ l.m + length (those (is_other l.id) (used_to l.s l.opened l.k)))
    × (l.bank ≡ splice l.initial.bank (slot_len * l.m) (slots_bytes (those (is_other l.id) (used_to l.s l.opened l.k))))
