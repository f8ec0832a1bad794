-- `placing::bank::Plan::lay` meets its contract: before each turn, laying from k on what is left gives the whole. Assumes nothing.
use Prim.Native.Nat.{◌+◌, ◌*◌}
use mathlib.Core.Path.{◌≡◌}
use lib.ListN.{length}
use Rattle.words.specs.Bytes.{splice}
use Rattle.sizes.specs.Sizes.{slot_len}
use Rattle.slots.specs.Slots.{slots_bytes}
use Rattle.placing.specs.Walk.{pick}
use Rattle.placing.specs.Bank.{blocks_at, Inside}
use Rattle.placing.proofs.bank.Plan.lay.Given as goal

abbrev pub invariant-loop-place : goal.invariant-loop-place
invariant-loop-place l =
    Inside l.self.bank.now l.place-iterator.a.rest.now
    × (l.k + slot_len * length (pick l.h l.place-iterator.b.rest.now (blocks_at l.self.bank.now l.place-iterator.a.rest.now)) ≡ l.a + slot_len * length (pick l.h l.self.at.now (blocks_at l.self.bank.now l.self.places.now)))
    × (splice l.dst l.k (slots_bytes (pick l.h l.place-iterator.b.rest.now (blocks_at l.self.bank.now l.place-iterator.a.rest.now))) ≡ splice l.initial.dst l.a (slots_bytes (pick l.h l.self.at.now (blocks_at l.self.bank.now l.self.places.now))))
