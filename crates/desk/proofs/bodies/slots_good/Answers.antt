-- `desk::bodies::slots_good` meets its contract: the first i slots are good, and `last` is the id of the last of them. Assumes nothing.
use Prim.Native.Nat.{◌+◌, ◌≤◌}
use mathlib.Core.Path.{refl, sym, ◌∙◌}
use native.Mathlib.Numerals.{add-one}
use borrow.Author.Rules.{rules}
use Rattle.words.proofs.Tests.{all_none, all_more, all-fails}
use Rattle.slots.specs.Slots.{slot_by}
use Rattle.desk.specs.Layout.{slot_at}
use Rattle.desk.proofs.Lengths.{slot_step}
use Rattle.desk.proofs.bodies.slots_good.Goals as goal

pub loop-i-init : goal.loop-i-init
loop-i-init c = (refl, all_none _)

pub slot_good-requires : goal.slot_good-requires
slot_good-requires c =
    let step : let a = c.args in slot_at a.h c.loop-i.i + slot_by a.h.r ≤ slot_at a.h a.count = let a = c.args in slot_step a.h c.loop-i.i a.count c.loop-i-test.true in
    let k = step in search rules

pub returns-then-not-slot_good : goal.returns-then-not-slot_good
returns-then-not-slot_good c =
    let l = c.loop-i in
    sym (all-fails _ _ l.i c.loop-i-test.true (rw (← l.invariant.0) (sym c.slot_good.ensures ∙ c.if-not-slot_good.true)))

pub get16-requires : goal.get16-requires
get16-requires c =
    let step : let a = c.args in slot_at a.h c.loop-i.i + slot_by a.h.r ≤ slot_at a.h a.count = let a = c.args in slot_step a.h c.loop-i.i a.count c.loop-i-test.true in
    let k = step in search rules

pub loop-i-preserved : goal.loop-i-preserved
loop-i-preserved c =
    let l = c.loop-i in (
      c.from-last.ensures ∙ rw (add-one, ← c.slot_at.ensures) c.get16.ensures,
      all_more _ _ l.invariant.1 (rw (← l.invariant.0) (sym c.slot_good.ensures ∙ c.if-not-slot_good.false)),
    )
