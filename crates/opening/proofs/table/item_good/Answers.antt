-- `opening::table::item_good` meets its contract: some slots were walked, and the rest is walked from there. Assumes nothing.
use mathlib.Core.Bool.{Bool}
use mathlib.Core.Path.{◌≡◌, subst}
use mathlib.Core.List.{List}
use native.Mathlib.Omega.{arith}
use lib.ListN.{length}
use Rattle.sizes.specs.Sizes.{record_len, slot_len}
use Rattle.slots.specs.Slots.{Block, block_by, blocks_of}
use Rattle.placing.proofs.Laid.{slot-next, rest-long, no-slots, slots-over}
use Rattle.opening.specs.Walk.{Looked}
use Rattle.opening.proofs.Walk.{Run, run_step, run-fails, run_end}
use Rattle.opening.proofs.table.item_good.Goals as goal

pub returns-then-not-slot_good : goal.returns-then-not-slot_good
returns-then-not-slot_good c =
    let a = c.args in
    let l = c.loop-slot in
    let s = l.slot-iterator in
    let t = c.next.new.self in
    let slot = c.in-Some.slot.now in
    let e = c.in-Some.ensures.steps in
    let all = blocks_of a.v.sizes.slots a.slots.now in
    let long : length slot ≡ slot_len = omega (arith, e.0.1.1, l.invariant.0) in
    let run = subst (λ (bs : List Block). Run a.desk.now a.k all bs a.seen.now l.seen) (slot-next s.iter.rest.now slot t.iter.rest.now e.0.1.0 long s.n t.n e.1) l.invariant.2 in
    run-fails a.desk.now a.k all (block_by record_len slot) (blocks_of t.n t.iter.rest.now) a.seen.now l.seen c.slot_good.new.seen run
    (subst (λ (r : Bool). Looked a.desk.now a.k (block_by record_len slot) l.seen c.slot_good.new.seen r) c.if-not-slot_good.true c.slot_good.ensures)

pub loop-slot-preserved : goal.loop-slot-preserved
loop-slot-preserved c =
    let a = c.args in
    let l = c.loop-slot in
    let s = l.slot-iterator in
    let t = c.next.new.self in
    let slot = c.in-Some.slot.now in
    let e = c.in-Some.ensures.steps in
    let all = blocks_of a.v.sizes.slots a.slots.now in
    let long : length slot ≡ slot_len = omega (arith, e.0.1.1, l.invariant.0) in
    let run = subst (λ (bs : List Block). Run a.desk.now a.k all bs a.seen.now l.seen) (slot-next s.iter.rest.now slot t.iter.rest.now e.0.1.0 long s.n t.n e.1) l.invariant.2 in (
      cc,
      rest-long s.iter.rest.now slot t.iter.rest.now e.0.1.0 long s.n t.n e.1 l.invariant.1,
      run_step a.desk.now a.k all (block_by record_len slot) (blocks_of t.n t.iter.rest.now) a.seen.now l.seen c.slot_good.new.seen run
          (subst (λ (r : Bool). Looked a.desk.now a.k (block_by record_len slot) l.seen c.slot_good.new.seen r) c.if-not-slot_good.false c.slot_good.ensures),
    )

pub returns : goal.returns
returns c =
    let a = c.args in
    let l = c.loop-slot in
    let s = l.slot-iterator in
    let over = slots-over s.n s.iter.rest.now l.invariant.1 (λ p. omega (arith, (c.in-None.ensures.steps p).1.0, l.invariant.0)) in
    run_end a.desk.now a.k (blocks_of a.v.sizes.slots a.slots.now) (blocks_of s.n s.iter.rest.now) a.seen.now l.seen (no-slots s.iter.rest.now s.n over) l.invariant.2
