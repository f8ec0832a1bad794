-- `gathering::take_others` meets its contract: before each turn, taking from slot k on what is left gives the whole. Assumes nothing.
use Prim.Native.Nat.{◌+◌, ◌*◌}
use mathlib.Core.Path.{◌≡◌, sym, ap, ◌∙◌}
use native.Mathlib.Omega.{arith}
use lib.ListN.{length}
use Rattle.sizes.specs.Sizes.{record_len, slot_len}
use Rattle.slots.specs.Slots.{block_by, blocks_of}
use Rattle.placing.proofs.Laid.{slot-fits, rest-bytes, rest-long, slots-over, laid-turn, slots-none}
use Rattle.gathering.specs.Gathering.{others}
use Rattle.gathering.proofs.Taken.{take-hit, take-miss, take-end}
use Rattle.gathering.proofs.take_others.Goals as goal

pub loop-slot-preserved-then-x-id : goal.loop-slot-preserved-then-x-id
loop-slot-preserved-then-x-id c =
    let l = c.loop-slot in
    let s = l.slot-iterator in
    let t = c.next.new.self in
    let xs = s.iter.rest.now in
    let slot = c.in-Some.slot.now in
    let rest = t.iter.rest.now in
    let e = c.in-Some.ensures.steps in
    let cut = e.0.1.0 in
    let long : length slot ≡ slot_len = omega (arith, e.0.1.1, l.invariant.0.0) in
    let hit = take-hit c.args.id c.get16-x.result xs slot rest cut long s.n t.n e.1 c.get16-x.ensures c.if-x-id.true in
    let k : slot_len * l.k + slot_len ≡ slot_len * (l.k + 1) = omega arith in
    let w = laid-turn l.bank c.copy_slot.new.dst _ (slot_len * l.k) (block_by record_len slot) (others c.args.id (blocks_of s.n xs)) (others c.args.id (blocks_of t.n rest)) hit
    (slot-fits xs slot rest cut long l.invariant.0.1) (omega arith) c.copy_slot.ensures l.invariant.4 in (
      (cc, rest-bytes xs slot rest cut long l.invariant.0.1),
      rest-long xs slot rest cut long s.n t.n e.1 l.invariant.1,
      omega arith,
      omega (arith, ap length hit, l.invariant.3),
      rw k at w,
    )

pub loop-slot-preserved : goal.loop-slot-preserved
loop-slot-preserved c =
    let l = c.loop-slot in
    let s = l.slot-iterator in
    let t = c.next.new.self in
    let xs = s.iter.rest.now in
    let slot = c.in-Some.slot.now in
    let rest = t.iter.rest.now in
    let e = c.in-Some.ensures.steps in
    let cut = e.0.1.0 in
    let long : length slot ≡ slot_len = omega (arith, e.0.1.1, l.invariant.0.0) in
    let miss = take-miss c.args.id c.get16-x.result xs slot rest cut long s.n t.n e.1 c.get16-x.ensures c.if-x-id.false in (
      (cc, rest-bytes xs slot rest cut long l.invariant.0.1),
      rest-long xs slot rest cut long s.n t.n e.1 l.invariant.1,
      omega arith,
      rw (← miss) l.invariant.3,
      rw (← miss) l.invariant.4,
    )

pub returns-clause-value : goal.returns-clause-value
returns-clause-value c =
    let l = c.loop-slot in
    let s = l.slot-iterator in
    let none = take-end c.args.id s.iter.rest.now s.n (slots-over s.n s.iter.rest.now l.invariant.1 (λ p. omega (arith, (c.in-None.ensures.steps p).1.0, l.invariant.0.0))) in
    (omega (arith, ap length none, l.invariant.3), omega arith)

pub returns-clause-bank_after : goal.returns-clause-bank_after
returns-clause-bank_after c =
    let l = c.loop-slot in
    let s = l.slot-iterator in
    let none = take-end c.args.id s.iter.rest.now s.n (slots-over s.n s.iter.rest.now l.invariant.1 (λ p. omega (arith, (c.in-None.ensures.steps p).1.0, l.invariant.0.0))) in
    sym (slots-none l.bank (slot_len * l.k) _ none) ∙ l.invariant.4
