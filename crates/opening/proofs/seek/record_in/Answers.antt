-- `opening::seek::record_in` meets its contract: before each turn, what is looked up is in the slots that are left. Assumes nothing.
use Prim.Native.Nat.{◌-◌}
use mathlib.Core.Path.{◌≡◌, sym, ◌∙◌}
use native.Mathlib.Omega.{arith}
use lib.ListN.{length}
use Rattle.words.proofs.Splice.{length_part}
use Rattle.sizes.specs.Sizes.{slot_head, slot_len, record_len}
use Rattle.placing.proofs.Laid.{rest-long, slots-over}
use Rattle.opening.proofs.Found.{lookup-hit, lookup-miss, lookup-end}
use Rattle.opening.proofs.seek.record_in.Goals as goal

pub returns-then-from-id : goal.returns-then-from-id
returns-then-from-id c =
    let l = c.loop-slot in
    let s = l.slot-iterator in
    let t = c.next.new.self in
    let slot = c.in-Some.slot.now in
    let e = c.in-Some.ensures.steps in
    let long : length slot ≡ slot_len = omega (arith, e.0.1.1, l.invariant.0) in
    let m : length slot - slot_head ≡ record_len = omega arith in
    let hit = lookup-hit c.args.id s.iter.rest.now slot t.iter.rest.now e.0.1.0 long s.n t.n e.1 (sym (c.from.ensures ∙ c.get16.ensures) ∙ c.if-from-id.true) in
    rw m (sym (l.invariant.2 ∙ hit), length_part slot slot_head record_len (omega arith))

pub loop-slot-preserved : goal.loop-slot-preserved
loop-slot-preserved c =
    let l = c.loop-slot in
    let s = l.slot-iterator in
    let t = c.next.new.self in
    let slot = c.in-Some.slot.now in
    let e = c.in-Some.ensures.steps in
    let long : length slot ≡ slot_len = omega (arith, e.0.1.1, l.invariant.0) in (
      cc,
      rest-long s.iter.rest.now slot t.iter.rest.now e.0.1.0 long s.n t.n e.1 l.invariant.1,
      l.invariant.2 ∙ lookup-miss c.args.id s.iter.rest.now slot t.iter.rest.now e.0.1.0 long s.n t.n e.1 (λ f. c.if-from-id.false (c.from.ensures ∙ c.get16.ensures ∙ f)),
    )

pub returns : goal.returns
returns c =
    let l = c.loop-slot in
    let s = l.slot-iterator in
    l.invariant.2 ∙ lookup-end c.args.id s.iter.rest.now s.n (slots-over s.n s.iter.rest.now l.invariant.1 (λ p. omega (arith, (c.in-None.ensures.steps p).1.0, l.invariant.0)))
