-- `opening::table::ids_seen` meets its contract: the ids of the slots before those that are left are met. Assumes nothing.
use mathlib.Core.Path.{◌≡◌, refl, sym, ap, subst, ◌∙◌}
use mathlib.Core.List.{List, [], ◌++◌, append-nil}
use native.Mathlib.Omega.{arith}
use lib.ListN.{length}
use Rattle.sizes.specs.Sizes.{slot_len}
use Rattle.slots.specs.Slots.{Block, blocks_of}
use Rattle.placing.proofs.Laid.{rest-long, slots-over, no-slots}
use Rattle.opening.specs.Walk.{Seen}
use Rattle.opening.proofs.Seen.{seen_none, small-here, small-rest, seen-next}
use Rattle.opening.proofs.table.ids_seen.Goals as goal

pub loop-slot-init : goal.loop-slot-init
loop-slot-init c =
    let s = c.into_iter-slot-iterator.result in
    let xs : s.iter.rest.now ≡ c.args.slots.now = cc in
    let n : s.n ≡ c.args.n = cc in
    let size : s.iter.size ≡ slot_len = cc in
    rw (xs, n) ((size, c.requires.n_in_bounds), c.requires.by_index, ([], refl, seen_none))

pub bounds-seen-id : goal.bounds-seen-id
bounds-seen-id c =
    let l = c.loop-slot in
    let s = l.slot-iterator in
    let t = c.next.new.self in
    let slot = c.in-Some.slot.now in
    let e = c.in-Some.ensures.steps in
    let long : length slot ≡ slot_len = omega (arith, e.0.1.1, l.invariant.0.0) in
    let small = small-here s.iter.rest.now slot t.iter.rest.now e.0.1.0 long s.n t.n e.1 l.invariant.1 in
    omega (arith, small, c.from-id.ensures, c.get16.ensures, l.invariant.2.2.size)

pub loop-slot-preserved : goal.loop-slot-preserved
loop-slot-preserved c =
    let l = c.loop-slot in
    let s = l.slot-iterator in
    let t = c.next.new.self in
    let xs = s.iter.rest.now in
    let rest = t.iter.rest.now in
    let slot = c.in-Some.slot.now in
    let e = c.in-Some.ensures.steps in
    let long : length slot ≡ slot_len = omega (arith, e.0.1.1, l.invariant.0.0) in
    let small = small-here xs slot rest e.0.1.0 long s.n t.n e.1 l.invariant.1 in (
      (cc, rest-long xs slot rest e.0.1.0 long s.n t.n e.1 l.invariant.0.1),
      small-rest xs slot rest e.0.1.0 long s.n t.n e.1 l.invariant.1,
      seen-next xs slot rest e.0.1.0 long s.n t.n e.1 (blocks_of c.args.n c.args.slots.now) l.invariant.2.0 l.seen c.from-id.result (c.from-id.ensures ∙ c.get16.ensures) small
          l.invariant.2.1 l.invariant.2.2,
    )

pub returns : goal.returns
returns c =
    let l = c.loop-slot in
    let s = l.slot-iterator in
    let over = slots-over s.n s.iter.rest.now l.invariant.0.1 (λ p. omega (arith, (c.in-None.ensures.steps p).1.0, l.invariant.0.0)) in
    let met = l.invariant.2.0 in
    let e : met ≡ blocks_of c.args.n c.args.slots.now = sym (append-nil met) ∙ ap (λ (bs : List Block). met ++ bs) (sym (no-slots s.iter.rest.now s.n over)) ∙ l.invariant.2.1 in
    subst (Seen l.seen) e l.invariant.2.2
