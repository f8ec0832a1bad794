-- `placing::bank::Plan::lay` meets its contract: before each turn, laying from k on what is left gives the whole. Assumes nothing.
use Prim.Native.Nat.{ℕ, ◌+◌, ◌*◌, ◌-◌, ◌≤◌}
use mathlib.Core.Path.{◌≡◌, sym, ap, ap₂, ◌∙◌}
use mathlib.Core.List.{List, ◌∷◌}
use native.Mathlib.Omega.{arith}
use lib.ListN.{length, drop, length-take, length-drop}
use Rattle.words.specs.Bytes.{part, splice}
use Rattle.std.proofs.lemmas.Slice.Zip.{either_empty_from_Zip}
use Rattle.sizes.specs.Sizes.{record_len, slot_len}
use Rattle.slots.specs.Slots.{Block, block_by, slot_bytes}
use Rattle.slots.proofs.Blocks.{block-part}
use Rattle.placing.specs.Walk.{pick}
use Rattle.placing.specs.Bank.{block_in, blocks_at}
use Rattle.placing.proofs.Laid.{pick-hit, pick-miss, pick-end, pick-fit, inside-next, fits_in, fit_at, laid-turn, slots-none}
use Rattle.placing.proofs.bank.Plan.lay.Goals as goal

pub copy_slot-requires : goal.copy_slot-requires
copy_slot-requires c =
    let a = c.args in
    let l = c.loop-place in
    let t = c.next.new.self in
    let e = c.in-Some.ensures.steps in
    let left : List ℕ → List ℕ → List Block = λ hs ps. pick a.h hs (blocks_at a.self.bank.now ps) in
    let hit : left l.place-iterator.b.rest.now l.place-iterator.a.rest.now ≡ block_in a.self.bank.now c.in-Some.place.now ∷ left t.b.rest.now t.a.rest.now =
    ap₂ left e.1 e.0 ∙ pick-hit a.h c.in-Some.height.now c.in-Some.place.now t.b.rest.now a.self.bank.now t.a.rest.now c.if-height-h.true in
    let inside = inside-next a.self.bank.now l.place-iterator.a.rest.now t.a.rest.now c.in-Some.place.now e.0 l.invariant.0 in (
      omega (arith, ap length hit, l.invariant.1, c.requires),
      rw c.as_bytes-bank.ensures.0 (simp length-take (omega (arith, length-drop (slot_len * c.from-from.result) a.self.bank.now, inside.0, c.from-from.ensures))),
    )

pub loop-place-preserved-then-height-h : goal.loop-place-preserved-then-height-h
unfolding block_in
loop-place-preserved-then-height-h c =
    let a = c.args in
    let l = c.loop-place in
    let t = c.next.new.self in
    let e = c.in-Some.ensures.steps in
    let p = c.in-Some.place.now in
    let left : List ℕ → List ℕ → List Block = λ hs ps. pick a.h hs (blocks_at a.self.bank.now ps) in
    let hit : left l.place-iterator.b.rest.now l.place-iterator.a.rest.now ≡ block_in a.self.bank.now p ∷ left t.b.rest.now t.a.rest.now =
    ap₂ left e.1 e.0 ∙ pick-hit a.h c.in-Some.height.now p t.b.rest.now a.self.bank.now t.a.rest.now c.if-height-h.true in
    let inside = inside-next a.self.bank.now l.place-iterator.a.rest.now t.a.rest.now p e.0 l.invariant.0 in
    let room : l.k + slot_len ≤ length l.dst = omega (arith, ap length hit, l.invariant.1, c.requires) in
    let bank = a.self.bank.now in
    let from = slot_len * c.from-from.result in
    let is : block_by record_len (part bank from (length bank - from)) ≡ block_in bank p =
    block-part record_len bank from (length bank - from) (omega (arith, inside.0, c.from-from.ensures)) ∙ ap (λ (i : ℕ). block_by record_len (drop (slot_len * i) bank)) c.from-from.ensures in (
      inside.1,
      omega (arith, ap length hit, l.invariant.1),
      laid-turn l.dst c.copy_slot.new.dst _ l.k (block_in a.self.bank.now p) (left l.place-iterator.b.rest.now l.place-iterator.a.rest.now) (left t.b.rest.now t.a.rest.now) hit
          (fits_in bank p c.as_bytes-bank.ensures.1 inside.0) room ((rw c.as_bytes-bank.ensures.0 at c.copy_slot.ensures) ∙ ap (λ (b : Block). splice l.dst l.k (slot_bytes b)) is) l.invariant.2,
    )

pub loop-place-preserved : goal.loop-place-preserved
loop-place-preserved c =
    let a = c.args in
    let l = c.loop-place in
    let t = c.next.new.self in
    let e = c.in-Some.ensures.steps in
    let left : List ℕ → List ℕ → List Block = λ hs ps. pick a.h hs (blocks_at a.self.bank.now ps) in
    let miss : left l.place-iterator.b.rest.now l.place-iterator.a.rest.now ≡ left t.b.rest.now t.a.rest.now =
    ap₂ left e.1 e.0 ∙ pick-miss a.h c.in-Some.height.now c.in-Some.place.now t.b.rest.now a.self.bank.now t.a.rest.now c.if-height-h.false in
    ((inside-next a.self.bank.now l.place-iterator.a.rest.now t.a.rest.now c.in-Some.place.now e.0 l.invariant.0).1, rw (← miss) l.invariant.1, rw (← miss) l.invariant.2)

pub returns-clause-value : goal.returns-clause-value
returns-clause-value c =
    let l = c.loop-place in
    let s = l.place-iterator in
    let none = pick-end c.args.h s.b.rest.now c.args.self.bank.now s.a.rest.now (either_empty_from_Zip s c.next.new.self c.next.result c.in-None.is c.next.ensures.steps) in
    omega (arith, ap length none, l.invariant.1)

pub returns-clause-fit : goal.returns-clause-fit
returns-clause-fit c =
    let p = c.args.self in
    pick-fit c.args.h p.at.now (blocks_at p.bank.now p.places.now) (fit_at p.bank.now p.places.now c.as_bytes-bank.ensures.1 p.inside)

pub returns-clause-dst_after : goal.returns-clause-dst_after
returns-clause-dst_after c =
    let l = c.loop-place in
    let s = l.place-iterator in
    let none = pick-end c.args.h s.b.rest.now c.args.self.bank.now s.a.rest.now (either_empty_from_Zip s c.next.new.self c.next.result c.in-None.is c.next.ensures.steps) in
    sym (slots-none l.dst l.k _ none) ∙ l.invariant.2
