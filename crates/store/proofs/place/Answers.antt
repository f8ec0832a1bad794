-- `store::place` meets its contract: Full where the plan leaves more than the stash holds, and else the plan is followed. Assumes nothing.
use Prim.Native.Nat.{ℕ}
use mathlib.Core.Bool.{Bool}
use mathlib.Core.Path.{◌≡◌, sym, ap₂, ◌∙◌}
use native.Mathlib.Omega.{arith}
use lib.ListN.{length}
use borrow.Author.Tests.{lt-ltb, le-ltb}
use Rattle.words.specs.Bytes.{zeros}
use Rattle.words.proofs.Splice.{length-zeros}
use Rattle.desk.specs.declared.Kind.{Kind}
use Rattle.desk.specs.Layout.{room_of}
use Rattle.desk.specs.Readers.{record_asked}
use Rattle.items.specs.Real.{real}
use Rattle.placing.specs.Bank.{most_blocks}
use Rattle.store.specs.Steps.{answer_for, buffer_for, record_found, new_stash}
use Rattle.store.specs.Carried.{carried_on}
use Rattle.store.proofs.Rows.{over-is, full-refused, place-done}
use Rattle.store.proofs.place.Goals as goal

pub plan-c-requires : goal.plan-c-requires
plan-c-requires c = record { ready = (c.requires.0, c.record_carried-kept.ensures); bank_len = (length-zeros 24480, (length-zeros 360, length-zeros 360)) }

pub bounds-desk-42 : goal.bounds-desk-42
bounds-desk-42 c = omega (arith, c.requires.0.good.whole.size)

pub overflow_cast-room : goal.overflow_cast-room
overflow_cast-room c = omega (arith, c.slice_known-1.given 42)

pub bounds-desk-43 : goal.bounds-desk-43
bounds-desk-43 c = omega (arith, c.requires.0.good.whole.size)

pub returns-then-room-rest : goal.returns-then-room-rest
returns-then-room-rest c =
    let a = c.args in
    let p = c.plan-c in
    let o = over-is a.desk.now a.path.now a.v p.result.over c.requires.0.view p.ensures.remains in
    rw c.from.ensures (full-refused a.desk.now a.path.now a.«record».now (lt-ltb (room_of a.desk.now) (length (new_stash real a.desk.now a.path.now)) (omega (arith, o, c.if-room-rest.true))))

pub follow-requires : goal.follow-requires
follow-requires c =
    let p = c.plan-c in
    let few : (l : ℕ) → l ≡ length (zeros 360) → l ≡ most_blocks = λ l e. e ∙ length-zeros 360 in record { ready = c.requires.0; over_bound = (omega (arith, c.if-room-rest.false), (few _ p.auto.places, few _ p.auto.at)); planned = p.ensures }

pub returns : goal.returns
returns c =
    let a = c.args in
    let d = a.desk.now in
    let p = a.path.now in
    let k = c.kind_asked-kind.ensures in
    let m = c.was_marked-marked.ensures in
    let l = c.plan-c in
    let w = c.follow in
    let h = c.hand_out in
    let f = record_found real d p in
    let o = over-is d p a.v l.result.over c.requires.0.view l.ensures.remains in
    place-done d p a.«record».now (le-ltb (room_of d) (length (new_stash real d p)) (omega (arith, o, c.if-room-rest.false))) c.answer_for.result w.new.desk w.new.path h.new.record
    (c.answer_for.ensures ∙ ap₂ (λ (x : Kind) (y : Bool). answer_for x y) k m) w.ensures.1 w.ensures.0
    (h.ensures f (record_asked d) (c.record_carried-kept.ensures ∙ sym (ap₂ (λ (x : Kind) (y : Bool). carried_on x y f (record_asked d)) k m))
    ∙ ap₂ (λ (x : Kind) (y : Bool). buffer_for x y f a.«record».now) k m)
