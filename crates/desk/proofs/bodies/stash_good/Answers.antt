-- `desk::bodies::stash_good` meets its contract: a count above S decides; else the slots in use end within the stash. Assumes nothing.
use Prim.Native.Nat.{◌≤◌}
use mathlib.Core.Path.{ap}
use native.Mathlib.Omega.{arith}
use borrow.Author.Tests.{le-leb, lt-leb}
use Rattle.desk.specs.declared.Shape.{Shape}
use Rattle.desk.specs.Layout.{slot_at}
use Rattle.desk.specs.Good.{stash_good}
use Rattle.desk.proofs.Lengths.{slot-le, tail-part}
use borrow.Author.Rules.{rules}
use Rattle.desk.proofs.bodies.stash_good.Goals as goal

pub returns-then-h-count : goal.returns-then-h-count
unfolding stash_good
returns-then-h-count c = rw (← c.get16.ensures, ← c.from-count.ensures, ← ap (λ (h : Shape). h.s) c.h.view_is, lt-leb _ _ c.if-h-count.true)

pub slots_good-requires : goal.slots_good-requires
slots_good-requires c =
    let used : let a = c.args in slot_at a.h c.from-count.result ≤ slot_at a.h a.h.s = let a = c.args in slot-le a.h c.from-count.result a.h.s (omega (arith, ap (λ (h : Shape). h.s) c.h.view_is, c.if-h-count.false)) in
    let k = used in search rules

pub slice_bounds-is_zero-count : goal.slice_bounds-is_zero-count
slice_bounds-is_zero-count c =
    let used : let a = c.args in slot_at a.h c.from-count.result ≤ slot_at a.h a.h.s = let a = c.args in slot-le a.h c.from-count.result a.h.s (omega (arith, ap (λ (h : Shape). h.s) c.h.view_is, c.if-h-count.false)) in
    let k = used in search rules

pub slice_bounds-is_zero-start : goal.slice_bounds-is_zero-start
slice_bounds-is_zero-start c =
    let used : let a = c.args in slot_at a.h c.from-count.result ≤ slot_at a.h a.h.s = let a = c.args in slot-le a.h c.from-count.result a.h.s (omega (arith, ap (λ (h : Shape). h.s) c.h.view_is, c.if-h-count.false)) in
    let k = used in search rules

pub returns : goal.returns
unfolding stash_good
returns c =
    rw (c.slots_good.ensures, c.is_zero.ensures, tail-part, ← c.get16.ensures, ← c.from-count.ensures, ← ap (λ (h : Shape). h.s) c.h.view_is, le-leb _ _ c.if-h-count.false, c.slot_at-end.ensures)
