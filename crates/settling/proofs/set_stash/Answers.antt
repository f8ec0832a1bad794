-- `settling::set_stash` meets its contract: the count, and the slots right after it. Assumes nothing.
use mathlib.Core.Path.{◌≡◌, ap, ◌∙◌}
use native.Mathlib.Omega.{arith}
use lib.ListN.{length}
use Rattle.words.specs.Numbers.{bytes_of}
use Rattle.words.proofs.Numbers.{length-bytes_of}
use Rattle.words.proofs.Splice.{splice-next}
use Rattle.slots.specs.Slots.{slots_with}
use Rattle.placing.specs.Plans.{blocks_for}
use Rattle.desk.specs.declared.Shape.{Shape}
use Rattle.desk.specs.Layout.{e_at, room_of, shape_of}
use Rattle.desk.specs.Changes.{with_stash, stash_bytes}
use borrow.Author.Rules.{rules}
use Rattle.settling.proofs.set_stash.Goals as goal

pub put16-requires : goal.put16-requires
put16-requires c =
    let start : c.e_at-e.result ≡ e_at (shape_of c.args.desk.now) = c.e_at-e.ensures ∙ ap e_at c.shape_of-shape.ensures in
    let e = start in let w = c.requires.whole.0.size in search rules

pub overflow_add-e : goal.overflow_add-e
overflow_add-e c =
    let start : c.e_at-e.result ≡ e_at (shape_of c.args.desk.now) = c.e_at-e.ensures ∙ ap e_at c.shape_of-shape.ensures in
    let e = start in let w = c.requires.whole.0.size in search rules

pub fill-requires : goal.fill-requires
fill-requires c =
    let start : c.e_at-e.result ≡ e_at (shape_of c.args.desk.now) = c.e_at-e.ensures ∙ ap e_at c.shape_of-shape.ensures in
    let room-is : c.shape.inside.s ≡ room_of c.args.desk.now = ap (λ (h : Shape). h.s) (c.shape.view_is ∙ c.shape_of-shape.ensures) in
    let p = c.requires in
    let e = start in
    let r = room-is in
    let k = c.put16.auto.s in
    let w = p.whole.0.size in
    let s = p.whole.0.small.s in record { room_in_bounds = (omega arith, omega arith); places_len_bound = omega (arith, p.places_len, p.whole.1) }

pub returns : goal.returns
unfolding with_stash stash_bytes
returns c =
    let start : c.e_at-e.result ≡ e_at (shape_of c.args.desk.now) = c.e_at-e.ensures ∙ ap e_at c.shape_of-shape.ensures in
    let room-is : c.shape.inside.s ≡ room_of c.args.desk.now = ap (λ (h : Shape). h.s) (c.shape.view_is ∙ c.shape_of-shape.ensures) in
    let a = c.args in
    let p = c.requires in
    let bs = blocks_for a.plan a.h in
    let w = p.whole.0.size in
    rw (c.fill.ensures.dst_after, c.put16.ensures, start, room-is, ← p.places_len)
    (splice-next a.desk.now (e_at (shape_of a.desk.now)) (bytes_of 2 (length bs)) (slots_with (room_of a.desk.now) bs) 2 (length-bytes_of 2 (length bs)) (omega arith))
