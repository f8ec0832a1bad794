-- `store::follow` meets its contract: the plan can be written, and what is accepted by it is what the paper writes. Assumes nothing.
use mathlib.Core.Bool.{Bool}
use mathlib.Core.Path.{ap, ap₂, ◌∙◌}
use native.Mathlib.Omega.{arith}
use lib.ListN.{length-take}
use Rattle.desk.specs.declared.Kind.{Kind}
use Rattle.desk.specs.Layout.{room_of}
use Rattle.items.specs.Real.{real}
use Rattle.opening.proofs.Open.{view-range, view-leaf, copy-carries}
use Rattle.store.specs.Steps.{mark_for, to_place}
use Rattle.store.proofs.Gathering.{plan-writable, followed}
use Rattle.store.proofs.Ready.{view-reached, view-size}
use Rattle.std.specs.Int.{from_bool}
use Rattle.store.proofs.Carried.{mark-is}
use Rattle.store.proofs.follow.Goals as goal

pub slice_bounds-plan-end : goal.slice_bounds-plan-end
slice_bounds-plan-end c = let p = c.requires in simp length-take (omega (arith, p.planned.few, p.over_bound))

pub slice_bounds-plan-end-2 : goal.slice_bounds-plan-end-2
slice_bounds-plan-end-2 c = let p = c.requires in simp length-take (omega (arith, p.planned.few, p.over_bound))

pub invariant_of-plan : goal.invariant_of-plan
invariant_of-plan c =
    let p = c.requires.planned in
    record { heights = simp length-take (omega (arith, p.few, c.requires.over_bound)); inside = p.inside }

pub accept-requires : goal.accept-requires
accept-requires c =
    let a = c.args in
    let y = c.requires.ready in
    let d = a.desk.now in
    let m = c.requires.over_bound in
    let p = c.requires.planned in
    let all = a.c.all in
    let z = view-size d a.path.now a.v a.n a.w.now y in
    let i = c.id_asked-id.ensures in
    record { whole = (y.good.whole, (omega (arith, i, y.good.low), omega (arith, i, y.good.high))); carries = (record { range = view-range d y.good a.v y.view; room = omega (arith, z) }, (z, copy-carries d y.good a.v a.w.now y.view y.unsealed.size)); leaf_bound = (view-leaf d y.good a.v y.view, view-reached d a.path.now a.v a.n a.w.now y); writable = plan-writable a.v.sizes a.v.leaf (to_place real d a.path.now) all a.c.over a.bank.now a.places.now a.at.now p (room_of d) (λ i. omega (arith, c.type_inv.bank i)) m.0 }

pub returns : goal.returns
returns c =
    let a = c.args in
    let r = c.accept in
    followed a.desk.now a.path.now a.v c.id_asked-id.result c.new_leaf-leaf.result (from_bool c.is_there-marked.result) c.requires.ready.view c.id_asked-id.ensures c.new_leaf-leaf.ensures
    (ap from_bool c.is_there-marked.ensures ∙ mark-is c.kind_asked.result c.was_marked.result ∙ ap₂ (λ (x : Kind) (m : Bool). mark_for x m) c.kind_asked.ensures c.was_marked.ensures) a.c.all a.c.over a.bank.now a.places.now a.at.now r.new.path r.new.desk c.requires.planned r.ensures
