-- `placing::plan` meets its contract: the places by rising id, then the height of each. Assumes nothing.
use native.Mathlib.Omega.{arith}
use mathlib.Core.Path.{sym}
use Rattle.placing.proofs.Planned.{plan-length, plan-inside, plan-made}
use Rattle.placing.proofs.plan.Goals as goal

pub slice_bounds-assign-end-2 : goal.slice_bounds-assign-end-2
slice_bounds-assign-end-2 c =
    let o = c.order-all in
    sym (plan-length c.args.ids c.args.n c.args.bank.now c.requires.in_range.1 c.requires.ids_le_most_ids.1.0 c.requires.ids_le_most_ids.1.1 o.new.places o.result o.ensures.0 o.ensures.1)

pub assign-over-requires : goal.assign-over-requires
assign-over-requires c =
    let o = c.order-all in
    let l = plan-length c.args.ids c.args.n c.args.bank.now c.requires.in_range.1 c.requires.ids_le_most_ids.1.0 c.requires.ids_le_most_ids.1.1 o.new.places o.result o.ensures.0 o.ensures.1 in
    let i = plan-inside c.args.ids c.args.n c.args.bank.now c.requires.in_range.1 c.requires.ids_le_most_ids.1.0 c.requires.ids_le_most_ids.1.1 o.new.places o.result o.ensures.0 o.ensures.1 in record { in_range = (c.requires.in_range.0, i); places_in_bounds = (omega (arith, l), omega (arith, l)) }

pub returns : goal.returns
returns c =
    let o = c.order-all in
    let w = c.assign-over in
    plan-made c.args.ids c.args.n c.args.bank.now c.requires.in_range.1 c.requires.ids_le_most_ids.1.0 c.requires.ids_le_most_ids.1.1 o.new.places o.result o.ensures.0 o.ensures.1
    c.args.s c.args.leaf w.result w.new.at c.requires.in_range.0.height_high w.ensures.at_after w.ensures.value
