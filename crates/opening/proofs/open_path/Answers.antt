-- `opening::open_path` meets its contract: the three tests are the checks of the definition. Assumes nothing.
use mathlib.Core.Path.{sym, ◌∙◌}
use native.Mathlib.Omega.{arith}
use Rattle.items.specs.Items.{Carries}
use Rattle.opening.proofs.Open.{opens-given, view-range, view-leaf, whole-genuine}
use Rattle.opening.proofs.open_path.Goals as goal

pub reach-n-requires : goal.reach-n-requires
reach-n-requires c =
    let carries : Carries c.args.v.sizes c.args.path.now = record { range = view-range c.args.desk.now c.requires.open_desk.0 c.args.v c.requires.open_desk.1.0; room = omega (arith, c.requires.open_desk.1.1) } in
    carries

pub digests_good-d-requires : goal.digests_good-d-requires
digests_good-d-requires c =
    let carries : Carries c.args.v.sizes c.args.path.now = record { range = view-range c.args.desk.now c.requires.open_desk.0 c.args.v c.requires.open_desk.1.0; room = omega (arith, c.requires.open_desk.1.1) } in
    (carries, c.reach-n.ensures)

pub flags_good-f-requires : goal.flags_good-f-requires
flags_good-f-requires c =
    let carries : Carries c.args.v.sizes c.args.path.now = record { range = view-range c.args.desk.now c.requires.open_desk.0 c.args.v c.requires.open_desk.1.0; room = omega (arith, c.requires.open_desk.1.1) } in
    (carries, c.reach-n.ensures)

pub open_slots-requires : goal.open_slots-requires
open_slots-requires c =
    let a = c.args in
    let p = c.requires in record { in_range = (view-range a.desk.now p.open_desk.0 a.v p.open_desk.1.0, (p.open_desk.1.1, view-leaf a.desk.now p.open_desk.0 a.v p.open_desk.1.0)); n_bound = (c.reach-n.ensures.most, p.w_len) }

pub slots_good-s-requires : goal.slots_good-s-requires
slots_good-s-requires c = let p = c.requires in record { open_desk = (p.open_desk.0, (p.open_desk.1.0, c.reach-n.ensures.most)); w_len = c.open_slots.ensures.size }

pub returns-then-d-f : goal.returns-then-d-f
returns-then-d-f c =
    let a = c.args in
    let p = c.requires.open_desk.1.0 in
    let passed = whole-genuine a.desk.now a.path.now c.digests_good-d.result c.flags_good-f.result c.slots_good-s.result a.v p c.digests_good-d.ensures c.flags_good-f.ensures (c.slots_good-s.ensures a.path.now c.reach-n.ensures c.open_slots.ensures) in
    opens-given a.desk.now a.path.now c.open_slots.new.w _ a.v p (sym c.if-d-f.true ∙ passed) c.reach-n.ensures c.open_slots.ensures

pub returns-else-d-f : goal.returns-else-d-f
returns-else-d-f c =
    let a = c.args in
    let p = c.requires.open_desk.1.0 in
    let passed = whole-genuine a.desk.now a.path.now c.digests_good-d.result c.flags_good-f.result c.slots_good-s.result a.v p c.digests_good-d.ensures c.flags_good-f.ensures (c.slots_good-s.ensures a.path.now c.reach-n.ensures c.open_slots.ensures) in
    opens-given a.desk.now a.path.now c.open_slots.new.w _ a.v p (sym c.if-d-f.false ∙ passed) c.reach-n.ensures c.open_slots.ensures
