-- `gathering::arrange` meets its contract: the bank holds the requested block and the others one behind another, and the plan is made of it. Assumes nothing.
use Prim.Native.Nat.{◌≤◌, ◌+◌, ◌*◌}
use mathlib.Core.Path.{◌≡◌, subst}
use mathlib.Core.List.{List}
use native.Mathlib.Omega.{arith}
use lib.ListN.{length}
use Rattle.sizes.specs.Sizes.{most_height, most_slots, slot_len}
use Rattle.slots.specs.Slots.{Block, blocks_of, Bytes}
use Rattle.placing.specs.Placing.{sorted}
use Rattle.placing.specs.Ids.{Placeable}
use Rattle.placing.specs.Bank.{most_blocks, Planned}
use Rattle.gathering.specs.Gathering.{found, to_place}
use Rattle.gathering.proofs.Arranged.{few-if, gathered-ready}
use Rattle.gathering.proofs.arrange.Goals as goal

pub take_path-b-requires : goal.take_path-b-requires
take_path-b-requires c =
    let r = c.args.request in
    let p = c.put_request-a in
    let few = few-if r.id r.leaf c.args.«record».now in record { in_range = (c.requires.0.range, (c.requires.0.reach, c.requires.0.path_size)); n_in_bounds = omega (arith, p.ensures.0, p.auto.bank, c.requires.1.bank_size, c.requires.0.reach, c.requires.0.range.height_high) }

pub take_others-m-requires : goal.take_others-m-requires
take_others-m-requires c =
    let after-path : c.take_path-b.result ≤ 1 + most_slots * (most_height + 1) = let r = c.args.request in
    omega (arith, c.put_request-a.ensures.0, few-if r.id r.leaf c.args.«record».now, c.take_path-b.ensures.value.1, c.requires.0.reach, c.requires.0.range.height_high) in
    (omega (arith, c.requires.0.stash_size), omega (arith, after-path, c.requires.0.room_at_most, c.requires.1.bank_size, c.put_request-a.auto.bank, c.take_path-b.auto.bank))

pub plan-requires : goal.plan-requires
plan-requires c =
    let after-path : c.take_path-b.result ≤ 1 + most_slots * (most_height + 1) = let r = c.args.request in
    omega (arith, c.put_request-a.ensures.0, few-if r.id r.leaf c.args.«record».now, c.take_path-b.ensures.value.1, c.requires.0.reach, c.requires.0.range.height_high) in
    let blocks : List Block = blocks_of c.take_others-m.result c.take_others-m.new.bank in
    let after-stash : c.take_others-m.result ≤ most_blocks = omega (arith, after-path, c.take_others-m.ensures.value.1, c.requires.0.room_at_most) in
    let due : List Block = to_place c.args.request c.args.«record».now (found c.args.s c.args.opened.now c.args.n c.args.stash.now c.args.count) in
    let ready : Placeable c.args.ids blocks × (sorted blocks ≡ due) =
    let a = c.args in
    let p = c.put_request-a in
    let q = c.take_path-b in
    let t = c.take_others-m in
    let opened : Bytes a.opened.now = λ i. omega (arith, c.shared_slice_known-1.given i) in
    let stash : Bytes a.stash.now = λ i. omega (arith, c.shared_slice_known-2-1.given i) in
    gathered-ready a.s a.ids a.opened.now a.n a.stash.now a.count a.request a.«record».now c.requires.0 c.requires.1.record_size opened stash
    a.bank.now p.new.bank q.new.bank t.new.bank p.result q.result t.result
    c.requires.1.bank_size after-stash p.ensures.1 p.ensures.0 q.ensures.bank_after q.ensures.value.0 t.ensures.bank_after t.ensures.value.0 in
    let t = c.take_others-m in
    let size : slot_len * t.result ≤ length t.new.bank = omega (arith, after-stash, c.requires.1.bank_size, c.put_request-a.auto.bank, c.take_path-b.auto.bank, t.auto.bank) in record { in_range = (c.requires.0.range, ready.0); ids_le_most_ids = (c.requires.0.ids_at_most, (after-stash, size)); places_len = (c.requires.1.places_size, c.requires.1.at_size) }

pub returns : goal.returns
returns c =
    let after-path : c.take_path-b.result ≤ 1 + most_slots * (most_height + 1) = let r = c.args.request in
    omega (arith, c.put_request-a.ensures.0, few-if r.id r.leaf c.args.«record».now, c.take_path-b.ensures.value.1, c.requires.0.reach, c.requires.0.range.height_high) in
    let blocks : List Block = blocks_of c.take_others-m.result c.take_others-m.new.bank in
    let after-stash : c.take_others-m.result ≤ most_blocks = omega (arith, after-path, c.take_others-m.ensures.value.1, c.requires.0.room_at_most) in
    let due : List Block = to_place c.args.request c.args.«record».now (found c.args.s c.args.opened.now c.args.n c.args.stash.now c.args.count) in
    let ready : Placeable c.args.ids blocks × (sorted blocks ≡ due) =
    let a = c.args in
    let p = c.put_request-a in
    let q = c.take_path-b in
    let t = c.take_others-m in
    let opened : Bytes a.opened.now = λ i. omega (arith, c.shared_slice_known-1.given i) in
    let stash : Bytes a.stash.now = λ i. omega (arith, c.shared_slice_known-2-1.given i) in
    gathered-ready a.s a.ids a.opened.now a.n a.stash.now a.count a.request a.«record».now c.requires.0 c.requires.1.record_size opened stash
    a.bank.now p.new.bank q.new.bank t.new.bank p.result q.result t.result
    c.requires.1.bank_size after-stash p.ensures.1 p.ensures.0 q.ensures.bank_after q.ensures.value.0 t.ensures.bank_after t.ensures.value.0 in
    let a = c.args in
    let p = c.plan in
    let bank = c.take_others-m.new.bank in
    subst (λ (bs : List Block). Planned a.s a.leaf bs p.result.all p.result.over bank p.new.places p.new.at) ready.1 p.ensures
