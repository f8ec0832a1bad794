-- `settling::settle` meets its contract: the four changes, one after another, each of a desk that is still whole. Assumes nothing.
use mathlib.Core.Path.{◌≡◌}
use native.Mathlib.Omega.{arith}
use Rattle.placing.specs.Plans.{blocks_for}
use Rattle.desk.specs.Layout.{Whole, room_of}
use Rattle.desk.specs.Changes.{settled}
use Rattle.settling.proofs.Whole.{place-whole, place-room, stash-whole, root-whole}
use Rattle.settling.proofs.settle.Goals as goal

pub set_place-requires : goal.set_place-requires
set_place-requires c = c.requires.whole

pub set_stash-requires : goal.set_stash-requires
set_stash-requires c =
    let placed-whole : Whole c.set_place.new.desk = let a = c.args in
    let p = c.requires.whole in
    rw c.set_place.ensures (place-whole a.desk.now p.0 a.id a.leaf a.mark p.1.0 p.1.1) in
    let placed-room : room_of c.set_place.new.desk ≡ room_of c.args.desk.now = let a = c.args in
    let p = c.requires.whole in
    rw c.set_place.ensures (place-room a.desk.now p.0 a.id a.leaf a.mark p.1.0 p.1.1) in
    let p = c.requires in
    let r = placed-room in record { whole = (placed-whole, omega (arith, p.over_bound.0)); places_len = p.held.count }

pub set_root-requires : goal.set_root-requires
set_root-requires c =
    let placed-whole : Whole c.set_place.new.desk = let a = c.args in
    let p = c.requires.whole in
    rw c.set_place.ensures (place-whole a.desk.now p.0 a.id a.leaf a.mark p.1.0 p.1.1) in
    let placed-room : room_of c.set_place.new.desk ≡ room_of c.args.desk.now = let a = c.args in
    let p = c.requires.whole in
    rw c.set_place.ensures (place-room a.desk.now p.0 a.id a.leaf a.mark p.1.0 p.1.1) in
    let stashed-whole : Whole c.set_stash.new.desk = let a = c.args in
    let p = c.requires in
    let k = p.held in
    let r = placed-room in
    rw c.set_stash.ensures
    (stash-whole c.set_place.new.desk placed-whole (blocks_for a.plan a.h) k.fit
    (omega (arith, k.count, p.over_bound.0))) in
    stashed-whole

pub close-requires : goal.close-requires
close-requires c =
    let placed-whole : Whole c.set_place.new.desk = let a = c.args in
    let p = c.requires.whole in
    rw c.set_place.ensures (place-whole a.desk.now p.0 a.id a.leaf a.mark p.1.0 p.1.1) in
    let placed-room : room_of c.set_place.new.desk ≡ room_of c.args.desk.now = let a = c.args in
    let p = c.requires.whole in
    rw c.set_place.ensures (place-room a.desk.now p.0 a.id a.leaf a.mark p.1.0 p.1.1) in
    let stashed-whole : Whole c.set_stash.new.desk = let a = c.args in
    let p = c.requires in
    let k = p.held in
    let r = placed-room in
    rw c.set_stash.ensures
    (stash-whole c.set_place.new.desk placed-whole (blocks_for a.plan a.h) k.fit
    (omega (arith, k.count, p.over_bound.0))) in
    let rooted-whole : Whole c.set_root.new.desk = rw c.set_root.ensures (root-whole c.set_stash.new.desk stashed-whole c.args.root.now c.requires.over_bound.1) in
    rooted-whole

pub returns : goal.returns
unfolding settled
returns c = rw (c.close.ensures, c.set_root.ensures, c.set_stash.ensures, c.set_place.ensures)
