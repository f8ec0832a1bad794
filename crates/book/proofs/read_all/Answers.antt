-- `book::read_all` meets its contract: at each turn, what is left to do comes to what the whole row is. Assumes nothing.
use Rattle.std.proofs.lemmas.Result.{err_from_is_err_and}
use Prim.Native.Nat.{ℕ, ◌+◌, ◌-◌, ◌≤◌, ◌<◌}
use mathlib.Core.Path.{◌≡◌, refl, ◌∙◌}
use native.Mathlib.Omega.{arith}
use Rattle.book.proofs.Turns.{begun, found-cell, found-refusal, all_read}
use Rattle.book.proofs.read_all.Goals as goal

draw-there : (first id end n : ℕ) → id < end → first ≤ id → n ≡ end - first → id - first < n
draw-there first id end n l f e = omega arith

few : (first id end n : ℕ) → id < end → n ≡ id - first → end < 65536 → n < 65535
few first id end n l e b = omega arith

less : (id end : ℕ) → id < end → end - (id + 1) < end - id
less id end l = omega arith

pub loop-id-init : goal.loop-id-init
loop-id-init c =
    let a = c.args in
    (begun a.chapter a.first a.end a.draws.now a.desk.now a.tree.now a.path.now a.«record».now c.requires.0, refl, refl, refl, refl)

pub overflow_sub-draw : goal.overflow_sub-draw
overflow_sub-draw c = c.loop-id.invariant.0.from_first

pub overflow_cast-draw : goal.overflow_cast-draw
overflow_cast-draw c = omega arith

pub offset_bounds-draws-id : goal.offset_bounds-draws-id
offset_bounds-draws-id c = omega arith

pub bounds-draws-id : goal.bounds-draws-id
bounds-draws-id c =
    let low : c.loop-id.id < c.args.end = omega arith in
    draw-there _ _ _ _ low c.loop-id.invariant.0.from_first c.requires.1

pub read_one-requires : goal.read_one-requires
read_one-requires c = tt

pub returns-in_err-cell : goal.returns-in_err-cell
returns-in_err-cell c =
    let low : c.loop-id.id < c.args.end = omega arith in
    let p = err_from_is_err_and c.from_residual.result c.from_residual.ensures.1 in
    rw (p.1, p.2) (found-refusal c.args.chapter c.args.first c.args.end c.args.draws.now _ c.loop-id.id c.loop-id.counts c.loop-id.desk c.loop-id.tree c.loop-id.path c.loop-id.«record» c.loop-id.invariant.0 low c.requires.1 c.read_one.ensures c.in_err-cell.was)

pub plus-counts-requires : goal.plus-counts-requires
plus-counts-requires c =
    let low : c.loop-id.id < c.args.end = omega arith in
    few _ _ _ _ low c.loop-id.invariant.0.counted (omega (arith, c.ranges.end))

pub loop-id-smaller : goal.loop-id-smaller
loop-id-smaller c =
    let low : c.loop-id.id < c.args.end = omega arith in
    less _ _ low

pub loop-id-preserved : goal.loop-id-preserved
loop-id-preserved c =
    let low : c.loop-id.id < c.args.end = omega arith in
    (found-cell c.args.chapter c.args.first c.args.end c.args.draws.now _ c.loop-id.id c.loop-id.counts c.loop-id.desk c.loop-id.tree c.loop-id.path c.loop-id.«record» c.loop-id.invariant.0 low c.requires.1 c.read_one.ensures c.in_ok-cell.was c.plus-counts.ensures, c.read_one.auto.desk ∙ c.loop-id.invariant.1, c.read_one.auto.tree ∙ c.loop-id.invariant.2, c.read_one.auto.path ∙ c.loop-id.invariant.3, c.read_one.auto.record ∙ c.loop-id.invariant.4)

pub overflow_sub-result : goal.overflow_sub-result
overflow_sub-result c = c.requires.0

pub shape_of-desk : goal.shape_of-desk
shape_of-desk c = c.loop-id.invariant.1

pub shape_of-tree : goal.shape_of-tree
shape_of-tree c = c.loop-id.invariant.2

pub shape_of-path : goal.shape_of-path
shape_of-path c = c.loop-id.invariant.3

pub shape_of-record : goal.shape_of-record
shape_of-record c = c.loop-id.invariant.4

pub returns : goal.returns
returns c =
    let out : c.args.end ≤ c.loop-id.id = omega arith in
    all_read c.args.chapter c.args.first c.args.end c.args.draws.now _ c.loop-id.id c.loop-id.counts c.loop-id.desk c.loop-id.tree c.loop-id.path c.loop-id.«record» c.loop-id.invariant.0 out c.requires.1
