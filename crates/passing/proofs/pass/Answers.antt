-- `passing::pass` meets its contract: at each turn, what is left to do comes to what the whole pass is. Assumes nothing.
use Rattle.std.proofs.lemmas.Result.{err_from_is_err_and}
use Prim.Native.Nat.{ℕ, ◌+◌, ◌-◌, ◌*◌, ◌≤◌, ◌<◌}
use mathlib.Core.Path.{◌≡◌, refl, ap, ◌∙◌}
use native.Mathlib.Omega.{arith}
use lib.ListN.{length}
use borrow.Rule.Slice.PartMut.{same_len_mid}
use Rattle.words.specs.Bytes.{part}
use Rattle.words.proofs.Splice.{length_part}
use Rattle.passing.proofs.PassTurns.{begun, entry-within, entry_done, pass-refused, all-passed}
use Rattle.passing.proofs.pass.Goals as goal

draw-there : (first id end n : ℕ) → id < end → first ≤ id → n ≡ end - first → id - first < n
draw-there first id end n l f e = omega arith

less : (id end : ℕ) → id < end → end - (id + 1) < end - id
less id end l = omega arith

pub loop-id-init : goal.loop-id-init
loop-id-init c =
    let a = c.args in
    let p = c.requires in
    (begun a.first a.end a.draws.now a.desk.now a.tree.now a.path.now a.sheet.now p.0 p.2, refl, refl, refl, refl)

pub overflow_sub-i : goal.overflow_sub-i
overflow_sub-i c = c.loop-id.invariant.0.from_first

pub overflow_cast-i : goal.overflow_cast-i
overflow_cast-i c = omega arith

pub overflow_mul-at : goal.overflow_mul-at
overflow_mul-at c = omega (arith, c.ranges.end)

pub offset_bounds-draws-i : goal.offset_bounds-draws-i
offset_bounds-draws-i c = omega arith

pub bounds-draws-i : goal.bounds-draws-i
bounds-draws-i c =
    let low : c.loop-id.id < c.args.end = omega arith in
    draw-there _ _ _ _ low c.loop-id.invariant.0.from_first c.requires.1

pub overflow_add-at : goal.overflow_add-at
overflow_add-at c =
    let low : c.loop-id.id < c.args.end = omega arith in
    let within : (c.loop-id.id - c.args.first) * 64 + 64 ≤ length c.loop-id.sheet = let a = c.args in entry-within a.first a.end c.loop-id.id _ c.loop-id.invariant.0.from_first low c.loop-id.invariant.0.long in
    omega (arith, within)

pub slice_bounds-request_entry-count : goal.slice_bounds-request_entry-count
slice_bounds-request_entry-count c = omega arith

pub slice_bounds-request_entry-start : goal.slice_bounds-request_entry-start
slice_bounds-request_entry-start c =
    let low : c.loop-id.id < c.args.end = omega arith in
    let within : (c.loop-id.id - c.args.first) * 64 + 64 ≤ length c.loop-id.sheet = let a = c.args in entry-within a.first a.end c.loop-id.id _ c.loop-id.invariant.0.from_first low c.loop-id.invariant.0.long in
    omega (arith, within)

pub slice_bounds-request_entry-end : goal.slice_bounds-request_entry-end
slice_bounds-request_entry-end c =
    let low : c.loop-id.id < c.args.end = omega arith in
    let within : (c.loop-id.id - c.args.first) * 64 + 64 ≤ length c.loop-id.sheet = let a = c.args in entry-within a.first a.end c.loop-id.id _ c.loop-id.invariant.0.from_first low c.loop-id.invariant.0.long in
    omega (arith, within)

pub request_entry-requires : goal.request_entry-requires
request_entry-requires c =
    let low : c.loop-id.id < c.args.end = omega arith in
    let within : (c.loop-id.id - c.args.first) * 64 + 64 ≤ length c.loop-id.sheet = let a = c.args in entry-within a.first a.end c.loop-id.id _ c.loop-id.invariant.0.from_first low c.loop-id.invariant.0.long in
    let at = (c.loop-id.id - c.args.first) * 64 in
    let m : at + 64 - at ≡ 64 = omega arith in
    ap (λ (j : ℕ). length (part c.loop-id.sheet at j)) m ∙ length_part c.loop-id.sheet at 64 within

pub returns-in_err-request_entry : goal.returns-in_err-request_entry
returns-in_err-request_entry c =
    let low : c.loop-id.id < c.args.end = omega arith in
    let r = c.request_entry in
    let at = (c.loop-id.id - c.args.first) * 64 in
    let m : at + 64 - at ≡ 64 = omega arith in
    let p = err_from_is_err_and c.from_residual.result c.from_residual.ensures.1 in
    rw (p.1, p.2) (pass-refused c.args.first c.args.end c.args.draws.now _ c.loop-id.id c.loop-id.desk c.loop-id.tree c.loop-id.path c.loop-id.sheet c.loop-id.invariant.0 low c.requires.1 (at + 64 - at) m r.ensures r.auto.entry c.in_err-request_entry.was)

pub loop-id-smaller : goal.loop-id-smaller
loop-id-smaller c =
    let low : c.loop-id.id < c.args.end = omega arith in
    less _ _ low

pub loop-id-preserved : goal.loop-id-preserved
loop-id-preserved c =
    let low : c.loop-id.id < c.args.end = omega arith in
    let r = c.request_entry in
    let at = (c.loop-id.id - c.args.first) * 64 in
    let m : at + 64 - at ≡ 64 = omega arith in (
      entry_done c.args.first c.args.end c.args.draws.now _ c.loop-id.id c.loop-id.desk c.loop-id.tree c.loop-id.path c.loop-id.sheet c.loop-id.invariant.0 low c.requires.1 (at + 64 - at) m r.ensures r.auto.entry c.in_ok-request_entry.was,
      r.auto.desk ∙ c.loop-id.invariant.1,
      r.auto.tree ∙ c.loop-id.invariant.2,
      r.auto.path ∙ c.loop-id.invariant.3,
      same_len_mid at (at + 64 - at) c.loop-id.sheet r.new.entry r.auto.entry ∙ c.loop-id.invariant.4,
    )

pub shape_of-desk : goal.shape_of-desk
shape_of-desk c = c.loop-id.invariant.1

pub shape_of-tree : goal.shape_of-tree
shape_of-tree c = c.loop-id.invariant.2

pub shape_of-path : goal.shape_of-path
shape_of-path c = c.loop-id.invariant.3

pub shape_of-sheet : goal.shape_of-sheet
shape_of-sheet c = c.loop-id.invariant.4

pub returns : goal.returns
returns c =
    let out : c.args.end ≤ c.loop-id.id = omega arith in
    all-passed c.args.first c.args.end c.args.draws.now _ c.loop-id.id c.loop-id.desk c.loop-id.tree c.loop-id.path c.loop-id.sheet c.loop-id.invariant.0 out c.requires.1
