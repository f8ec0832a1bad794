-- `runs::request::answer` meets its contract: the parts that are lent have the lengths that `request` asks for. Assumes nothing.
use mathlib.Core.Path.{sym}
use mathlib.Core.List.{[]}
use native.Mathlib.Omega.{arith}
use lib.Seq.{length-take-le}
use Rattle.runs.specs.Shelf.{shelf}
use Rattle.runs.proofs.Steps.{answers_by}
use Rattle.runs.proofs.request.answer.Goals as goal

pub slice_bounds-request-end-2 : goal.slice_bounds-request-end-2
slice_bounds-request-end-2 c = sym (length-take-le c.desk_len-d.result c.args.desk.now (omega (arith, c.desk_len-d.ensures.1, c.requires.desk_most)))

pub slice_bounds-request-end-4 : goal.slice_bounds-request-end-4
slice_bounds-request-end-4 c = sym (length-take-le c.tree_len-t.result c.args.tree.now (omega (arith, c.tree_len-t.ensures.1, c.requires.tree_most)))

pub slice_bounds-request-end-6 : goal.slice_bounds-request-end-6
slice_bounds-request-end-6 c = sym (length-take-le c.path_len-p.result c.args.path.now (omega (arith, c.path_len-p.ensures.1, c.requires.path_most)))

pub returns : goal.returns
returns c =
    let a = c.args in
    let q = c.request in
    answers_by a.store a.kind a.id a.leaf (shelf a.desk.now a.tree.now a.path.now a.«record».now []) q.result _ _ _ _ c.desk_len-d.result c.tree_len-t.result c.path_len-p.result
    c.desk_len-d.ensures.0 c.tree_len-t.ensures.0 c.path_len-p.ensures.0 q.ensures
