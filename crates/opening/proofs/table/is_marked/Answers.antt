-- `opening::table::is_marked` meets its contract: the id's mark lies in body (d), which lies in the desk. Assumes nothing.
use Prim.Native.Nat.{ℕ, ◌+◌}
use mathlib.Core.Path.{◌≡◌, ap, ◌∙◌}
use native.Mathlib.Omega.{arith}
use lib.ListN.{get_or}
use lib.Dec.{eqb}
use Rattle.desk.specs.Layout.{d_at, shape_of, place_at, mark_in}
use borrow.Author.Rules.{rules}
use Rattle.opening.proofs.table.is_marked.Goals as goal

pub overflow_add-a : goal.overflow_add-a
overflow_add-a c =
    let start : c.d_at.result ≡ d_at (shape_of c.args.desk.now) = c.d_at.ensures ∙ ap d_at c.shape_of.ensures in
    let e = start in let w = c.requires.0.small in search rules

pub overflow_add-a-2 : goal.overflow_add-a-2
overflow_add-a-2 c =
    let start : c.d_at.result ≡ d_at (shape_of c.args.desk.now) = c.d_at.ensures ∙ ap d_at c.shape_of.ensures in
    let e = start in let w = c.requires.0.small in search rules

pub bounds-desk-a : goal.bounds-desk-a
bounds-desk-a c =
    let start : c.d_at.result ≡ d_at (shape_of c.args.desk.now) = c.d_at.ensures ∙ ap d_at c.shape_of.ensures in
    let e = start in let w = c.requires.0 in omega arith

pub returns : goal.returns
returns c =
    let start : c.d_at.result ≡ d_at (shape_of c.args.desk.now) = c.d_at.ensures ∙ ap d_at c.shape_of.ensures in
    let a = c.args in ap (λ (k : ℕ). eqb (get_or a.desk.now (k + place_at a.id + mark_in) 0) 1) start
