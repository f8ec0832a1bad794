-- `opening::table::stash_slots` meets its contract: what stands behind the count. Assumes nothing.
use Prim.Native.Nat.{ℕ, ◌+◌}
use mathlib.Core.Path.{◌≡◌, ap, ◌∙◌}
use native.Mathlib.Omega.{arith}
use lib.ListN.{drop}
use Rattle.sizes.specs.Sizes.{count_len}
use Rattle.desk.specs.Layout.{e_at, shape_of}
use Rattle.desk.proofs.Lengths.{tail-part}
use borrow.Author.Rules.{rules}
use Rattle.opening.proofs.table.stash_slots.Goals as goal

pub overflow_add-a : goal.overflow_add-a
overflow_add-a c =
    let start : c.e_at-a.result ≡ e_at (shape_of c.args.desk.now) = c.e_at-a.ensures ∙ ap e_at c.shape_of.ensures in
    let e = start in let w = c.requires.whole in search rules

pub slice_bounds-result-count : goal.slice_bounds-result-count
slice_bounds-result-count c =
    let start : c.e_at-a.result ≡ e_at (shape_of c.args.desk.now) = c.e_at-a.ensures ∙ ap e_at c.shape_of.ensures in
    let e = start in let w = c.requires.whole in omega arith

pub slice_bounds-result-start : goal.slice_bounds-result-start
slice_bounds-result-start c =
    let start : c.e_at-a.result ≡ e_at (shape_of c.args.desk.now) = c.e_at-a.ensures ∙ ap e_at c.shape_of.ensures in
    let e = start in let w = c.requires.whole in omega arith

pub returns : goal.returns
returns c =
    let start : c.e_at-a.result ≡ e_at (shape_of c.args.desk.now) = c.e_at-a.ensures ∙ ap e_at c.shape_of.ensures in
    let a = c.args in tail-part a.desk.now (c.e_at-a.result + 2) ∙ ap (λ (i : ℕ). drop (i + count_len) a.desk.now) start
