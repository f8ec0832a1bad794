-- `book::row_checked` meets its contract: each return is the first row whose test holds; what a row needs is known from the rows before it. Assumes nothing.
use mathlib.Core.Path.{◌≡◌, sym, ap, ◌∙◌}
use mathlib.Core.Bool.{true}
use native.Mathlib.Omega.{arith}
use Rattle.sizes.specs.Sizes.{tree_len}
use Rattle.desk.specs.declared.Shape.{Shape}
use Rattle.desk.specs.Layout.{ids_of}
use Rattle.desk.specs.Readers.{sizes_of}
use Rattle.desk.specs.Good.{good_desk}
use Rattle.desk.proofs.Known.{known}
use Rattle.book.specs.MatrixRow.{row_checked}
use Rattle.book.proofs.Passed.{range-known}
use Rattle.book.proofs.row_checked.Goals as goal

pub returns-then-not-good : goal.returns-then-not-good
unfolding row_checked
returns-then-not-good c = rw (sym c.good.ensures ∙ c.if-not-good.true)

pub shape_of-h-requires : goal.shape_of-h-requires
shape_of-h-requires c =
    let good-at : good_desk c.args.desk.now ≡ true = sym c.good.ensures ∙ c.if-not-good.false in
    omega (arith, (known _ good-at).size)

pub overflow_add-range_good : goal.overflow_add-range_good
overflow_add-range_good c =
    let good-at : good_desk c.args.desk.now ≡ true = sym c.good.ensures ∙ c.if-not-good.false in
    let ids_at : c.h.inside.n ≡ ids_of c.args.desk.now = ap (λ (h : Shape). h.n) (c.h.view_is ∙ c.shape_of-h.ensures) in
    omega (arith, ids_at, (known _ good-at).head.ids_high)

pub returns-then-not-range_good : goal.returns-then-not-range_good
unfolding row_checked
returns-then-not-range_good c =
    let good-at : good_desk c.args.desk.now ≡ true = sym c.good.ensures ∙ c.if-not-good.false in
    let ids_at : c.h.inside.n ≡ ids_of c.args.desk.now = ap (λ (h : Shape). h.n) (c.h.view_is ∙ c.shape_of-h.ensures) in
    rw (good-at, ← ids_at, c.if-not-range_good.true)

pub overflow_sub-fit : goal.overflow_sub-fit
overflow_sub-fit c = let a = c.args in omega (arith, (range-known c.h.inside.n a.first a.end (c.if-not-range_good.false)).rising)

pub sizes_of-requires : goal.sizes_of-requires
sizes_of-requires c =
    let good-at : good_desk c.args.desk.now ≡ true = sym c.good.ensures ∙ c.if-not-good.false in
    omega (arith, (known _ good-at).size)

pub tree_len-requires : goal.tree_len-requires
tree_len-requires c =
    let good-at : good_desk c.args.desk.now ≡ true = sym c.good.ensures ∙ c.if-not-good.false in
    rw c.sizes_of.ensures (known _ good-at).head.sizes

pub returns-then-not-fit : goal.returns-then-not-fit
unfolding row_checked
returns-then-not-fit c =
    let good-at : good_desk c.args.desk.now ≡ true = sym c.good.ensures ∙ c.if-not-good.false in
    let ids_at : c.h.inside.n ≡ ids_of c.args.desk.now = ap (λ (h : Shape). h.n) (c.h.view_is ∙ c.shape_of-h.ensures) in
    let tree-at : c.tree_len.result ≡ tree_len (sizes_of c.args.desk.now) = c.tree_len.ensures ∙ ap tree_len c.sizes_of.ensures in
    rw (good-at, ← ids_at, c.if-not-range_good.false, ← tree-at, c.if-not-fit.true)

pub returns : goal.returns
unfolding row_checked
returns c =
    let good-at : good_desk c.args.desk.now ≡ true = sym c.good.ensures ∙ c.if-not-good.false in
    let ids_at : c.h.inside.n ≡ ids_of c.args.desk.now = ap (λ (h : Shape). h.n) (c.h.view_is ∙ c.shape_of-h.ensures) in
    let tree-at : c.tree_len.result ≡ tree_len (sizes_of c.args.desk.now) = c.tree_len.ensures ∙ ap tree_len c.sizes_of.ensures in
    rw (good-at, ← ids_at, c.if-not-range_good.false, ← tree-at, c.if-not-fit.false)
