-- `opening::table::is_placed` meets its contract: the tests of the definition, one by one. Assumes nothing.
use mathlib.Core.Path.{◌≡◌, sym, ap, ◌∙◌}
use native.Mathlib.Omega.{arith}
use lib.Dec.{eqb}
use borrow.Author.Tests.{le-leb, lt-leb}
use Rattle.sizes.specs.Sizes.{bucket_at}
use Rattle.desk.specs.declared.Shape.{Shape}
use Rattle.desk.specs.Layout.{ids_of}
use Rattle.items.specs.declared.View.{View}
use Rattle.opening.proofs.table.is_placed.Goals as goal

pub returns-then-h-id : goal.returns-then-h-id
returns-then-h-id c =
    let ids : c.h.inside.n ≡ ids_of c.args.desk.now = ap (λ (h : Shape). h.n) (c.h.view_is ∙ c.shape_of-h.ensures) in
    let a = c.args in let e = ids in λ bytes. sym (rw (lt-leb a.id (ids_of a.desk.now) (omega (arith, e, c.if-h-id.true))))

pub is_marked-requires : goal.is_marked-requires
is_marked-requires c =
    let ids : c.h.inside.n ≡ ids_of c.args.desk.now = ap (λ (h : Shape). h.n) (c.h.view_is ∙ c.shape_of-h.ensures) in
    let e = ids in (c.requires.0.whole, (c.requires.1.1.1, omega (arith, e, c.if-h-id.false)))

pub position-requires : goal.position-requires
position-requires c =
    let ids : c.h.inside.n ≡ ids_of c.args.desk.now = ap (λ (h : Shape). h.n) (c.h.view_is ∙ c.shape_of-h.ensures) in
    let e = ids in (c.requires.0.whole, (c.requires.1.1.1, omega (arith, e, c.if-h-id.false)))

pub same_bucket-requires : goal.same_bucket-requires
same_bucket-requires c = (rw c.requires.1.0 c.requires.0.range, c.requires.1.1.0)

pub returns : goal.returns
returns c =
    let ids : c.h.inside.n ≡ ids_of c.args.desk.now = ap (λ (h : Shape). h.n) (c.h.view_is ∙ c.shape_of-h.ensures) in
    let a = c.args in
    let e = ids in
    let l = le-leb a.id (ids_of a.desk.now) (omega (arith, e, c.if-h-id.false)) in
    let s = c.same_bucket.ensures ∙ ap (λ (v : View). eqb (bucket_at v.sizes a.leaf a.k) (bucket_at v.sizes v.leaf a.k)) c.requires.1.0 in
    λ bytes. rw (l, c.is_marked.ensures, c.position.ensures, s)
