-- `desk::good` meets its contract: the tests of the definition, in its order; the head decides before the shape is used, and the length before a body is read. Assumes nothing.
use mathlib.Core.Path.{◌≡◌, sym, ap, ◌∙◌}
use mathlib.Core.Bool.{true}
use lib.ListN.{length}
use borrow.Author.Tests.{le-leb, lt-leb, eq-eqb, ne_eqb}
use Rattle.desk.specs.Layout.{shape_of, shape_len}
use Rattle.desk.specs.Good.{good_desk, head_good}
use Rattle.desk.proofs.Known.{head-known}
use Rattle.desk.proofs.good.Goals as goal

pub returns-then-desk-lt-B_AT : goal.returns-then-desk-lt-B_AT
unfolding good_desk
returns-then-desk-lt-B_AT c = rw (lt-leb _ _ c.if-desk-lt-B_AT.true)

pub returns-then-not-head_good : goal.returns-then-not-head_good
unfolding good_desk
returns-then-not-head_good c = rw (le-leb _ _ c.if-desk-lt-B_AT.false, sym c.head_good.ensures ∙ c.if-not-head_good.true)

pub returns-then-desk-len : goal.returns-then-desk-len
unfolding good_desk
returns-then-desk-len c =
    let head-true : head_good c.args.desk.now ≡ true = sym c.head_good.ensures ∙ c.if-not-head_good.false in
    let length-is : c.len.result ≡ shape_len (shape_of c.args.desk.now) = c.len.ensures ∙ ap shape_len c.shape_of-h.ensures in
    let d = c.args.desk.now in
    rw (le-leb _ _ c.if-desk-lt-B_AT.false, head-true, ne_eqb (length d) (shape_len (shape_of d)) (λ e. c.if-desk-len.true (e ∙ sym length-is)))

pub of-requires : goal.of-requires
of-requires c =
    let head-true : head_good c.args.desk.now ≡ true = sym c.head_good.ensures ∙ c.if-not-head_good.false in
    rw c.sizes_of.ensures (head-known _ head-true).sizes

pub bodies_good-requires : goal.bodies_good-requires
bodies_good-requires c = c.if-desk-len.false ∙ c.len.ensures

pub returns : goal.returns
unfolding good_desk
returns c =
    let head-true : head_good c.args.desk.now ≡ true = sym c.head_good.ensures ∙ c.if-not-head_good.false in
    let length-is : c.len.result ≡ shape_len (shape_of c.args.desk.now) = c.len.ensures ∙ ap shape_len c.shape_of-h.ensures in
    let d = c.args.desk.now in
    rw (
      c.contents_good.ensures,
      c.bodies_good.ensures,
      c.shape_of-h.ensures,
      c.of.ensures,
      c.sizes_of.ensures,
      le-leb _ _ c.if-desk-lt-B_AT.false,
      head-true,
      eq-eqb (length d) (shape_len (shape_of d)) (c.if-desk-len.false ∙ length-is),
    )
