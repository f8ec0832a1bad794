-- `settling::set_place` meets its contract: the place at its beginning in body (d). Assumes nothing.
use mathlib.Core.Path.{◌≡◌, ap, ◌∙◌}
use Rattle.desk.specs.Layout.{d_at, shape_of}
use Rattle.desk.specs.Changes.{with_place}
use borrow.Author.Rules.{rules}
use Rattle.settling.proofs.set_place.Goals as goal

pub overflow_add-at : goal.overflow_add-at
overflow_add-at c =
    let start : c.d_at.result ≡ d_at (shape_of c.args.desk.now) = c.d_at.ensures ∙ ap d_at c.shape_of.ensures in
    let e = start in let w = c.requires.0.size in search rules

pub put_place-requires : goal.put_place-requires
put_place-requires c =
    let start : c.d_at.result ≡ d_at (shape_of c.args.desk.now) = c.d_at.ensures ∙ ap d_at c.shape_of.ensures in
    let e = start in let w = c.requires.0.size in search rules

pub returns : goal.returns
unfolding with_place
returns c =
    let start : c.d_at.result ≡ d_at (shape_of c.args.desk.now) = c.d_at.ensures ∙ ap d_at c.shape_of.ensures in
    rw (c.put_place.ensures, start)
