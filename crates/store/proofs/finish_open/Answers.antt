-- `store::finish_open` meets its contract: each return gives the first row of the path's that applies. Assumes nothing.
use mathlib.Core.Path.{◌≡◌, sym, ap, subst, ◌∙◌}
use native.Mathlib.Omega.{arith}
use lib.ListN.{length}
use Rattle.words.proofs.Splice.{length-zeros}
use Rattle.sizes.specs.Sizes.{path_len, most_path}
use Rattle.items.specs.declared.View.{View}
use Rattle.items.specs.Way.{Reached}
use Rattle.opening.proofs.Open.{view-range}
use Rattle.store.proofs.Rows.{worn-is, path-forged, path-worn, path-passed}
use Rattle.store.proofs.finish_open.Goals as goal

pub open_path-requires : goal.open_path-requires
open_path-requires c =
    let e = c.view-v.ensures in record { open_desk = (c.requires.open_desk.0, (e, c.requires.path_len.0 ∙ ap (λ (x : View). path_len x.sizes) (sym e))); w_len = length-zeros most_path }

pub returns-in_default : goal.returns-in_default
returns-in_default c =
    let a = c.args in
    rw c.from.ensures (path-forged a.desk.now a.path.now a.«record».now (sym (rw c.in_default.is at c.open_path.ensures.good)))

pub is_worn-requires : goal.is_worn-requires
is_worn-requires c =
    let v = c.view-v in
    let z : length c.args.path.now ≡ path_len v.result.sizes = c.requires.path_len.0 ∙ ap (λ (x : View). path_len x.sizes) (sym v.ensures) in (
      record { range = view-range c.args.desk.now c.requires.open_desk.0 v.result v.ensures; room = omega (arith, z) },
      subst (λ (x : View). Reached x c.args.path.now c.in-Ok.n) (sym v.ensures) c.in-Ok.ensures.count,
    )

pub returns-then-is_worn : goal.returns-then-is_worn
returns-then-is_worn c =
    let a = c.args in
    let v = c.view-v in
    rw c.from-then-is_worn.ensures (path-worn a.desk.now a.path.now a.«record».now (sym c.in-Ok.ensures.good) (sym (c.is_worn.ensures ∙ worn-is a.desk.now a.path.now v.result v.ensures) ∙ c.if-is_worn.true))

pub place-requires : goal.place-requires
place-requires c =
    let o = c.in-Ok.ensures in (
      record {
        good = c.requires.open_desk.0;
        new_leaf_low = c.requires.open_desk.1;
        view = c.view-v.ensures;
        size = c.requires.path_len.0;
        reached = o.count;
        unsealed = o.opened c.in-Ok.n o.count;
        checks = sym o.good;
      },
      c.requires.path_len.1,
    )

pub returns : goal.returns
returns c =
    let a = c.args in
    let v = c.view-v in
    c.place.ensures
    ∙ path-passed a.desk.now a.path.now a.«record».now (sym c.in-Ok.ensures.good) (sym (c.is_worn.ensures ∙ worn-is a.desk.now a.path.now v.result v.ensures) ∙ c.if-is_worn.false)
