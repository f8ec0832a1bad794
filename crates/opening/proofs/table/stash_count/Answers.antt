-- `opening::table::stash_count` meets its contract: body (e) begins with it. Assumes nothing.
use mathlib.Core.Path.{◌≡◌, ap, ◌∙◌}
use native.Mathlib.Omega.{arith}
use Rattle.words.specs.Numbers.{number}
use Rattle.desk.specs.Layout.{e_at, shape_of}
use Rattle.opening.proofs.table.stash_count.Goals as goal

pub get16-requires : goal.get16-requires
get16-requires c =
    let start : c.e_at.result ≡ e_at (shape_of c.args.desk.now) = c.e_at.ensures ∙ ap e_at c.shape_of.ensures in
    let e = start in let w = c.requires.whole in omega arith

pub returns : goal.returns
returns c =
    let start : c.e_at.result ≡ e_at (shape_of c.args.desk.now) = c.e_at.ensures ∙ ap e_at c.shape_of.ensures in
    let a = c.args in c.get16.ensures ∙ ap (number 2 a.desk.now) start
