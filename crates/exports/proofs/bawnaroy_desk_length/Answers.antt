-- `exports::bawnaroy_desk_length` meets its contract: the layout's own length, by whether N is in range. Assumes nothing.
use mathlib.Core.Path.{◌≡◌, sym, ap, ◌∙◌}
use mathlib.Core.Bool.{true}
use Rattle.sizes.specs.Sizes.{ids_good, desk_len}
use Rattle.desk.specs.Layout.{shape_len}
use Rattle.exports.proofs.Lengths.{desk-out, desk-in}
use Rattle.exports.proofs.bawnaroy_desk_length.Goals as goal

pub returns-then-not-ids_good : goal.returns-then-not-ids_good
returns-then-not-ids_good c = sym (desk-out c.args.ids c.args.stash (sym c.ids_good.ensures ∙ c.if-not-ids_good.true))

pub returns : goal.returns
returns c =
    let in-range : ids_good c.args.ids ≡ true = sym c.ids_good.ensures ∙ c.if-not-ids_good.false in
    let e : c.len.result ≡ desk_len c.args.ids c.args.stash = c.len.ensures ∙ ap shape_len c.new.ensures in
    e ∙ sym (desk-in c.args.ids c.args.stash in-range)
