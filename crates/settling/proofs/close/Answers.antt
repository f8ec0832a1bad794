-- `settling::close` meets its contract: zeros over body (c), and the status last. Assumes nothing.
use mathlib.Core.Path.{◌≡◌, ap, ◌∙◌}
use Rattle.desk.specs.Layout.{c_at, c_len, shape_of}
use Rattle.desk.specs.Status.{at_status}
use Rattle.desk.specs.Changes.{with_request}
use borrow.Author.Rules.{rules}
use Rattle.settling.proofs.close.Goals as goal

pub clear-requires : goal.clear-requires
clear-requires c =
    let start : c.c_at.result ≡ c_at (shape_of c.args.desk.now) = c.c_at.ensures ∙ ap c_at c.shape_of-h.ensures in
    let long : c.c_len.result ≡ c_len (shape_of c.args.desk.now) = c.c_len.ensures ∙ ap c_len c.shape_of-h.ensures in
    let r = long in
    let e = start in
    let w = c.requires.size in
    search rules

pub returns : goal.returns
unfolding at_status with_request
returns c =
    let start : c.c_at.result ≡ c_at (shape_of c.args.desk.now) = c.c_at.ensures ∙ ap c_at c.shape_of-h.ensures in
    let long : c.c_len.result ≡ c_len (shape_of c.args.desk.now) = c.c_len.ensures ∙ ap c_len c.shape_of-h.ensures in
    rw (c.from.ensures, c.clear.ensures, start, long)
