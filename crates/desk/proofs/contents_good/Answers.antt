-- `desk::contents_good` meets its contract: the array holds the computed contents and nothing else. Assumes nothing.
use mathlib.Core.Path.{sym, ap, ◌∙◌}
use lib.ListN.{take}
use lib.Seq.{length-take-le}
use Rattle.words.specs.Bytes.{zeros, same}
use Rattle.words.proofs.Splice.{splice-whole}
use Rattle.sizes.specs.Sizes.{contents_len}
use Rattle.desk.specs.Layout.{contents}
use Rattle.desk.proofs.Lengths.{length-contents}
use Rattle.desk.proofs.contents_good.Goals as goal

pub slice_bounds-same-end : goal.slice_bounds-same-end
slice_bounds-same-end c = sym (length-take-le contents_len c.args.desk.now c.requires)

pub returns : goal.returns
returns c =
    let a = c.args in
    c.same.ensures ∙ ap (same (take contents_len a.desk.now)) (c.put_contents.ensures ∙ splice-whole (zeros contents_len) (contents a.h) (length-contents a.h))
