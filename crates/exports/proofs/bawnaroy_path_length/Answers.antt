-- `exports::bawnaroy_path_length` meets its contract: by whether the sizes are in range. Assumes nothing.
use mathlib.Core.Path.{◌≡◌, sym, ap, ◌∙◌}
use mathlib.Core.Bool.{true}
use Rattle.sizes.specs.Sizes.{sizes_good, path_len}
use Rattle.sizes.proofs.Lengths.{sizes-range}
use Rattle.exports.specs.Codes.{length_by}
use Rattle.exports.proofs.Lengths.{length-out, length-in}
use Rattle.exports.proofs.bawnaroy_path_length.Goals as goal

pub returns-then-not-good : goal.returns-then-not-good
returns-then-not-good c =
    sym (length-out path_len c.of-s.result (sym c.good.ensures ∙ c.if-not-good.true)) ∙ ap (length_by path_len) c.of-s.ensures

pub path_len-requires : goal.path_len-requires
path_len-requires c =
    let good-at : sizes_good c.of-s.result ≡ true = sym c.good.ensures ∙ c.if-not-good.false in
    sizes-range c.of-s.result good-at

pub returns : goal.returns
returns c =
    let good-at : sizes_good c.of-s.result ≡ true = sym c.good.ensures ∙ c.if-not-good.false in
    c.path_len.ensures ∙ sym (length-in path_len c.of-s.result good-at) ∙ ap (length_by path_len) c.of-s.ensures
