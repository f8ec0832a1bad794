-- `passing::pass_all` meets its contract: the pass begins with a path of zeros. Assumes nothing.
use Prim.Native.Nat.{◌≤◌}
use mathlib.Core.Path.{◌≡◌, sym, ap, ◌∙◌}
use native.Mathlib.Omega.{arith}
use lib.Seq.{length-take-le}
use Rattle.words.specs.Bytes.{zeros}
use Rattle.words.proofs.Splice.{take-zeros}
use Rattle.sizes.specs.Sizes.{most_path, path_len}
use Rattle.sizes.proofs.Lengths.{path_most}
use Rattle.desk.specs.Readers.{sizes_of}
use Rattle.book.proofs.Passed.{row-passed}
use Rattle.passing.proofs.Whole.{sheet-passed}
use Rattle.passing.proofs.pass_all.Goals as goal

pub sizes_of-requires : goal.sizes_of-requires
sizes_of-requires c = omega (arith, (row-passed c.requires.0).known.size)

pub path_len-n-requires : goal.path_len-n-requires
path_len-n-requires c = rw c.sizes_of.ensures (row-passed c.requires.0).known.head.sizes

pub slice_bounds-path-end : goal.slice_bounds-path-end
slice_bounds-path-end c =
    let path_is : c.path_len-n.result ≡ path_len (sizes_of c.args.desk.now) = c.path_len-n.ensures ∙ ap path_len c.sizes_of.ensures in
    let short : c.path_len-n.result ≤ most_path = omega (arith, path_is, path_most _ (row-passed c.requires.0).known.head.sizes) in
    short

pub slice_bounds-pass-end : goal.slice_bounds-pass-end
slice_bounds-pass-end c =
    let path_is : c.path_len-n.result ≡ path_len (sizes_of c.args.desk.now) = c.path_len-n.ensures ∙ ap path_len c.sizes_of.ensures in
    let short : c.path_len-n.result ≤ most_path = omega (arith, path_is, path_most _ (row-passed c.requires.0).known.head.sizes) in
    sym (length-take-le c.path_len-n.result (zeros most_path) short)

pub pass-requires : goal.pass-requires
pass-requires c =
    let p = row-passed c.requires.0 in
    (omega (arith, p.range.rising), p.draws_length, c.requires.1)

pub returns : goal.returns
returns c =
    let path_is : c.path_len-n.result ≡ path_len (sizes_of c.args.desk.now) = c.path_len-n.ensures ∙ ap path_len c.sizes_of.ensures in
    let short : c.path_len-n.result ≤ most_path = omega (arith, path_is, path_most _ (row-passed c.requires.0).known.head.sizes) in
    let a = c.args in
    sheet-passed a.desk.now a.tree.now a.first a.draws.now a.sheet.now (take-zeros c.path_len-n.result most_path short ∙ ap zeros path_is) c.pass.ensures
