-- `book::row` meets its contract: the checks refuse, or the reads begin with a path and a record of zeros. Assumes nothing.
use Rattle.std.proofs.lemmas.Result.{err_from_is_err_and}
use Rattle.std.specs.Prelude.{Ok}
use Prim.Native.Nat.{◌≤◌}
use mathlib.Core.Path.{◌≡◌, refl, sym, ap, ◌∙◌}
use native.Mathlib.Omega.{arith}
use lib.Seq.{length-take-le}
use Rattle.words.specs.Bytes.{zeros}
use Rattle.words.proofs.Splice.{take-zeros}
use Rattle.sizes.specs.Sizes.{most_path, path_len}
use Rattle.sizes.proofs.Lengths.{path_most}
use Rattle.desk.specs.Readers.{sizes_of}
use Rattle.book.specs.MatrixRow.{row_checked}
use Rattle.book.proofs.Passed.{RowPassed, row-passed, row-refused, row_done}
use Rattle.book.proofs.row.Goals as goal

pub sizes_of-requires : goal.sizes_of-requires
sizes_of-requires c =
    let done : let a = c.args in row_checked a.desk.now a.tree.now a.first a.end a.draws.now ≡ Ok tt = sym c.in_ok-row_checked.ensures in
    let passed : let a = c.args in RowPassed a.desk.now a.tree.now a.first a.end a.draws.now = row-passed done in
    omega (arith, passed.known.size)

pub path_len-n-requires : goal.path_len-n-requires
path_len-n-requires c =
    let done : let a = c.args in row_checked a.desk.now a.tree.now a.first a.end a.draws.now ≡ Ok tt = sym c.in_ok-row_checked.ensures in
    let passed : let a = c.args in RowPassed a.desk.now a.tree.now a.first a.end a.draws.now = row-passed done in
    rw c.sizes_of.ensures passed.known.head.sizes

pub slice_bounds-path-end : goal.slice_bounds-path-end
slice_bounds-path-end c =
    let done : let a = c.args in row_checked a.desk.now a.tree.now a.first a.end a.draws.now ≡ Ok tt = sym c.in_ok-row_checked.ensures in
    let passed : let a = c.args in RowPassed a.desk.now a.tree.now a.first a.end a.draws.now = row-passed done in
    let path_is : c.path_len-n.result ≡ path_len (sizes_of c.args.desk.now) = c.path_len-n.ensures ∙ ap path_len c.sizes_of.ensures in
    let short : c.path_len-n.result ≤ most_path = omega (arith, path_is, path_most _ passed.known.head.sizes) in
    short

pub slice_bounds-read_all-end : goal.slice_bounds-read_all-end
slice_bounds-read_all-end c =
    let done : let a = c.args in row_checked a.desk.now a.tree.now a.first a.end a.draws.now ≡ Ok tt = sym c.in_ok-row_checked.ensures in
    let passed : let a = c.args in RowPassed a.desk.now a.tree.now a.first a.end a.draws.now = row-passed done in
    let path_is : c.path_len-n.result ≡ path_len (sizes_of c.args.desk.now) = c.path_len-n.ensures ∙ ap path_len c.sizes_of.ensures in
    let short : c.path_len-n.result ≤ most_path = omega (arith, path_is, path_most _ passed.known.head.sizes) in
    sym (length-take-le c.path_len-n.result (zeros most_path) short)

pub read_all-requires : goal.read_all-requires
read_all-requires c =
    let done : let a = c.args in row_checked a.desk.now a.tree.now a.first a.end a.draws.now ≡ Ok tt = sym c.in_ok-row_checked.ensures in
    let passed : let a = c.args in RowPassed a.desk.now a.tree.now a.first a.end a.draws.now = row-passed done in
    let p = passed in (omega (arith, p.range.rising), p.draws_length)

pub returns-in_err-row_checked : goal.returns-in_err-row_checked
returns-in_err-row_checked c =
    let a = c.args in
    let p = err_from_is_err_and c.from_residual.result c.from_residual.ensures.1 in
    rw (p.1, p.2) (row-refused a.desk.now a.tree.now a.chapter a.first a.end a.draws.now (sym c.in_err-row_checked.ensures))

pub returns : goal.returns
returns c =
    let done : let a = c.args in row_checked a.desk.now a.tree.now a.first a.end a.draws.now ≡ Ok tt = sym c.in_ok-row_checked.ensures in
    let passed : let a = c.args in RowPassed a.desk.now a.tree.now a.first a.end a.draws.now = row-passed done in
    let path_is : c.path_len-n.result ≡ path_len (sizes_of c.args.desk.now) = c.path_len-n.ensures ∙ ap path_len c.sizes_of.ensures in
    let short : c.path_len-n.result ≤ most_path = omega (arith, path_is, path_most _ passed.known.head.sizes) in
    let a = c.args in
    row_done a.desk.now a.tree.now a.chapter a.first a.end a.draws.now done (take-zeros c.path_len-n.result most_path short ∙ ap zeros path_is) refl c.read_all.ensures
