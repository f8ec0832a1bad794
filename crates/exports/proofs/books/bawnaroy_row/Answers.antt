-- `exports::books::bawnaroy_row` meets its contract: it is `book::row`'s, its answer's number, and its counts. Assumes nothing.
use mathlib.Core.Path.{ap, ◌∙◌}
use Rattle.book.specs.MatrixRow.{RowResult}
use Rattle.exports.specs.BookCodes.{row_code, counts_or}
use Rattle.exports.proofs.Book.{row_back}
use Rattle.exports.proofs.books.bawnaroy_row.Goals as goal

pub returns : goal.returns
returns c =
    let e = c.row-row.ensures in
    let lent = c.args.counts.now in
    record {
      number_is = row_back _ (c.row_number.ensures ∙ ap (λ (t : RowResult). row_code t.answer) e);
      desk_is = ap (λ (t : RowResult). t.desk) e;
      tree_is = ap (λ (t : RowResult). t.tree) e;
      counts_is = c.counts_or.ensures ∙ ap (λ (t : RowResult). counts_or t.answer lent) e;
    }
