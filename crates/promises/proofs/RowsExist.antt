-- There are counted rows: on a fresh store a row of one id is counted, and its case is not run. Assumes nothing.
use Rattle.verdicts.specs.Cells.{counted}
use Rattle.std.specs.Prelude.{Result}
use Rattle.sizes.specs.declared.Refusal.{Refusal}
use Prim.Native.Nat.{ℕ, ◌+◌, ◌-◌, ◌<◌, ◌≤◌}
use mathlib.Core.Path.{◌≡◌, ap, ◌∙◌}
use mathlib.Core.Bool.{false}
use mathlib.Core.List.{List, [], ◌∷◌}
use lib.ListN.{length}
use lib.Dec.{eqb}
use Rattle.words.specs.Bytes.{zeros}
use Rattle.words.proofs.Splice.{length-zeros}
use Rattle.sizes.specs.Sizes.{record_len, leaves, tree_len}
use Rattle.desk.specs.declared.Kind.TheVariants.{Read}
use Rattle.requests.specs.Request.{Answered}
use Rattle.verdicts.specs.declared.counts.Cell.{Cell}
use Rattle.verdicts.specs.declared.counts.Cell.TheVariants.{NotRun}
use Rattle.verdicts.specs.Cells.{no_counts, plus}
use Rattle.book.specs.MatrixRow.{RunResult, found_by, read_of, looked_by, going_on, row_from, row_by, row_of}
use Rattle.promises.specs.Stores.{Start, format_for}
use Rattle.promises.specs.Requests.{request_for}
use Rattle.promises.specs.Exists.{Proper}
use Rattle.promises.proofs.BookRows.{run_of}
use Rattle.promises.proofs.FirstRequests as fresh
use Rattle.promises.proofs.FirstRequests.{one-id, checked, first-answer}

module _ (b : Start) (lent : List ℕ) (p : Proper b lent) (room : 1 ≤ b.room) (tree : List ℕ) (size : length tree ≡ tree_len b.sizes) (chapter id draw : ℕ)
    (low : 1 ≤ id) (high : id ≤ b.ids) (leaf : draw < leaves b.sizes) where
  abbrev desk : List ℕ
  desk = (format_for b lent).desk

  counted-once : (run_of desk tree chapter id (id + 1) (draw ∷ [])).answer ≡ counted (plus NotRun no_counts) false
  unfolding row_from read_of
  counted-once =
      let r = request_for (fresh.ts b lent p tree size) (fresh.path b lent p tree size) (zeros record_len) Read id draw in
      let more : Cell → RunResult = λ cell. row_from chapter (id + 1 - id) (id + 1) [] (plus cell no_counts) r.desk r.tree r.path r.buffer in
      ap (λ (a : Answered). (going_on (looked_by chapter r) more (found_by chapter a r.buffer)).answer)
      (first-answer b lent p tree size room Read (zeros record_len) (length-zeros record_len) id draw low high leaf)
      ∙ ap (λ (n : ℕ). counted (plus NotRun no_counts) (eqb 0 n)) (one-id id)

  pub first_row : (row_of desk tree chapter id (id + 1) (draw ∷ [])).answer ≡ counted (plus NotRun no_counts) false
  first_row = ap (λ (o : Result Unit Refusal). (row_by o desk tree chapter id (id + 1) (draw ∷ [])).answer) (checked b lent p tree size id draw low high) ∙ counted-once
