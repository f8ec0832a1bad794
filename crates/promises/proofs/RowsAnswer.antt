-- Rows over a server that returns what was last written, from a ready desk, with leaves drawn: once its own checks are passed a row is counted, or ends as a
-- run of requests does. Assumes nothing.
use Rattle.std.specs.Prelude.{Err, Ok, Result}
use Prim.Native.Nat.{ℕ, suc, ◌+◌, ◌-◌, ◌<◌, ◌≤◌}
use mathlib.Core.Path.{◌≡◌, refl, sym, ap, ◌∙◌}
use mathlib.Core.List.{List, [], ◌∷◌}
use native.Mathlib.Omega.{arith}
use lib.ListN.{length}
use Rattle.words.specs.Bytes.{zeros}
use Rattle.words.proofs.Splice.{length-zeros}
use Rattle.sizes.specs.declared.Refusal.{Refusal}
use Rattle.sizes.specs.Sizes.{record_len, leaves, path_len}
use Rattle.desk.specs.declared.Kind.TheVariants.{Read}
use Rattle.desk.specs.Readers.{sizes_of}
use Rattle.items.specs.Real.{real}
use Rattle.store.specs.declared.Finished.TheVariants as finished
use Rattle.requests.specs.Request.{Answered}
use Rattle.requests.specs.Request.{request_of}
use Rattle.verdicts.specs.declared.counts.Cell.{Cell}
use Rattle.verdicts.specs.declared.counts.Counts.{Counts}
use Rattle.verdicts.specs.Cells.{plus, no_counts}
use Rattle.book.specs.MatrixRow.{ReadResult, RunResult, found_by, read_of, going_on, row_from, row_by}
use Rattle.book.proofs.Passed.{row-passed}
use Rattle.passing.specs.Passing.{finished_outcome, outcome_of}
use Rattle.promises.specs.Stores.{ours, Start}
use Rattle.promises.specs.Trees.{TreeState, TreeReached}
use Rattle.promises.specs.Rows.{row_in, AllLeaves, MayBegin}
use Rattle.promises.proofs.BookRows.{not-counted}
use Rattle.promises.proofs.HonestReads.{found-refused}
use Rattle.promises.proofs.ReadyRequests.{Ends}
use Rattle.promises.proofs.ReadyRuns.{Goes, request-ends, begins, range-high}

-- ---- one read is a request

found-done : (chapter : ℕ) (now : List ℕ) (cell : Cell) (a : Answered) → found_by chapter a now ≡ Ok cell → outcome_of a ≡ Ok tt
found-done chapter now cell (Ok (leaf, Ok finished.Record)) h = refl
found-done chapter now cell (Ok (leaf, Ok finished.Never)) h = refl
found-done chapter now cell (Ok (leaf, Ok finished.Done)) h = refl
found-done chapter now cell (Ok (leaf, Err q)) h = let z : ◌≡◌ {A = ℕ} 0 1 = cc in absurd (omega arith)
found-done chapter now cell (Err q) h = let z : ◌≡◌ {A = ℕ} 0 1 = cc in absurd (omega arith)

found-outcome : (chapter : ℕ) (now : List ℕ) (q : Refusal) (a : Answered) → found_by chapter a now ≡ Err q → outcome_of a ≡ Err q
found-outcome chapter now q (Ok (leaf, f)) h = ap finished_outcome (found-refused chapter now q f h)
found-outcome chapter now q (Err r) h = let k : r ≡ q = cc in ap Err k

module _ (b : Start) (byte : b.room < 256) where
  -- it goes on, or ends the row in one of the ways
  record ReadEnds (r : ReadResult) : Type 0 where
    goes : (cell : Cell) → r.found ≡ Ok cell → Goes b byte r.desk r.tree r.path × (length r.buffer ≡ record_len)
    ends : (q : Refusal) → r.found ≡ Err q → Ends b q

  read-ends : (chapter id x : ℕ) (desk tree path buffer : List ℕ) → Goes b byte desk tree path → length buffer ≡ record_len → 1 ≤ id → id ≤ b.ids
      → x < leaves b.sizes → ReadEnds (read_of chapter desk tree path buffer id x)
  unfolding read_of
  read-ends chapter id x desk tree path buffer g long low high leaf =
      let r = request_of desk tree path buffer Read id x in
      let w = request-ends b byte Read id x path buffer desk tree g long low high leaf in
      record {
        goes = λ cell h. w.goes (found-done chapter r.buffer cell r.answer h);
        ends = λ q h. w.ends q (found-outcome chapter r.buffer q r.answer h);
      }

  -- ---- a run of reads

  run_on : (r : ReadResult) (more : Cell → RunResult) (q : Refusal) → ReadEnds r
      → ((cell : Cell) → Goes b byte r.desk r.tree r.path × (length r.buffer ≡ record_len) → (more cell).answer ≡ Err q → Ends b q)
      → (f : Result Cell Refusal) → r.found ≡ f → (going_on r more f).answer ≡ Err q → Ends b q
  run_on r more q w ih (Ok cell) e h = ih cell (w.goes cell e) h
  run_on r more q w ih (Err s) e h = w.ends q (e ∙ ap Err (let k : s ≡ q = cc in k))

  run_ends : (chapter n id : ℕ) (xs : List ℕ) (c : Counts) (desk tree path buffer : List ℕ) → Goes b byte desk tree path → length buffer ≡ record_len → 1 ≤ id
      → id + length xs ≤ b.ids + 1 → AllLeaves b xs → (q : Refusal) → (row_from chapter n id xs c desk tree path buffer).answer ≡ Err q → Ends b q
  unfolding row_from
  run_ends chapter n id [] c desk tree path buffer g long low high all q h = absurd (not-counted q _ _ (sym h))
  run_ends chapter n id (x ∷ xs) c desk tree path buffer g long low high all q h =
      let r = read_of chapter desk tree path buffer id x in
      run_on r (λ cell. row_from chapter n (suc id) xs (plus cell c) r.desk r.tree r.path r.buffer) q
      (read-ends chapter id x desk tree path buffer g long low (omega arith) (all 0 (omega arith)))
      (λ cell o.
      run_ends chapter n (suc id) xs (plus cell c) r.desk r.tree r.path r.buffer o.0 o.1 (omega arith) (omega arith) (λ i l. all (suc i) (omega arith)) q)
      r.found refl h

-- ---- the row

module _ (b : Start) (byte : b.room < 256) (ts : TreeState) (reached : TreeReached (ours real) b ts) (chapter first end : ℕ) (draws : List ℕ)
    (o : MayBegin b ts first end draws) (q : Refusal) (h : (row_in ts chapter first end draws).answer ≡ Err q) where
  pub row_ends : Ends b q
  row_ends =
      run_ends b byte chapter (end - first) first draws no_counts ts.state.desk ts.tree (zeros (path_len (sizes_of ts.state.desk))) (zeros record_len)
      (begins b byte ts reached o.ready) (length-zeros record_len) (row-passed o.checked).range.low (range-high b byte ts reached first end draws o.checked)
      o.all_leaves q (sym (ap (λ (x : Result Unit Refusal). (row_by x ts.state.desk ts.tree chapter first end draws).answer) o.checked) ∙ h)
