-- Rows of the verdict book over a server that returns what was last written: they are the plain table's own rows, and leave the table. Assumes nothing.
use Rattle.verdicts.specs.Cells.{counted}
use Rattle.std.specs.Prelude.{Err, Ok, Result}
use Rattle.sizes.specs.declared.Refusal.{Refusal}
use Prim.Native.Nat.{ℕ, suc, ◌+◌, ◌-◌, ◌<◌, ◌≤◌}
use mathlib.Core.Path.{◌≡◌, refl, sym, ap, ap₂, ◌∙◌}
use mathlib.Core.Logic.{◌≢◌}
use mathlib.Core.Bool.{Bool}
use mathlib.Core.List.{List, [], ◌∷◌}
use native.Mathlib.Omega.{arith}
use lib.ListN.{length}
use Rattle.words.specs.Bytes.{zeros}
use Rattle.sizes.specs.declared.Refusal.TheVariants.{Forged}
use Rattle.sizes.specs.Sizes.{record_len, path_len}
use Rattle.desk.specs.Readers.{sizes_of}
use Rattle.items.specs.Real.{real}
use Rattle.keeping.specs.Table.{Table}
use Rattle.verdicts.specs.declared.counts.Cell.{Cell}
use Rattle.verdicts.specs.declared.counts.Counts.{Counts}
use Rattle.verdicts.specs.Cells.{no_counts, plus}
use Rattle.book.specs.MatrixRow.{ReadResult, RunResult, read_of, going_on, row_from, row_checked, row_by}
use Rattle.book.proofs.Passed.{row-passed}
use Rattle.promises.specs.Stores.{ours, Start}
use Rattle.promises.specs.Trees.{TreeState, TreeReached}
use Rattle.promises.specs.Rows.{table_cell, table_counts, PassHeld, row_in, LeavesTable, CountsTable, HonestRows}
use Rattle.promises.proofs.BookRows.{row_counts, not-counted, run_of, was-done, any_row}
use Rattle.promises.proofs.TableRows.{pass-held, held-pass, all-passed, passed-all}
use Rattle.promises.proofs.HonestRequests.{Stands, here}
use Rattle.promises.proofs.HonestReads.{ReadIs, read_is, row_low}
use Rattle.promises.proofs.ReadyRuns.{worn-or-full, worn-alone}
use Rattle.promises.proofs.RowsAnswer.{row_ends}
use Rattle.promises.proofs.RowsExist.{first_row}

-- ---- a run of reads: counts so far are those of the table

module _ (b : Start) (byte : b.room < 256) (table : Table) where
  module _ (chapter n first m : ℕ) where
    record RunIs (r : RunResult) : Type 0 where
      stands : Stands b table r.desk r.tree
      counted : (c : Counts) (complete : Bool) → r.answer ≡ counted c complete → c ≡ table_counts chapter table first m
      not_forged : r.answer ≢ Err Forged

    run_on : (id : ℕ) (r : ReadResult) (more : Cell → RunResult) → ReadIs b table chapter id r
        → ((cell : Cell) → cell ≡ table_cell chapter (table id) → RunIs (more cell)) → (f : Result Cell Refusal) → r.found ≡ f → RunIs (going_on r more f)
    run_on id r more w ih (Ok cell) e = ih cell (w.cell-is cell e)
    run_on id r more w ih (Err q) e =
        record {
          stands = w.stands;
          counted = λ c complete h. absurd (not-counted q c complete h);
          not_forged = λ h. w.not_forged (let k : q ≡ Forged = cc in e ∙ ap Err k);
        }

    run_is : (id : ℕ) (xs : List ℕ) (c : Counts) (desk tree path buffer : List ℕ) (k : ℕ) → Stands b table desk tree → id ≡ first + k
        → c ≡ table_counts chapter table first k → k + length xs ≡ m → RunIs (row_from chapter n id xs c desk tree path buffer)
    unfolding row_from
    run_is id [] c desk tree path buffer k s i e l =
        let j : k ≡ m = omega arith in
        record {
          stands = s;
          counted = λ c' complete h. ap row_counts (sym h) ∙ e ∙ ap (table_counts chapter table first) j;
          not_forged = λ h. let z : ◌≡◌ {A = ℕ} 0 1 = cc in omega arith;
        }
    run_is id (x ∷ xs) c desk tree path buffer k s i e l =
        let r = read_of chapter desk tree path buffer id x in
        let w = read_is b byte table desk tree s chapter id x path buffer in
        run_on id r (λ cell. row_from chapter n (suc id) xs (plus cell c) r.desk r.tree r.path r.buffer) w
        (λ cell o.
        run_is (suc id) xs (plus cell c) r.desk r.tree r.path r.buffer (suc k) w.stands (omega arith)
        (ap₂ plus (o ∙ ap (λ (u : ℕ). table_cell chapter (table u)) i) e)
        (omega arith))
        r.found refl

-- ---- the row

module _ (b : Start) (byte : b.room < 256) (ts : TreeState) (reached : TreeReached (ours real) b ts) (chapter first end : ℕ) (draws : List ℕ) where
  run : RunIs b byte ts.state.table chapter (end - first) first (length draws) (run_of ts.state.desk ts.tree chapter first end draws)
  run =
      run_is b byte ts.state.table chapter (end - first) first (length draws) first draws no_counts ts.state.desk ts.tree
      (zeros (path_len (sizes_of ts.state.desk))) (zeros record_len) 0 (here b ts reached) (omega arith) refl (omega arith)

  by-outcome : (o : Result Unit Refusal) → LeavesTable b ts (row_by o ts.state.desk ts.tree chapter first end draws)
  by-outcome (Err q) = record { after = ts; reached = reached; desk_is = refl; tree_is = refl; table_is = λ u. refl }
  by-outcome (Ok tt) =
      let s = run.stands in
      record { after = s.at; reached = s.reached; desk_is = s.desk_is; tree_is = s.tree_is; table_is = s.table_is }

  forged-not : (o : Result Unit Refusal) → row_checked ts.state.desk ts.tree first end draws ≡ o
      → (row_by o ts.state.desk ts.tree chapter first end draws).answer ≢ Err Forged
  forged-not (Err q) e h = row_low ts.state.desk ts.tree first end draws q e (let k : q ≡ Forged = cc in k)
  forged-not (Ok tt) e h = run.not_forged h

  module _ (c : Counts) (complete : Bool) (h : (row_in ts chapter first end draws).answer ≡ counted c complete) where
    counts-table : CountsTable ts chapter first end c complete
    counts-table =
        let w = was-done ts.state.desk ts.tree chapter first end draws c complete h in
        let l = (row-passed w.0).draws_length in
        let are : c ≡ table_counts chapter ts.state.table first (end - first) = run.counted c complete w.1 ∙ ap (table_counts chapter ts.state.table first) l in
        let up = (any_row.adds_up ts.state.desk ts.tree chapter first end draws c complete h).1 in
        record {
          counts_are = are;
          complete_if = (
            (λ t id i j. held_at id i j (sym (ap (λ (x : Counts). x.passed) are) ∙ up.0 t)),
            (λ f. up.1 (ap (λ (x : Counts). x.passed) are ∙ all_held f)),
          );
        }
      where
        held_at : (id : ℕ) → first ≤ id → id < end → (table_counts chapter ts.state.table first (end - first)).passed ≡ end - first → PassHeld chapter (ts.state.table id)
        held_at id i j e =
            let k : first + (id - first) ≡ id = omega arith in
            pass-held chapter (ts.state.table id)
            (ap (λ (u : ℕ). table_cell chapter (ts.state.table u)) (sym k) ∙ all-passed chapter ts.state.table first (end - first) e (id - first) (omega arith))

        all_held : ((id : ℕ) → first ≤ id → id < end → PassHeld chapter (ts.state.table id)) → (table_counts chapter ts.state.table first (end - first)).passed ≡ end - first
        all_held f =
            passed-all chapter ts.state.table first (end - first)
            (λ k g. held-pass chapter (ts.state.table (first + k)) (f (first + k) (omega arith) (omega arith)))

pub honest_rows : HonestRows
honest_rows =
    record {
      counts = counts-table;
      leaves = λ b byte ts reached chapter first end draws. by-outcome b byte ts reached chapter first end draws (row_checked ts.state.desk ts.tree first end draws);
      never_forged =
          λ b byte ts reached chapter first end draws.
          forged-not b byte ts reached chapter first end draws (row_checked ts.state.desk ts.tree first end draws) refl;
      answers = λ b byte ts reached chapter first end draws o q h. worn-or-full b q (row_ends b byte ts reached chapter first end draws o q h);
      roomy = λ b byte room ts reached chapter first end draws o q h. worn-alone b q room (row_ends b byte ts reached chapter first end draws o q h);
      first_row = λ b lent p room tree size chapter id draw low high all. first_row b lent p room tree size chapter id draw low high (all 0 (omega arith));
    }
