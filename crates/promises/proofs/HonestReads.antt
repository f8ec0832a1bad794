-- One read of a row over a server that returns what was last written: it leaves the table, and finds the table's own cell. Assumes nothing.
use Rattle.std.specs.Prelude.{Err, Ok, Result}
use Prim.Native.Nat.{ℕ, ◌<◌}
use mathlib.Core.Path.{◌≡◌, refl, sym, ap, ◌∙◌}
use mathlib.Core.Logic.{◌≢◌}
use mathlib.Core.Option.{Option, none, some}
use mathlib.Core.List.{List}
use native.Mathlib.Omega.{arith}
use lib.Dec.{eqb, lit<}
use Rattle.words.proofs.Tests.{by_cases}
use Rattle.sizes.specs.declared.Refusal.{Refusal}
use Rattle.sizes.specs.declared.Refusal.TheVariants.{Forged}
use Rattle.desk.specs.declared.Kind.TheVariants.{Read}
use Rattle.store.specs.declared.Finished.{Finished}
use Rattle.store.specs.declared.Finished.TheVariants as finished
use Rattle.requests.specs.Request.{Answered}
use Rattle.requests.specs.Request.{requested, request_of}
use Rattle.keeping.specs.Table.{Table, plain_answer, plain_buffer}
use Rattle.verdicts.specs.declared.counts.Cell.{Cell}
use Rattle.verdicts.specs.Cells.{record_cell, found_of}
use Rattle.book.specs.MatrixRow.{ReadResult, looked_by, read_of, row_rows, row_checked}
use Rattle.passing.specs.Passing.{finished_outcome}
use Rattle.promises.specs.Stores.{Start, Accepted}
use Rattle.promises.specs.Requests.{table_as}
use Rattle.promises.specs.Rows.{table_cell}
use Rattle.promises.proofs.Answers.{accept-record, accept-never, accept-done}
use Rattle.promises.proofs.Rows.{low-refusal}
use Rattle.promises.proofs.HonestRequests.{Stands, stands-as, not_low, RequestIs, request-is}

-- ---- a read leaves the table

read_same : (f : Result Finished Refusal) (id : ℕ) (content : List ℕ) (table : Table) (u : ℕ) → table_as f Read id content table u ≡ table u
read_same (Ok finished.Record) id content table u = by_cases (eqb u id) (λ t. rw t) (λ t. rw t)
read_same (Ok finished.Never) id content table u = by_cases (eqb u id) (λ t. rw t) (λ t. rw t)
read_same (Ok finished.Done) id content table u = by_cases (eqb u id) (λ t. rw t) (λ t. rw t)
read_same (Err q) id content table u = refl

-- ---- what is found, by what the finish answered

cell-of : (chapter : ℕ) (held : Option (List ℕ)) (buffer now : List ℕ) (f : Result Finished Refusal)
    → (Accepted f → (f ≡ Ok (plain_answer Read held)) × (now ≡ plain_buffer Read held buffer))
    → (cell : Cell) → found_of chapter f now ≡ Ok cell → cell ≡ table_cell chapter held
cell-of chapter none buffer now (Ok finished.Record) w cell h =
    let e = (w accept-record).0 in
    let z : ◌≡◌ {A = ℕ} 0 1 = cc in
    absurd (omega arith)
cell-of chapter (some rec) buffer now (Ok finished.Record) w cell h =
    let e = (w accept-record).1 in
    let k : record_cell chapter now ≡ cell = cc in
    sym k ∙ ap (record_cell chapter) e
cell-of chapter none buffer now (Ok finished.Never) w cell h = cc
cell-of chapter (some rec) buffer now (Ok finished.Never) w cell h =
    let e = (w accept-never).0 in
    let z : ◌≡◌ {A = ℕ} 0 1 = cc in
    absurd (omega arith)
cell-of chapter none buffer now (Ok finished.Done) w cell h =
    let e = (w accept-done).0 in
    let z : ◌≡◌ {A = ℕ} 0 1 = cc in
    absurd (omega arith)
cell-of chapter (some rec) buffer now (Ok finished.Done) w cell h =
    let e = (w accept-done).0 in
    let z : ◌≡◌ {A = ℕ} 0 1 = cc in
    absurd (omega arith)
cell-of chapter held buffer now (Err q) w cell h =
    let z : ◌≡◌ {A = ℕ} 0 1 = cc in
    absurd (omega arith)

pub found-refused : (chapter : ℕ) (now : List ℕ) (q : Refusal) (f : Result Finished Refusal) → found_of chapter f now ≡ Err q → f ≡ Err q
found-refused chapter now q (Ok finished.Record) h = let z : ◌≡◌ {A = ℕ} 0 1 = cc in absurd (omega arith)
found-refused chapter now q (Ok finished.Never) h = let z : ◌≡◌ {A = ℕ} 0 1 = cc in absurd (omega arith)
found-refused chapter now q (Ok finished.Done) h = let z : ◌≡◌ {A = ℕ} 0 1 = cc in absurd (omega arith)
found-refused chapter now q (Err r) h = cc

pub row_low : (desk tree : List ℕ) (first end : ℕ) (draws : List ℕ) (q : Refusal) → row_checked desk tree first end draws ≡ Err q → q ≢ Forged
unfolding row_checked
row_low desk tree first end draws q h = not_low q (low-refusal (row_rows desk tree first end draws) (lit< tt, (lit< tt, (lit< tt, tt))) q h)

refused-cell : (q : Refusal) (cell cell' : Cell) → Err q ≡ Ok cell → cell ≡ cell'
refused-cell q cell cell' h = let z : ◌≡◌ {A = ℕ} 0 1 = cc in absurd (omega arith)

-- ---- one read

module _ (b : Start) (table : Table) where
  pub record ReadIs (chapter id : ℕ) (r : ReadResult) : Type 0 where
    pub stands : Stands b table r.desk r.tree
    pub cell-is : (cell : Cell) → r.found ≡ Ok cell → cell ≡ table_cell chapter (table id)
    pub not_forged : r.found ≢ Err Forged

  read_by : (chapter id : ℕ) (buffer : List ℕ) (a : Answered) (d t p now : List ℕ) → RequestIs b table Read id buffer a d t now
      → ReadIs chapter id (looked_by chapter (requested a d t p now))
  read_by chapter id buffer (Err q) d t p now w =
      record {
        stands = w.stands;
        cell-is = λ cell h. refused-cell q cell (table_cell chapter (table id)) h;
        not_forged = λ h. w.not_forged (let k : q ≡ Forged = cc in ap Err k);
      }
  read_by chapter id buffer (Ok (leaf, f)) d t p now w =
      record {
        stands = stands-as b (table_as f Read id buffer table) table d t (read_same f id buffer table) w.stands;
        cell-is = cell-of chapter (table id) buffer now f w.plain;
        not_forged = λ h. w.not_forged (ap finished_outcome (found-refused chapter now Forged f h));
      }

pub read_is : (b : Start) → b.room < 256 → (table : Table) (desk tree : List ℕ) → Stands b table desk tree → (chapter id x : ℕ) (path buffer : List ℕ)
    → ReadIs b table chapter id (read_of chapter desk tree path buffer id x)
unfolding read_of
read_is b byte table desk tree s chapter id x path buffer =
    let r = request_of desk tree path buffer Read id x in
    read_by b table chapter id buffer r.answer r.desk r.tree r.path r.buffer (request-is b byte table Read id x path buffer desk tree s)
