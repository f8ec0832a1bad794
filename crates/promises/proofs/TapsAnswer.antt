-- TAP over a server that returns what was last written, from a ready desk, with leaves drawn: once nothing is refused before the first ask, a text is read,
-- or written, or it ends as a run of requests does. Assumes nothing.
use Prim.Native.Nat.{ℕ, suc, ◌+◌, ◌-◌, ◌*◌, ◌<◌, ◌≤◌}
use mathlib.Core.Path.{◌≡◌, refl, sym, ap, ◌∙◌}
use mathlib.Core.List.{List, [], ◌∷◌}
use native.Mathlib.Omega.{arith}
use lib.ListN.{length}
use Rattle.words.specs.Bytes.{splice, zeros}
use Rattle.words.proofs.Splice.{length_part, length-zeros}
use Rattle.sizes.specs.declared.Refusal.{Refusal}
use Rattle.sizes.specs.Sizes.{record_len, leaves, path_len}
use Rattle.sizes.proofs.Rows.{not-refused}
use Rattle.desk.specs.Readers.{sizes_of, status_of}
use Rattle.desk.specs.Status.{ready_status}
use Rattle.items.specs.Real.{real}
use Rattle.book.specs.MatrixRow.{row_checked}
use Rattle.book.proofs.Passed.{row-passed}
use Rattle.sheets.specs.Sheet.{entry_start, entry_at, empty_sheet}
use Rattle.returning.proofs.Sheets.{fill-long}
use Rattle.tap.specs.declared.NotRead.TheVariants as not_read
use Rattle.std.specs.Prelude.{Result, Err, Ok}
use Rattle.taking.specs.declared.BadText.{BadText}
use Rattle.passing.specs.Passing.{EntryResult, kind_of, request_entry, PassResult, going_on, pass_from, pass_of}
use Rattle.tap.specs.Tap.{ReadResult, read_text, write_by}
use Rattle.promises.specs.Stores.{ours, Start}
use Rattle.promises.specs.Trees.{TreeState, TreeReached}
use Rattle.promises.specs.Rows.{AllLeaves}
use Rattle.promises.specs.Taps.{tap_read, tap_write, sheet_of, MayRead, MayWrite}
use Rattle.promises.proofs.ReadyRequests.{Ends}
use Rattle.promises.proofs.ReadyRuns.{Goes, request-ends, begins, range-high}
use Rattle.promises.proofs.AnyTaps.{text-decides, taken-same, printed-same, row-checked}
use Rattle.promises.proofs.TextSheets.{taken-long}

-- ---- a sheet of n entries for the ids from `first` on

module _ (b : Start) (byte : b.room < 256) where
  -- an entry goes on, or ends the pass in one of the ways
  record EntryEnds (r : EntryResult) : Type 0 where
    goes : r.answer ≡ Ok tt → Goes b byte r.desk r.tree r.path × (length r.entry ≡ record_len)
    ends : (q : Refusal) → r.answer ≡ Err q → Ends b q

  entry-ends : (id x : ℕ) (desk tree path entry : List ℕ) → Goes b byte desk tree path → length entry ≡ record_len → 1 ≤ id → id ≤ b.ids → x < leaves b.sizes
      → EntryEnds (request_entry desk tree path entry id x)
  unfolding request_entry
  entry-ends id x desk tree path entry g long low high leaf =
      let w = request-ends b byte (kind_of entry) id x path entry desk tree g long low high leaf in
      record { goes = w.goes; ends = w.ends }

  pass_on : (here more : PassResult) (q : Refusal) (a : Result Unit Refusal) → here.answer ≡ a → (a ≡ Err q → Ends b q)
      → (a ≡ Ok tt → more.answer ≡ Err q → Ends b q) → (going_on here more a).answer ≡ Err q → Ends b q
  pass_on here more q (Ok tt) e now then h = then refl h
  pass_on here more q (Err p) e now then h = now (sym e ∙ h)

  pass-ends : (first n i : ℕ) (xs desk tree path sheet : List ℕ) → Goes b byte desk tree path → length sheet ≡ n * record_len → i + length xs ≡ n → 1 ≤ first
      → first + n ≤ b.ids + 1 → AllLeaves b xs → (q : Refusal) → (pass_from first i xs desk tree path sheet).answer ≡ Err q → Ends b q
  unfolding pass_from
  pass-ends first n i [] desk tree path sheet g long all low high leaf q h = absurd (not-refused q (sym h))
  pass-ends first n i (x ∷ xs) desk tree path sheet g long all low high leaf q h =
      let r = request_entry desk tree path (entry_at sheet i) (first + i) x in
      let laid = splice sheet (entry_start i) r.entry in
      let w =
      entry-ends (first + i) x desk tree path (entry_at sheet i) g (length_part sheet (entry_start i) record_len (omega arith)) (omega arith) (omega arith)
      (leaf 0 (omega arith)) in
      pass_on _ (pass_from first (suc i) xs r.desk r.tree r.path laid) q r.answer refl (w.ends q)
      (λ d.
      let o = w.goes d in
      pass-ends first n (suc i) xs r.desk r.tree r.path laid o.0 (fill-long i sheet r.entry o.1 (omega arith) ∙ long) (omega arith) low high
      (λ k l. leaf (suc k) (omega arith)) q)
      h

  -- ---- from a state that is reached

  module _ (ts : TreeState) (reached : TreeReached (ours real) b ts) (first end : ℕ) (draws sheet : List ℕ) (ready : status_of ts.state.desk ≡ ready_status)
      (checked : row_checked ts.state.desk ts.tree first end draws ≡ Ok tt) (all_leaves : AllLeaves b draws)
      (long : length sheet ≡ (end - first) * record_len) (q : Refusal) where
    sheet-ends : (pass_of ts.state.desk ts.tree first draws sheet).answer ≡ Err q → Ends b q
    sheet-ends =
        let w = row-passed checked in
        let k : first + (end - first) ≤ b.ids + 1 = omega (arith, range-high b byte ts reached first end draws checked, w.draws_length) in
        pass-ends first (end - first) 0 draws ts.state.desk ts.tree (zeros (path_len (sizes_of ts.state.desk))) sheet (begins b byte ts reached ready) long
        (omega (arith, w.draws_length)) w.range.low k all_leaves q

-- ---- a text

module _ (b : Start) (byte : b.room < 256) (ts : TreeState) (reached : TreeReached (ours real) b ts) where
  abbrev desk : List ℕ
  desk = ts.state.desk

  abbrev tree : List ℕ
  tree = ts.tree

  pub read-ends : (chapter year first end : ℕ) (draws text : List ℕ) → MayRead b ts chapter year first end draws text → (q : Refusal)
      → (tap_read ts chapter year first end draws text).answer ≡ Err (not_read.Refused q) → Ends b q
  read-ends chapter year first end draws text o q h =
      let sheet = sheet_of chapter year first end text in
      let m = o.may_begin in
      let e = text-decides desk tree chapter year first end draws text m.checked ∙ ap (λ (a : Result (Unit {0}) BadText). read_text a desk tree first draws sheet) o.good in
      sheet-ends b byte ts reached first end draws sheet m.ready m.checked m.all_leaves (taken-long chapter year (end - first) text) q
      (taken-same (pass_of desk tree first draws sheet).answer q (sym (ap (λ (r : ReadResult). r.answer) e) ∙ h))

  pub write-ends : (chapter first end : ℕ) (draws out : List ℕ) → MayWrite b ts first end draws out → (q : Refusal)
      → (tap_write ts chapter first end draws out).answer ≡ Err q → Ends b q
  write-ends chapter first end draws out o q h =
      let n = end - first in
      let r = pass_of desk tree first draws (empty_sheet n) in
      sheet-ends b byte ts reached first end draws (empty_sheet n) o.ready (row-checked desk tree first end draws out o.checked) o.all_leaves
      (length-zeros (n * record_len)) q
      (printed-same chapter n r out q r.answer (sym (ap (λ (a : Result Unit Refusal). (write_by a desk tree chapter first end draws out).answer) o.checked) ∙ h))
