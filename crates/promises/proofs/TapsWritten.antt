-- A text that is written over a server that returns what was last written is what the plain table says, and the table stays. Assumes nothing.
use Rattle.std.specs.Prelude.{Err, Ok, Result}
use Prim.Native.Nat.{ℕ, ◌+◌, ◌-◌, ◌*◌, ◌<◌}
use mathlib.Core.Path.{◌≡◌, refl, sym, ap, ◌∙◌}
use mathlib.Core.Logic.{◌≢◌}
use mathlib.Core.Option.{Option, none, some}
use mathlib.Core.List.{List}
use native.Mathlib.Omega.{arith}
use lib.ListN.{length}
use lib.Dec.{lit<}
use Rattle.words.specs.Bytes.{splice, zeros}
use Rattle.words.proofs.Splice.{part-whole, length-zeros}
use Rattle.sizes.specs.declared.Refusal.{Refusal}
use Rattle.sizes.specs.declared.Refusal.TheVariants.{Forged}
use Rattle.sizes.specs.Sizes.{record_len, path_len}
use Rattle.desk.specs.Readers.{sizes_of}
use Rattle.items.specs.Real.{real}
use Rattle.keeping.specs.Table.{Table, plain_buffer}
use Rattle.book.proofs.Passed.{row-passed}
use Rattle.sheets.specs.Sheet.{empty_sheet}
use Rattle.printing.specs.Printing.{text_of}
use Rattle.passing.specs.Passing.{kind_of, pass_from, SheetResult, pass_of}
use Rattle.tap.specs.Tap.{WriteResult, write_rows, write_checked, printed_by, write_by}
use Rattle.promises.specs.Stores.{ours, Start}
use Rattle.promises.specs.Trees.{TreeState, TreeReached}
use Rattle.promises.specs.Taps.{table_after, entry_held, table_sheet, tap_write, Leaves}
use Rattle.promises.proofs.Rows.{low-refusal}
use Rattle.promises.proofs.HonestRequests.{Stands, stands-as, held-long, not_low, here}
use Rattle.promises.proofs.AnyTaps.{row-checked, was-written}
use Rattle.promises.proofs.TableSheets.{empty-entry, empty-after, sheet-says}
use Rattle.promises.proofs.HonestPasses.{PassIs, passes}

write_low : (desk tree : List ℕ) (first end : ℕ) (draws out : List ℕ) (q : Refusal) → write_checked desk tree first end draws out ≡ Err q → q ≢ Forged
unfolding write_checked
write_low desk tree first end draws out q h =
    not_low q (low-refusal (write_rows desk tree first end draws out) (lit< tt, (lit< tt, (lit< tt, (lit< tt, tt)))) q h)

-- a read into an entry that holds none
read_held : (held : Option (List ℕ)) → plain_buffer (kind_of (zeros record_len)) held (zeros record_len) ≡ entry_held held
read_held none = refl
read_held (some rec) = refl

module _ (b : Start) (byte : b.room < 256) (ts : TreeState) (reached : TreeReached (ours real) b ts) where
  abbrev desk : List ℕ
  desk = ts.state.desk

  abbrev tree : List ℕ
  tree = ts.tree

  abbrev table : Table
  table = ts.state.table

  module _ (chapter first end : ℕ) (draws out : List ℕ) where
    abbrev m : ℕ
    m = end - first

    abbrev through : SheetResult
    through = pass_of desk tree first draws (empty_sheet m)

    write-passes : write_checked desk tree first end draws out ≡ Ok tt
        → PassIs b byte table (held-long b byte ts reached) first m (empty_sheet m) (length-zeros (m * record_len))
        (pass_from first 0 draws desk tree (zeros (path_len (sizes_of desk))) (empty_sheet m))
    write-passes e = passes b byte ts reached first m (empty_sheet m) draws (length-zeros (m * record_len)) (row-passed (row-checked desk tree first end draws out e)).draws_length

    -- what it leaves, whatever it answers
    pub record Written (r : WriteResult) : Type 0 where
      stands : Stands b table r.desk r.tree
      pub not_forged : r.answer ≢ Err Forged

    by-pass : (o : Result Unit Refusal) → Stands b table through.desk through.tree → o ≢ Err Forged → Written (printed_by o chapter m through out)
    by-pass (Ok tt) s f = record { stands = s; not_forged = λ h. let z : ◌≡◌ {A = ℕ} 0 1 = cc in omega arith }
    by-pass (Err q) s f = record { stands = s; not_forged = λ h. f (let k : q ≡ Forged = cc in ap Err k) }

    by-write : (o : Result Unit Refusal) → write_checked desk tree first end draws out ≡ o → Written (write_by o desk tree chapter first end draws out)
    by-write (Err q) e =
        record { stands = here b ts reached; not_forged = λ h. write_low desk tree first end draws out q e (let k : q ≡ Forged = cc in k) }
    by-write (Ok tt) e =
        let p = write-passes e in
        by-pass through.answer
        (stands-as b (table_after first p.count (empty_sheet m) table) table through.desk through.tree (empty-after first m p.count table p.count_low) p.stands)
        p.not_forged

    pub written : Written (tap_write ts chapter first end draws out)
    written = by-write (write_checked desk tree first end draws out) refl

    pub write_leaves : Leaves b (tap_write ts chapter first end draws out).desk (tap_write ts chapter first end draws out).tree (λ id held. held ≡ table id)
    write_leaves =
        let s = written.stands in
        record { after = s.at; reached = s.reached; desk_is = s.desk_is; tree_is = s.tree_is; table_is = s.table_is }

    -- the sheet says the table
    sheet-is : write_checked desk tree first end draws out ≡ Ok tt → through.answer ≡ Ok tt → through.sheet ≡ table_sheet table first m
    sheet-is e h =
        let s = (write-passes e).sheet-is h in
        sym (part-whole through.sheet (m * record_len) (omega (arith, s.sheet-long)))
        ∙ sheet-says table first through.sheet m
        (λ j l.
        s.before j l ∙ ap (λ (entry : List ℕ). plain_buffer (kind_of entry) (table (first + j)) entry) (empty-entry m j l) ∙ read_held (table (first + j)))

    module _ (len : ℕ) (h : (tap_write ts chapter first end draws out).answer ≡ Ok len) where
      pub says-table : (len ≡ length (text_of chapter m (table_sheet table first m)))
          × ((tap_write ts chapter first end draws out).out ≡ splice out 0 (text_of chapter m (table_sheet table first m)))
      says-table =
          let w = was-written desk tree chapter first end draws out len h in
          let e = sheet-is w.checked w.says.passes in (
            w.says.length-is ∙ ap (λ (s : List ℕ). length (text_of chapter m s)) e,
            w.says.out_is ∙ ap (λ (s : List ℕ). splice out 0 (text_of chapter m s)) e,
          )
