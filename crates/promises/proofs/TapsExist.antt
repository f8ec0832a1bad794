-- There are texts that are read, and texts that are written: on a fresh store a good text for one id is read, and its text is written, version and plan
-- alone. Assumes nothing.
use Rattle.sizes.specs.declared.Refusal.{Refusal}
use Prim.Native.Nat.{ℕ, ◌+◌, ◌-◌, ◌*◌, ◌<◌, ◌≤◌}
use mathlib.Core.Path.{◌≡◌, refl, sym, ap, ◌∙◌}
use mathlib.Core.Option.{Option, none, some}
use mathlib.Core.List.{List, [], ◌∷◌, ◌++◌, append-nil}
use native.Mathlib.Omega.{arith}
use lib.ListN.{length}
use Rattle.words.specs.Bytes.{splice, zeros}
use Rattle.words.proofs.Splice.{length_part, length-zeros}
use Rattle.sizes.specs.Sizes.{record_len, leaves, tree_len}
use Rattle.desk.specs.declared.Kind.{Kind}
use Rattle.desk.specs.declared.Kind.TheVariants.{Read, Write}
use Rattle.keeping.specs.Table.{Table, plain_answer}
use Rattle.sheets.specs.Sheet.{entry_start, entry_at, empty_sheet}
use Rattle.returning.specs.Returning.{reading_said}
use Rattle.returning.proofs.Names.{zeros-bad}
use Rattle.returning.proofs.Entries.{unsaid-text}
use Rattle.std.specs.Prelude.{Result, Ok}
use Rattle.taking.specs.declared.BadText.{BadText}
use Rattle.taking.specs.Taking.{take_of}
use Rattle.printing.specs.Printed.{room_of}
use Rattle.printing.specs.Printing.{head_text, entry_text, entries_text, text_of}
use Rattle.passing.specs.Passing.{kind_of, finished_outcome, outcome_of, request_entry, passed, going_on, pass_from, SheetResult, pass_of}
use Rattle.tap.specs.Tap.{ReadResult, taken_by, read_text, read_of, printed_by, write_by, write_of}
use Rattle.promises.specs.Stores.{Start, format_for}
use Rattle.promises.specs.Exists.{Proper}
use Rattle.promises.specs.Taps.{table_sheet}
use Rattle.promises.proofs.Stands.{none-some}
use Rattle.promises.proofs.AnyTaps.{text-decides, write_checked_lem}
use Rattle.promises.proofs.TableSheets.{table-entry}
use Rattle.promises.proofs.TextSheets.{taken-long}
use Rattle.promises.proofs.TapsWritten.{says-table}
use Rattle.promises.proofs.FirstRequests as fresh
use Rattle.promises.proofs.FirstRequests.{one-id, checked, first-answer}

plain_done : (kind : Kind) (held : Option (List ℕ)) → finished_outcome (Ok (plain_answer kind held)) ≡ Ok tt
plain_done Read none = refl
plain_done Read (some rec) = refl
plain_done Write held = refl

-- ---- what an empty table says

abbrev no_table : Table
no_table u = none

none_said : (chapter first : ℕ) → text_of chapter 1 (table_sheet no_table first 1) ≡ head_text 1
unfolding entries_text
none_said chapter first =
    let e : entry_at (table_sheet no_table first 1) 0 ≡ zeros record_len = table-entry no_table first (λ u rec h. absurd (none-some rec h)) 1 0 (omega arith) in
    ap (λ (rec : List ℕ). head_text 1 ++ (entry_text chapter (0 + 1) rec ++ [])) e
    ∙ ap (λ (t : List ℕ). head_text 1 ++ (t ++ [])) (unsaid-text chapter (0 + 1) (zeros record_len) (ap (reading_said chapter (zeros record_len)) zeros-bad))
    ∙ append-nil (head_text 1)

module _ (b : Start) (lent : List ℕ) (p : Proper b lent) (room : 1 ≤ b.room) (tree : List ℕ) (size : length tree ≡ tree_len b.sizes) (id draw : ℕ)
    (low : 1 ≤ id) (high : id ≤ b.ids) (leaf : draw < leaves b.sizes) where
  abbrev desk : List ℕ
  desk = (format_for b lent).desk

  -- a sheet of one entry passes
  passes : (sheet : List ℕ) → record_len ≤ length sheet → (pass_of desk tree id (draw ∷ []) sheet).answer ≡ Ok tt
  unfolding pass_from request_entry
  passes sheet long =
      let entry = entry_at sheet 0 in
      let path = fresh.path b lent p tree size in
      let r = request_entry desk tree path entry (id + 0) draw in
      let laid = splice sheet (entry_start 0) r.entry in
      ap (λ (a : Result Unit Refusal). (going_on (passed r.answer r.desk r.tree r.path laid) (pass_from id 1 [] r.desk r.tree r.path laid) a).answer)
      (ap outcome_of
      (first-answer b lent p tree size room (kind_of entry) entry (length_part sheet (entry_start 0) record_len (omega arith)) (id + 0) draw (omega arith) (omega arith) leaf)
      ∙ plain_done (kind_of entry) none)

  pub first_text : (chapter year : ℕ) (text : List ℕ) → (take_of chapter year 1 text).answer ≡ Ok tt
      → (read_of desk tree chapter year id (id + 1) (draw ∷ []) text).answer ≡ Ok tt
  first_text chapter year text good =
      let n = id + 1 - id in
      let sheet = (take_of chapter year n text).sheet in
      let e = text-decides desk tree chapter year id (id + 1) (draw ∷ []) text (checked b lent p tree size id draw low high) in
      let g : (take_of chapter year n text).answer ≡ Ok tt = ap (λ (k : ℕ). (take_of chapter year k text).answer) (one-id id) ∙ good in
      ap (λ (r : ReadResult). r.answer) e ∙ ap (λ (a : Result (Unit {0}) BadText). (read_text a desk tree id (draw ∷ []) sheet).answer) g
      ∙ ap taken_by (passes sheet (omega (arith, taken-long chapter year n text)))

  module _ (chapter : ℕ) (out : List ℕ) (long : length out ≡ room_of 1) where
    abbrev n : ℕ
    n = id + 1 - id

    abbrev through : SheetResult
    through = pass_of desk tree id (draw ∷ []) (empty_sheet n)

    is-written : (write_of desk tree chapter id (id + 1) (draw ∷ []) out).answer ≡ Ok (length (text_of chapter n through.sheet))
    is-written =
        ap (λ (o : Result Unit Refusal). (write_by o desk tree chapter id (id + 1) (draw ∷ []) out).answer)
        (write_checked_lem desk tree id (id + 1) (draw ∷ []) out (checked b lent p tree size id draw low high) (long ∙ ap room_of (sym (one-id id))))
        ∙ ap (λ (o : Result Unit Refusal). (printed_by o chapter n through out).answer) (passes (empty_sheet n) (omega (arith, length-zeros (n * record_len))))

    -- the table is empty
    says_none : text_of chapter n (table_sheet no_table id n) ≡ head_text 1
    says_none = ap (λ (k : ℕ). text_of chapter k (table_sheet no_table id k)) (one-id id) ∙ none_said chapter id

    pub first_written : ((write_of desk tree chapter id (id + 1) (draw ∷ []) out).answer ≡ Ok (length (head_text 1)))
        × ((write_of desk tree chapter id (id + 1) (draw ∷ []) out).out ≡ splice out 0 (head_text 1))
    first_written =
        let w =
        says-table b p.room_byte (fresh.ts b lent p tree size) (fresh.reached b lent p tree size) chapter id (id + 1) (draw ∷ []) out
        (length (text_of chapter n through.sheet)) is-written in (
          is-written ∙ ap Ok (w.0 ∙ ap length says_none),
          w.1 ∙ ap (splice out 0) says_none,
        )
