-- Writing: the refusals in order, and what the pass of an empty sheet and the text printed of it give. Assumes nothing.
use Rattle.std.specs.Prelude.{Err, Ok, Result}
use Prim.Native.Nat.{ℕ, ◌-◌}
use mathlib.Core.Path.{◌≡◌, refl, sym, ap, ap₂, ◌∙◌}
use mathlib.Core.Bool.{Bool, true, false, cond, not}
use mathlib.Core.List.{List, [], ◌∷◌, ◌++◌}
use native.Mathlib.Omega.{arith}
use lib.ListN.{length}
use lib.Dec.{eqb}
use borrow.Author.Tests.{eqb-true, eq-eqb, ne_eqb, not-false}
use Rattle.sizes.specs.declared.Refusal.{Refusal}
use Rattle.sizes.specs.declared.Refusal.TheVariants.{BadLength}
use Rattle.sizes.specs.Refusals.{first_of}
use Rattle.sizes.proofs.Rows.{not-refused, none-applies}
use Rattle.listing.specs.Listing.{Wrote}
use Rattle.book.specs.MatrixRow.{row_rows, row_checked}
use Rattle.printing.specs.Printed.{room_of}
use Rattle.printing.specs.Printing.{text_of}
use Rattle.sheets.specs.Sheet.{empty_sheet}
use Rattle.passing.specs.Passing.{SheetResult, sheet_passed, pass_of}
use Rattle.tap.specs.Tap.{wrote, write_checked, printed_by, write_passed, write_by, write_of}

-- ---- rows after rows: the earlier refuse first

abbrev following : Result Unit Refusal → Result Unit Refusal → Result Unit Refusal
following (Err q) o = Err q
following (Ok tt) o = o

row_more : (b : Bool) (q : Refusal) (o p more : Result Unit Refusal) → p ≡ following o more → cond b (Err q) p ≡ following (cond b (Err q) o) more
row_more true q o p more h = refl
row_more false q o p more h = h

rows_more : (rows more : List (Bool × Refusal)) → first_of (rows ++ more) ≡ following (first_of rows) (first_of more)
rows_more [] more = refl
rows_more (row ∷ rows) more = row_more row.0 row.1 (first_of rows) (first_of (rows ++ more)) (first_of more) (rows_more rows more)

both-done : (o p : Result Unit Refusal) → following o p ≡ Ok tt → (o ≡ Ok tt) × (p ≡ Ok tt)
both-done (Err q) p h = absurd (not-refused q h)
both-done (Ok tt) p h = (refl, h)

-- ---- the refusals before any ask

-- the row of a buffer's length
abbrev length_row : Bool → Result Unit Refusal
length_row b = cond b (Err BadLength) (Ok tt)

module _ (desk tree : List ℕ) (first end : ℕ) (draws out : List ℕ) where
  checked-is : following (row_checked desk tree first end draws) (length_row (not (eqb (length out) (room_of (end - first))))) ≡ write_checked desk tree first end draws out
  unfolding row_checked write_checked
  checked-is = sym (rows_more (row_rows desk tree first end draws) ((not (eqb (length out) (room_of (end - first))), BadLength) ∷ []))

  pub checked_refused : {q : Refusal} → row_checked desk tree first end draws ≡ Err q → Err q ≡ write_checked desk tree first end draws out
  checked_refused h = ap (λ (o : Result Unit Refusal). following o (length_row (not (eqb (length out) (room_of (end - first)))))) (sym h) ∙ checked-is

  by_length : row_checked desk tree first end draws ≡ Ok tt → {b : Bool} → eqb (length out) (room_of (end - first)) ≡ b → length_row (not b) ≡ write_checked desk tree first end draws out
  by_length h f =
      ap (λ (b : Bool). length_row (not b)) (sym f)
      ∙ ap (λ (o : Result Unit Refusal). following o (length_row (not (eqb (length out) (room_of (end - first)))))) (sym h) ∙ checked-is

  pub checked-length : row_checked desk tree first end draws ≡ Ok tt → {room : ℕ} → room ≡ room_of (end - first) → (length out ≡ room → ⊥)
      → Err BadLength ≡ write_checked desk tree first end draws out
  checked-length h e f = by_length h (ne_eqb _ _ (λ g. f (g ∙ sym e)))

  pub checked-done : row_checked desk tree first end draws ≡ Ok tt → {room : ℕ} → room ≡ room_of (end - first) → length out ≡ room
      → (Ok tt) ≡ write_checked desk tree first end draws out
  checked-done h e f = by_length h (eq-eqb _ _ (f ∙ e))

-- where none applies: the book's refuse nothing, and the buffer is the room for the range
pub record WritePassed (desk tree : List ℕ) (first end : ℕ) (draws out : List ℕ) : Type 0 where
  pub row : row_checked desk tree first end draws ≡ Ok tt
  pub room : length out ≡ room_of (end - first)

pub write-passed : {desk tree : List ℕ} {first end : ℕ} {draws out : List ℕ} → write_checked desk tree first end draws out ≡ Ok tt → WritePassed desk tree first end draws out
write-passed {desk} {tree} {first} {end} {draws} {out} h =
    let t = not (eqb (length out) (room_of (end - first))) in
    let d = both-done (row_checked desk tree first end draws) (length_row t) (checked-is desk tree first end draws out ∙ h) in
    record { row = d.0; room = eqb-true _ _ (not-false _ (none-applies ((t, BadLength) ∷ []) d.1).0) }

-- ---- the pass, and what is printed of it

module _ (desk tree : List ℕ) (chapter first n : ℕ) (draws out : List ℕ) {sheet : List ℕ} (z : sheet ≡ empty_sheet n) {o : Result Unit Refusal} {d t s : List ℕ}
    (e : sheet_passed o d t s ≡ pass_of desk tree first draws sheet) where
  by-pass : {x : Result Unit Refusal} → o ≡ x → printed_by x chapter n (sheet_passed o d t s) out ≡ write_passed chapter n (pass_of desk tree first draws (empty_sheet n)) out
  by-pass h =
      ap (λ (x : Result Unit Refusal). printed_by x chapter n (sheet_passed o d t s) out) (sym h)
      ∙ ap (λ (r : SheetResult). write_passed chapter n r out) (e ∙ ap (λ (y : List ℕ). pass_of desk tree first draws y) z)

  pub range-refused : {q : Refusal} → o ≡ Err q → wrote (Err q) d t out ≡ write_passed chapter n (pass_of desk tree first draws (empty_sheet n)) out
  range-refused h = by-pass h

  pub range-printed : o ≡ Ok tt → {to : List ℕ} {k : ℕ} → Wrote out 0 (text_of chapter n s) to k
      → wrote (Ok k) d t to ≡ write_passed chapter n (pass_of desk tree first draws (empty_sheet n)) out
  range-printed h {k = k} w =
      let m : k ≡ length (text_of chapter n s) = omega (arith, w.next_is) in
      ap₂ (λ (i : ℕ) (y : List ℕ). wrote (Ok i) d t y) m w.is ∙ by-pass h

-- ---- by the checks

module _ (desk tree : List ℕ) (chapter first end : ℕ) (draws out : List ℕ) where
  by-checks : {o : Result Unit Refusal} → write_checked desk tree first end draws out ≡ o → write_by o desk tree chapter first end draws out ≡ write_of desk tree chapter first end draws out
  by-checks h = ap (λ (x : Result Unit Refusal). write_by x desk tree chapter first end draws out) (sym h)

  pub write-refused : {q : Refusal} → write_checked desk tree first end draws out ≡ Err q → wrote (Err q) desk tree out ≡ write_of desk tree chapter first end draws out
  write-refused h = by-checks h

  pub write_done : write_checked desk tree first end draws out ≡ Ok tt → {a : Result ℕ Refusal} {d t to : List ℕ}
      → wrote a d t to ≡ write_passed chapter (end - first) (pass_of desk tree first draws (empty_sheet (end - first))) out
      → wrote a d t to ≡ write_of desk tree chapter first end draws out
  write_done h k = k ∙ by-checks h
