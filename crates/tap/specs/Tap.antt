-- TAP in and out: a text read into the store for a range of ids, and the text that says the range. Number k of a text is id `first` + k − 1. What each
-- answers, and what every buffer then holds, on every input. Assumes nothing.
use Rattle.std.specs.Prelude.{ℕ, ◌-◌, Bool, not, List, [], ◌∷◌, ◌++◌, length, eqb, Err, Ok, Result}
use Rattle.words.specs.Bytes.{splice}
use Rattle.sizes.specs.declared.Refusal.{Refusal}
use Rattle.sizes.specs.declared.Refusal.TheVariants.{BadLength}
use Rattle.sizes.specs.Refusals.{first_of}
use Rattle.book.specs.MatrixRow.{row_rows, row_checked}
use Rattle.printing.specs.Printed.{room_of}
use Rattle.taking.specs.declared.BadText.{BadText}
use Rattle.sheets.specs.Sheet.{empty_sheet}
use Rattle.taking.specs.Taking.{TextResult, take_of}
use Rattle.printing.specs.Printing.{text_of}
use Rattle.tap.specs.declared.NotRead.{NotRead}
use Rattle.tap.specs.declared.NotRead.TheVariants as not_read
use Rattle.passing.specs.Passing.{SheetResult, pass_of}

-- ---- reading: the book's refusals, then the text's, then those of the requests

pub record ReadResult : Type 0 where
  pub answer : Result Unit NotRead
  pub desk : List ℕ
  pub tree : List ℕ

abbrev pub read_in : Result Unit NotRead → List ℕ → List ℕ → ReadResult
read_in a d t = record { answer = a; desk = d; tree = t }

abbrev pub taken_by : Result Unit Refusal → Result Unit NotRead
taken_by (Ok tt) = Ok tt
taken_by (Err q) = Err (not_read.Refused q)

abbrev pub read_passed : SheetResult → ReadResult
read_passed r = read_in (taken_by r.answer) r.desk r.tree

-- no ask comes before the whole text is read
abbrev pub read_text : Result (Unit {0}) BadText → List ℕ → List ℕ → ℕ → List ℕ → List ℕ → ReadResult
read_text (Ok u) desk tree first draws sheet = read_passed (pass_of desk tree first draws sheet)
read_text (Err b) desk tree first draws sheet = read_in (Err (not_read.Bad b)) desk tree

abbrev pub read_taken : TextResult → List ℕ → List ℕ → ℕ → List ℕ → ReadResult
read_taken r desk tree first draws = read_text r.answer desk tree first draws r.sheet

abbrev pub read_by : Result Unit Refusal → List ℕ → List ℕ → ℕ → ℕ → ℕ → ℕ → List ℕ → List ℕ → ReadResult
read_by (Err q) desk tree chapter year first end draws text = read_in (Err (not_read.Refused q)) desk tree
read_by (Ok tt) desk tree chapter year first end draws text = read_taken (take_of chapter year (end - first) text) desk tree first draws

abbrev pub read_of : List ℕ → List ℕ → ℕ → ℕ → ℕ → ℕ → List ℕ → List ℕ → ReadResult
read_of desk tree chapter year first end draws text = read_by (row_checked desk tree first end draws) desk tree chapter year first end draws text

-- ---- writing: the book's refusals, then a buffer of another length than the room for the range; then those of the requests. After a refusal the buffer is as it was

pub record WriteResult : Type 0 where
  pub answer : Result ℕ Refusal
  pub desk : List ℕ
  pub tree : List ℕ
  pub out : List ℕ

abbrev pub wrote : Result ℕ Refusal → List ℕ → List ℕ → List ℕ → WriteResult
wrote a d t o = record { answer = a; desk = d; tree = t; out = o }

abbrev pub write_rows : List ℕ → List ℕ → ℕ → ℕ → List ℕ → List ℕ → List (Bool × Refusal)
write_rows desk tree first end draws out = row_rows desk tree first end draws ++ ((not (eqb (length out) (room_of (end - first))), BadLength) ∷ [])

unfoldable pub write_checked : List ℕ → List ℕ → ℕ → ℕ → List ℕ → List ℕ → Result Unit Refusal
write_checked desk tree first end draws out = first_of (write_rows desk tree first end draws out)

-- the text goes to the buffer's front, and the answer is its length
abbrev pub printed_by : Result Unit Refusal → ℕ → ℕ → SheetResult → List ℕ → WriteResult
printed_by (Err q) chapter n r out = wrote (Err q) r.desk r.tree out
printed_by (Ok tt) chapter n r out =
    wrote (Ok (length (text_of chapter n r.sheet))) r.desk r.tree (splice out 0 (text_of chapter n r.sheet))

abbrev pub write_passed : ℕ → ℕ → SheetResult → List ℕ → WriteResult
write_passed chapter n r out = printed_by r.answer chapter n r out

abbrev pub write_by : Result Unit Refusal → List ℕ → List ℕ → ℕ → ℕ → ℕ → List ℕ → List ℕ → WriteResult
write_by (Err q) desk tree chapter first end draws out = wrote (Err q) desk tree out
write_by (Ok tt) desk tree chapter first end draws out =
    write_passed chapter (end - first) (pass_of desk tree first draws (empty_sheet (end - first))) out

abbrev pub write_of : List ℕ → List ℕ → ℕ → ℕ → ℕ → List ℕ → List ℕ → WriteResult
write_of desk tree chapter first end draws out = write_by (write_checked desk tree first end draws out) desk tree chapter first end draws out
