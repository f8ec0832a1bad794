-- A sheet passed through the store: one request for each id of a range, rising, a write of the entry where it holds a record and a read into it where it
-- holds none. The answer, and what the buffers then hold, on every input. Assumes nothing.
use Rattle.sizes.specs.declared.Refusal.{Refusal}
use Rattle.std.specs.Prelude.{ℕ, suc, ◌+◌, cond, List, [], ◌∷◌, Err, Ok, Result}
use Rattle.words.specs.Bytes.{splice, zeros}
use Rattle.sizes.specs.Sizes.{path_len}
use Rattle.desk.specs.declared.Kind.{Kind}
use Rattle.desk.specs.declared.Kind.TheVariants.{Read, Write}
use Rattle.desk.specs.Readers.{sizes_of}
use Rattle.store.specs.declared.Finished.{Finished}
use Rattle.requests.specs.Request.{Answered}
use Rattle.requests.specs.Request.{RequestResult, request_of}
use Rattle.sheets.specs.Sheet.{entry_start, entry_at, is_record}

abbrev pub kind_of : List ℕ → Kind
kind_of entry = cond (is_record entry) Write Read

-- a request's refusal, if it ended in one
abbrev pub finished_outcome : Result Finished Refusal → Result Unit Refusal
finished_outcome (Ok f) = Ok tt
finished_outcome (Err q) = Err q

abbrev pub outcome_of : Answered → Result Unit Refusal
outcome_of (Err q) = Err q
outcome_of (Ok (leaf, f)) = finished_outcome f

-- ---- one request, its entry lent as the record

pub record EntryResult : Type 0 where
  pub answer : Result Unit Refusal
  pub desk : List ℕ
  pub tree : List ℕ
  pub path : List ℕ
  pub entry : List ℕ

abbrev pub requested_entry : Result Unit Refusal → List ℕ → List ℕ → List ℕ → List ℕ → EntryResult
requested_entry a d t p e = record { answer = a; desk = d; tree = t; path = p; entry = e }

abbrev pub entry_by : RequestResult → EntryResult
entry_by r = requested_entry (outcome_of r.answer) r.desk r.tree r.path r.buffer

unfoldable pub request_entry : List ℕ → List ℕ → List ℕ → List ℕ → ℕ → ℕ → EntryResult
request_entry desk tree path entry id draw = entry_by (request_of desk tree path entry (kind_of entry) id draw)

-- ---- the entries from entry i on, one draw each; entry i is that of the id `first` + i

pub record PassResult : Type 0 where
  pub answer : Result Unit Refusal
  pub desk : List ℕ
  pub tree : List ℕ
  pub path : List ℕ
  pub sheet : List ℕ

abbrev pub passed : Result Unit Refusal → List ℕ → List ℕ → List ℕ → List ℕ → PassResult
passed a d t p s = record { answer = a; desk = d; tree = t; path = p; sheet = s }

-- a refusal ends it
abbrev pub going_on : PassResult → PassResult → Result Unit Refusal → PassResult
going_on here more (Ok tt) = more
going_on here more (Err q) = here

unfoldable pub pass_from : ℕ → ℕ → List ℕ → List ℕ → List ℕ → List ℕ → List ℕ → PassResult
pass_from first i [] desk tree path sheet = passed (Ok tt) desk tree path sheet
pass_from first i (x ∷ xs) desk tree path sheet =
    let r = request_entry desk tree path (entry_at sheet i) (first + i) x in
    let laid = splice sheet (entry_start i) r.entry in
    going_on
    (passed r.answer r.desk r.tree r.path laid)
    (pass_from first (suc i) xs r.desk r.tree r.path laid)
    r.answer

-- ---- a whole sheet; the path begins as zeros

pub record SheetResult : Type 0 where
  pub answer : Result Unit Refusal
  pub desk : List ℕ
  pub tree : List ℕ
  pub sheet : List ℕ

abbrev pub sheet_passed : Result Unit Refusal → List ℕ → List ℕ → List ℕ → SheetResult
sheet_passed a d t s = record { answer = a; desk = d; tree = t; sheet = s }

abbrev pub without_path : PassResult → SheetResult
without_path r = sheet_passed r.answer r.desk r.tree r.sheet

abbrev pub pass_of : List ℕ → List ℕ → ℕ → List ℕ → List ℕ → SheetResult
pass_of desk tree first draws sheet = without_path (pass_from first 0 draws desk tree (zeros (path_len (sizes_of desk))) sheet)
