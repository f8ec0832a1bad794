-- A matrix row: a chapter's counts over the ids from a first up to, not including, an end, read through the store. What it answers, and what desk and
-- tree then hold, on every input. Assumes nothing.
use Rattle.verdicts.specs.Cells.{counted}
use Rattle.std.specs.Prelude.{ℕ, suc, ◌+◌, ◌-◌, Bool, not, ◌&&◌, List, [], ◌∷◌, length, leb, ltb, eqb, Err, Ok, Result}
use Rattle.words.specs.Bytes.{zeros}
use Rattle.sizes.specs.declared.Refusal.{Refusal}
use Rattle.sizes.specs.declared.Refusal.TheVariants.{BadDesk, BadId, BadLength}
use Rattle.sizes.specs.Refusals.{first_of}
use Rattle.sizes.specs.Sizes.{record_len, path_len, tree_len}
use Rattle.desk.specs.declared.Kind.TheVariants.{Read}
use Rattle.desk.specs.Layout.{ids_of}
use Rattle.desk.specs.Readers.{sizes_of}
use Rattle.desk.specs.Good.{good_desk}
use Rattle.requests.specs.Request.{Answered}
use Rattle.requests.specs.Request.{RequestResult, request_of}
use Rattle.verdicts.specs.declared.counts.Cell.{Cell}
use Rattle.verdicts.specs.declared.counts.Counts.{Counts}
use Rattle.verdicts.specs.declared.counts.Row.{Row}
use Rattle.verdicts.specs.Cells.{found_of, no_counts, plus}

-- ---- the refusals before any ask, in order

-- not empty, not backward, of ids that the desk has
abbrev pub range_good : ℕ → ℕ → ℕ → Bool
range_good n first end = leb 1 first && ltb first end && leb end (n + 1)

-- one draw for each id
abbrev pub row_rows : List ℕ → List ℕ → ℕ → ℕ → List ℕ → List (Bool × Refusal)
row_rows desk tree first end draws =
    (not (good_desk desk), BadDesk)
    ∷ (not (range_good (ids_of desk) first end), BadId)
    ∷ (not (eqb (length draws) (end - first) && eqb (length tree) (tree_len (sizes_of desk))), BadLength)
    ∷ []

unfoldable pub row_checked : List ℕ → List ℕ → ℕ → ℕ → List ℕ → Result Unit Refusal
row_checked desk tree first end draws = first_of (row_rows desk tree first end draws)

-- ---- a read of one id: its column, or the store's refusal; and what the four buffers then hold

pub record ReadResult : Type 0 where
  pub found : Result Cell Refusal
  pub desk : List ℕ
  pub tree : List ℕ
  pub path : List ℕ
  pub buffer : List ℕ

abbrev pub looked : Result Cell Refusal → List ℕ → List ℕ → List ℕ → List ℕ → ReadResult
looked f d t p b = record { found = f; desk = d; tree = t; path = p; buffer = b }

abbrev pub found_by : ℕ → Answered → List ℕ → Result Cell Refusal
found_by chapter (Err q) buffer = Err q
found_by chapter (Ok (leaf, f)) buffer = found_of chapter f buffer

abbrev pub looked_by : ℕ → RequestResult → ReadResult
looked_by chapter r = looked (found_by chapter r.answer r.buffer) r.desk r.tree r.path r.buffer

unfoldable pub read_of : ℕ → List ℕ → List ℕ → List ℕ → List ℕ → ℕ → ℕ → ReadResult
read_of chapter desk tree path buffer id draw = looked_by chapter (request_of desk tree path buffer Read id draw)

-- ---- the ids from `id` on, rising, one draw each; n is the range's length

pub record RunResult : Type 0 where
  pub answer : Result Row Refusal
  pub desk : List ℕ
  pub tree : List ℕ
  pub path : List ℕ
  pub buffer : List ℕ

abbrev pub ran : Result Row Refusal → List ℕ → List ℕ → List ℕ → List ℕ → RunResult
ran a d t p b = record { answer = a; desk = d; tree = t; path = p; buffer = b }

-- a row is complete exactly if all have passed
abbrev pub counted_of : ℕ → Counts → Result Row Refusal
counted_of n c = counted c (eqb c.passed n)

-- a store's refusal ends the row
abbrev pub going_on : ReadResult → (Cell → RunResult) → Result Cell Refusal → RunResult
going_on r more (Ok cell) = more cell
going_on r more (Err q) = ran (Err q) r.desk r.tree r.path r.buffer

unfoldable pub row_from : ℕ → ℕ → ℕ → List ℕ → Counts → List ℕ → List ℕ → List ℕ → List ℕ → RunResult
row_from chapter n id [] c desk tree path buffer = ran (counted_of n c) desk tree path buffer
row_from chapter n id (x ∷ xs) c desk tree path buffer =
    let r = read_of chapter desk tree path buffer id x in
    going_on r (λ cell. row_from chapter n (suc id) xs (plus cell c) r.desk r.tree r.path r.buffer) r.found

-- ---- the row: path and record begin as zeros

pub record RowResult : Type 0 where
  pub answer : Result Row Refusal
  pub desk : List ℕ
  pub tree : List ℕ

abbrev pub rowed : Result Row Refusal → List ℕ → List ℕ → RowResult
rowed a d t = record { answer = a; desk = d; tree = t }

abbrev pub ended : RunResult → RowResult
ended r = rowed r.answer r.desk r.tree

abbrev pub row_by : Result Unit Refusal → List ℕ → List ℕ → ℕ → ℕ → ℕ → List ℕ → RowResult
row_by (Err q) desk tree chapter first end draws = rowed (Err q) desk tree
row_by (Ok tt) desk tree chapter first end draws =
    ended (row_from chapter (end - first) first draws no_counts desk tree (zeros (path_len (sizes_of desk))) (zeros record_len))

abbrev pub row_of : List ℕ → List ℕ → ℕ → ℕ → ℕ → List ℕ → RowResult
row_of desk tree chapter first end draws = row_by (row_checked desk tree first end draws) desk tree chapter first end draws
