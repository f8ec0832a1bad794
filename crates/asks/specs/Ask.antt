-- Ask: what it answers and what the desk then holds, on every input. Assumes nothing.
use Rattle.std.specs.Prelude.{ℕ, Bool, true, not, ◌&&◌, List, [], ◌∷◌, ◌++◌, length, leb, eqb, Err, Ok, Result}
use Rattle.words.specs.Bytes.{zeros}
use Rattle.words.specs.Numbers.{bytes_of}
use Rattle.sizes.specs.Sizes.{leaves}
use Rattle.sizes.specs.Refusals.{number_of, first_of}
use Rattle.sizes.specs.declared.Refusal.{Refusal}
use Rattle.sizes.specs.declared.Refusal.TheVariants.{BadDesk, Stopped, Open, BadId, BadLeaf, BadLength}
use Rattle.desk.specs.declared.Kind.{Kind}
use Rattle.desk.specs.declared.Kind.TheVariants.{Read, Write}
use Rattle.desk.specs.Layout.{ids_of, shape_of}
use Rattle.desk.specs.Readers.{sizes_of, status_of, position_of}
use Rattle.desk.specs.Numbers.{kind_of}
use Rattle.desk.specs.Status.{open_status, first_stopped, at_status, stopped_or}
use Rattle.desk.specs.Good.{good_desk}
use Rattle.desk.specs.Changes.{with_request}

-- ---- the refusals, in order

-- a write's record has r bytes; a read's is not looked at
abbrev pub record_fits : ℕ → Kind → List ℕ → Bool
record_fits r Read rec = true
record_fits r Write rec = eqb (length rec) r

abbrev pub ask_rows : List ℕ → Kind → ℕ → ℕ → List ℕ → List (Bool × Refusal)
ask_rows desk kind id leaf rec =
    (not (good_desk desk), BadDesk)
    ∷ (leb first_stopped (status_of desk), Stopped)
    ∷ (eqb (status_of desk) open_status, Open)
    ∷ (not (leb 1 id && leb id (ids_of desk)), BadId)
    ∷ (leb (leaves (sizes_of desk)) leaf, BadLeaf)
    ∷ (not (record_fits (shape_of desk).r kind rec), BadLength)
    ∷ []

unfoldable pub ask_checked : List ℕ → Kind → ℕ → ℕ → List ℕ → Result Unit Refusal
ask_checked desk kind id leaf rec = first_of (ask_rows desk kind id leaf rec)

-- ---- the request opened: kind, zero, id 2, new leaf 2, two zeros, record

abbrev pub head_bytes : Kind → ℕ → ℕ → List ℕ
head_bytes kind id leaf = kind_of kind ∷ 0 ∷ (bytes_of 2 id ++ (bytes_of 2 leaf ++ zeros 2))

abbrev pub record_bytes : ℕ → Kind → List ℕ → List ℕ
record_bytes r Read rec = zeros r
record_bytes r Write rec = rec

unfoldable pub request_bytes : ℕ → Kind → ℕ → ℕ → List ℕ → List ℕ
request_bytes r kind id leaf rec = head_bytes kind id leaf ++ record_bytes r kind rec

unfoldable pub opened : List ℕ → Kind → ℕ → ℕ → List ℕ → List ℕ
opened desk kind id leaf rec = at_status open_status (with_request (request_bytes (shape_of desk).r kind id leaf rec) desk)

-- ---- what ask answers, and what the desk then holds

abbrev pub asked_of : Result Unit Refusal → ℕ → Result ℕ Refusal
asked_of (Err r) position = Err r
asked_of (Ok tt) position = Ok position

pub record AskResult : Type 0 where
  pub answer : Result ℕ Refusal
  pub desk : List ℕ

abbrev pub ask_result : Result ℕ Refusal → List ℕ → AskResult
ask_result a d = record { answer = a; desk = d }

abbrev pub ask_of : List ℕ → Kind → ℕ → ℕ → List ℕ → AskResult
ask_of desk kind id leaf rec =
    ask_result (asked_of (ask_checked desk kind id leaf rec) (position_of desk id)) (stopped_or (ask_checked desk kind id leaf rec) desk (opened desk kind id leaf rec))

-- each answer's number in the paper, 0 where nothing is refused, and its values
abbrev pub asked_value : Result ℕ Refusal → ℕ × List ℕ
asked_value (Ok position) = (0, position ∷ [])
asked_value (Err r) = (number_of r, [])
