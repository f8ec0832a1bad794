-- Finish: what it answers and what the buffers then hold, on every input. Assumes nothing.
use Rattle.std.specs.Prelude.{ℕ, Bool, not, ◌&&◌, List, [], ◌∷◌, ◌++◌, length, leb, ltb, eqb, Err, Ok, Result}
use Rattle.sizes.specs.declared.Refusal.{Refusal}
use Rattle.sizes.specs.declared.Refusal.TheVariants.{BadDesk, Stopped, NotOpen, BadLength, Forged, Worn, Full}
use Rattle.sizes.specs.Sizes.{record_len, path_len}
use Rattle.sizes.specs.Refusals.{number_of, first_of, kept_or}
use Rattle.desk.specs.Layout.{room_of}
use Rattle.desk.specs.Readers.{status_of, sizes_of, kind_asked}
use Rattle.desk.specs.Status.{ready_status, first_stopped, stopped_or}
use Rattle.desk.specs.Good.{good_desk}
use Rattle.items.specs.Items.{Means}
use Rattle.opening.specs.Opening.{genuine, worn}
use Rattle.store.specs.declared.Finished.{Finished}
use Rattle.store.specs.declared.Finished.TheVariants as finished
use Rattle.store.specs.Steps.{answer_for, buffer_for, was_marked, record_found, new_stash, new_path, new_desk}

-- the refusals of finish, in order: those of the desk and the lent buffers, and those of the path
abbrev pub entry_rows : List ℕ → List ℕ → List ℕ → List (Bool × Refusal)
entry_rows desk path buffer =
    (not (good_desk desk), BadDesk)
    ∷ (leb first_stopped (status_of desk), Stopped)
    ∷ (eqb (status_of desk) ready_status, NotOpen)
    ∷ (not (eqb (length path) (path_len (sizes_of desk)) && eqb (length buffer) record_len), BadLength)
    ∷ []

-- the last of them is known once the blocks are placed
abbrev pub full_rows : Means → List ℕ → List ℕ → List (Bool × Refusal)
full_rows m desk path = (ltb (room_of desk) (length (new_stash m desk path)), Full) ∷ []

abbrev pub path_rows : Means → List ℕ → List ℕ → List (Bool × Refusal)
path_rows m desk path = (not (genuine m desk path), Forged) ∷ (worn m desk path, Worn) ∷ full_rows m desk path

abbrev pub finish_rows : Means → List ℕ → List ℕ → List ℕ → List (Bool × Refusal)
finish_rows m desk path buffer = entry_rows desk path buffer ++ path_rows m desk path

unfoldable pub finish_checked : Means → List ℕ → List ℕ → List ℕ → Result Unit Refusal
finish_checked m desk path buffer = first_of (finish_rows m desk path buffer)

abbrev pub finished_or : Result Unit Refusal → Finished → Result Finished Refusal
finished_or (Err r) answer = Err r
finished_or (Ok tt) answer = Ok answer

pub record FinishResult : Type 0 where
  pub answer : Result Finished Refusal
  pub desk : List ℕ
  pub path : List ℕ
  pub buffer : List ℕ

abbrev pub finish_result : Result Finished Refusal → List ℕ → List ℕ → List ℕ → FinishResult
finish_result a d p b = record { answer = a; desk = d; path = p; buffer = b }

-- the result of a finish whose checks came out as given
abbrev pub finish_by : Result Unit Refusal → Means → List ℕ → List ℕ → List ℕ → FinishResult
finish_by c m desk path buffer =
    record {
      answer = finished_or c (answer_for (kind_asked desk) (was_marked m desk path));
      desk = stopped_or c desk (new_desk m desk path);
      path = kept_or c path (new_path m desk path);
      buffer = kept_or c buffer (buffer_for (kind_asked desk) (was_marked m desk path) (record_found m desk path) buffer);
    }

abbrev pub finish_of : Means → List ℕ → List ℕ → List ℕ → FinishResult
finish_of m desk path buffer = finish_by (finish_checked m desk path buffer) m desk path buffer

-- each answer's number in the paper, 0 where nothing is refused, and its values: there are none, since a record is in the buffer
abbrev pub finished_value : Result Finished Refusal → ℕ × List ℕ
finished_value (Ok finished.Record) = (0, [])
finished_value (Ok finished.Never) = (0, [])
finished_value (Ok finished.Done) = (0, [])
finished_value (Err r) = (number_of r, [])
