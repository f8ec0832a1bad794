-- What holds between two turns of the program. Assumes nothing.
use Rattle.std.specs.Prelude.{ℕ, ◌+◌, ◌≤◌, ◌<◌, ◌≡◌, false, List, ◌++◌, length, Option, Some, None}
use Rattle.words.specs.Bytes.{splice}
use Rattle.setup.specs.Setup.{most_line}
use Rattle.runs.specs.declared.run.Run.{Run}
use Rattle.runs.specs.declared.run.Run.TheVariants as run
use Rattle.shelf.specs.declared.turns.Place.{Place}
use Rattle.runs.specs.Shelf.{Shelf}
use Rattle.runs.specs.Run.{Moved, step_of, is_over, Sound, count_of, Runs}

-- the unread text stands in the window from `from` up to `to`, and every line that can be read has room there
pub record Inside (at : Place) (window : List ℕ) : Type 0 where
  pub from_to : at.from ≤ at.to
  pub inside : at.to ≤ length window
  pub window_most : most_line < length window
  pub going : is_over at.run ≡ false

pub record Placed (at : Place) (window : List ℕ) (sh : Shelf) (out : List ℕ) : Type 0 where
  pub inside : Inside at window
  pub runs : Runs at.run sh out

-- what a turn leaves, if it goes on
pub record Left (at : Place) (k size : ℕ) : Type 0 where
  pub from_to : at.from ≤ at.to
  pub inside : at.to ≤ size
  pub going : is_over at.run ≡ false
  pub sound : Sound at.run
  pub count_high : count_of at.run ≤ k + 1

-- a step that ends the run, and whose line of the listing was laid into the buffer
pub record Said (m : Moved) (out out' : List ℕ) : Type 0 where
  pub run_is : m.run ≡ run.Over
  pub text_is : out' ≡ splice out 0 m.text

abbrev pub Turned : Option Place → ℕ → ℕ → Type 0
Turned (Some at) k size = Left at k size
Turned None k size = Unit

-- where more of a line was wanted and the turn stops, what was listed is what the line comes to, however it goes on
abbrev pub Listed : Option Place → Run → List ℕ → List ℕ → List ℕ → Type 0
Listed (Some at) r front out out' = Unit
Listed None r front out out' = (rest : List ℕ) (sh : Shelf) → Said (step_of r (front ++ rest) sh) out out'
