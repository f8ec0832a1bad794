-- Answers by number, and the order of refusals: rows of a test and its refusal, of which the first that applies is given. Assumes nothing.
use Rattle.std.specs.Prelude.{ℕ, ◌≡◌, Bool, false, cond, List, [], ◌∷◌, Err, Ok, Result}
use Rattle.sizes.specs.declared.Refusal.{Refusal}
use Rattle.sizes.specs.declared.Refusal.TheVariants.{BadDesk, Stopped, Open, NotOpen, BadId, BadLeaf, BadLength, BadSize, Forged, Worn, Full}

abbrev pub number_of : Refusal → ℕ
number_of BadDesk = 1
number_of Stopped = 2
number_of Open = 3
number_of NotOpen = 4
number_of BadId = 5
number_of BadLeaf = 6
number_of BadLength = 7
number_of BadSize = 8
number_of Forged = 9
number_of Worn = 10
number_of Full = 11

-- the first row that applies; Ok where none does
abbrev pub first_of : List (Bool × Refusal) → Result Unit Refusal
first_of [] = Ok tt
first_of (row ∷ rows) = cond row.0 (Err row.1) (first_of rows)

-- no row applies
abbrev pub NoneOf : List (Bool × Refusal) → Type 0
NoneOf [] = Unit
NoneOf (row ∷ rows) = (row.0 ≡ false) × NoneOf rows

-- what a buffer holds after an entry: a refusal keeps it
abbrev pub kept_or : Result Unit Refusal → List ℕ → List ℕ → List ℕ
kept_or (Err r) old new = old
kept_or (Ok tt) old new = new
