-- Statuses, and what a refusal changes in a desk. Assumes nothing.
use Rattle.std.specs.Prelude.{ℕ, List, set, Err, Ok, Result}
use Rattle.sizes.specs.declared.Refusal.{Refusal}
use Rattle.sizes.specs.declared.Refusal.TheVariants.{BadDesk, Stopped, Open, NotOpen, BadId, BadLeaf, BadLength, BadSize, Forged, Worn, Full}
use Rattle.desk.specs.Layout.{status_at}

abbrev pub ready_status : ℕ
ready_status = 0

abbrev pub open_status : ℕ
open_status = 1

-- stopped: as forged, as worn, as full
abbrev pub forged_status : ℕ
forged_status = 2

abbrev pub worn_status : ℕ
worn_status = 3

abbrev pub full_status : ℕ
full_status = 4

-- the lowest status of a stopped desk, and the highest of any
abbrev pub first_stopped : ℕ
first_stopped = forged_status

abbrev pub most_status : ℕ
most_status = full_status

-- the desk at a status
unfoldable pub at_status : ℕ → List ℕ → List ℕ
at_status status desk = set desk status_at status

-- a refusal changes nothing; 9 to 11 change the status byte only
abbrev pub stopped : Refusal → List ℕ → List ℕ
stopped BadDesk desk = desk
stopped Stopped desk = desk
stopped Open desk = desk
stopped NotOpen desk = desk
stopped BadId desk = desk
stopped BadLeaf desk = desk
stopped BadLength desk = desk
stopped BadSize desk = desk
stopped Forged desk = at_status forged_status desk
stopped Worn desk = at_status worn_status desk
stopped Full desk = at_status full_status desk

-- what a desk holds after an entry
abbrev pub stopped_or : Result Unit Refusal → List ℕ → List ℕ → List ℕ
stopped_or (Err r) old new = stopped r old
stopped_or (Ok tt) old new = new
