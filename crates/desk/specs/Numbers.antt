-- The numbers of the kinds and of the statuses, and what a number names. Assumes nothing.
use Rattle.std.specs.Prelude.{ℕ, ◌≡◌, ◌<◌, cond, eqb, Result, MatchResult}
use Rattle.desk.specs.declared.NoStatus.{NoStatus}
use Rattle.desk.specs.declared.Status.{Status}
use Rattle.desk.specs.declared.Status.TheVariants as status
use Rattle.desk.specs.Status.{ready_status, open_status, forged_status, worn_status, full_status, most_status}
use Rattle.desk.specs.declared.Kind.{Kind}
use Rattle.desk.specs.declared.Kind.TheVariants.{Read, Write}

abbrev pub kind_of : Kind → ℕ
kind_of Read = 0
kind_of Write = 1

abbrev pub kind_from : ℕ → Kind
kind_from k = cond (eqb k (kind_of Read)) Read Write

abbrev pub status_number : Status → ℕ
status_number status.Ready = ready_status
status_number status.Open = open_status
status_number status.Forged = forged_status
status_number status.Worn = worn_status
status_number status.Full = full_status

-- a number names a status, or none, and is then what the error holds
abbrev pub NamesStatus : ℕ → Result Status NoStatus → Type 0
NamesStatus x r = MatchResult r (λ s. status_number s ≡ x) (λ e. (most_status < x) × (e.0 ≡ x))
