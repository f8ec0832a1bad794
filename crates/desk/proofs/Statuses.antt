-- What a number names: a status exactly if it is at most the highest. Assumes nothing.
use Rattle.std.specs.Prelude.{ℕ, ◌≡◌, ◌≤◌, leb, eqb, Result, Ok, Err, is_ok}
use mathlib.Core.Path.{refl, sym}
use native.Mathlib.Omega.{arith}
use borrow.Author.Tests.{le-leb, lt-leb}
use Rattle.desk.specs.declared.NoStatus.{NoStatus}
use Rattle.desk.specs.declared.Status.{Status}
use Rattle.desk.specs.declared.Status.TheVariants as status
use Rattle.desk.specs.Status.{ready_status, open_status, most_status}
use Rattle.desk.specs.contracts.Status.{the_type}
use denote.Enum.Bare.{sameb}
use Rattle.desk.specs.Numbers.{status_number, NamesStatus}

status-most : (s : Status) → status_number s ≤ most_status
status-most status.Ready = omega arith
status-most status.Open = omega arith
status-most status.Forged = omega arith
status-most status.Worn = omega arith
status-most status.Full = omega arith

pub names-ok : (x : ℕ) (r : Result Status NoStatus) → NamesStatus x r → is_ok r ≡ leb x most_status
names-ok x (Ok s) h = sym (le-leb x most_status (omega (arith, h, status-most s)))
names-ok x (Err e) h = sym (lt-leb x most_status h.0)

-- a status compared is its number compared
pub is-open : (s : Status) → sameb the_type s status.Open ≡ eqb (status_number s) open_status
is-open status.Ready = refl
is-open status.Open = refl
is-open status.Forged = refl
is-open status.Worn = refl
is-open status.Full = refl

pub is-ready : (s : Status) → sameb the_type s status.Ready ≡ eqb (status_number s) ready_status
is-ready status.Ready = refl
is-ready status.Open = refl
is-ready status.Forged = refl
is-ready status.Worn = refl
is-ready status.Full = refl
