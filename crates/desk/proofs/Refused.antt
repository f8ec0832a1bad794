-- What a refusal leaves of a desk: nothing is changed where no row of an entry stops it, and a desk that is stopped while open stays good. Assumes nothing.
use Rattle.std.specs.Prelude.{Err, Result}
use Prim.Native.Nat.{ℕ, ◌≤◌}
use mathlib.Core.Path.{◌≡◌, refl}
use mathlib.Core.Bool.{Bool, true, false, cond}
use mathlib.Core.List.{List, [], ◌∷◌}
use native.Mathlib.Omega.{arith}
use borrow.Author.Tests.{eqb-false}
use Rattle.sizes.specs.declared.Refusal.{Refusal}
use Rattle.sizes.specs.declared.Refusal.TheVariants.{BadDesk, Stopped, Open, NotOpen, BadId, BadLeaf, BadLength, BadSize, Forged, Worn, Full}
use Rattle.sizes.specs.Refusals.{first_of}
use Rattle.desk.specs.Readers.{status_of}
use Rattle.desk.specs.Status.{ready_status, forged_status, worn_status, full_status, most_status, at_status, stopped}
use Rattle.desk.specs.Good.{good_desk}
use Rattle.desk.proofs.Known.{known}
use Rattle.desk.proofs.Changed.{unchanged, status-changed}
use Rattle.desk.proofs.Frame.{good-sound, stop-sound, changed-good}

-- no row stops a desk
abbrev pub Sparing : List (Bool × Refusal) → Type 0
Sparing [] = Unit
Sparing (row ∷ rows) = ((d : List ℕ) → stopped row.1 d ≡ d) × Sparing rows

spared-at : (b : Bool) (q r : Refusal) (o : Result Unit Refusal) (d : List ℕ) → (stopped q d ≡ d) → (o ≡ Err r → stopped r d ≡ d) → cond b (Err q) o ≡ Err r → stopped r d ≡ d
spared-at true q r o d k f h = let e : q ≡ r = cc in rw e at k
spared-at false q r o d k f h = f h

pub spared : (rows : List (Bool × Refusal)) → Sparing rows → (r : Refusal) → first_of rows ≡ Err r → (d : List ℕ) → stopped r d ≡ d
spared [] k r h d = let z : ◌≡◌ {A = ℕ} 0 1 = cc in absurd (omega arith)
spared (row ∷ rows) k r h d = spared-at row.0 row.1 r (first_of rows) d (k.0 d) (λ e. spared rows k.1 r e d) h

-- a good desk that is not ready stays good at every status but ready, and so under every refusal
at-status-good : (desk : List ℕ) → good_desk desk ≡ true → (status_of desk ≡ ready_status → ⊥) → (s : ℕ) → (s ≡ ready_status → ⊥) → s ≤ most_status → good_desk (at_status s desk) ≡ true
at-status-good desk g o s k h = changed-good g (status-changed (known desk g).size (unchanged desk) s) (stop-sound s (good-sound desk g) o k h)

pub stopped-good : (r : Refusal) (desk : List ℕ) → good_desk desk ≡ true → (status_of desk ≡ ready_status → ⊥) → good_desk (stopped r desk) ≡ true
stopped-good BadDesk desk g o = g
stopped-good Stopped desk g o = g
stopped-good Open desk g o = g
stopped-good NotOpen desk g o = g
stopped-good BadId desk g o = g
stopped-good BadLeaf desk g o = g
stopped-good BadLength desk g o = g
stopped-good BadSize desk g o = g
stopped-good Forged desk g o = at-status-good desk g o forged_status (eqb-false forged_status ready_status refl) (omega arith)
stopped-good Worn desk g o = at-status-good desk g o worn_status (eqb-false worn_status ready_status refl) (omega arith)
stopped-good Full desk g o = at-status-good desk g o full_status (eqb-false full_status ready_status refl) (omega arith)
