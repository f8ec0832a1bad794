-- `opening::seek::lookup` meets its contract: none of the first k items has the id; where none has, the stash is looked through. Assumes nothing.
use Prim.Native.Nat.{ℕ}
use mathlib.Core.Path.{◌≡◌}
use mathlib.Core.List.{List}
use Rattle.bags.specs.Bags.{cnt}
use Rattle.items.specs.Way.{Reached}
use Rattle.items.specs.Real.{real}
use Rattle.opening.specs.Opening.{is_id, view_of, found_to}
use Rattle.opening.specs.Walk.{Unsealed}
use Rattle.opening.proofs.seek.lookup.Given as goal

abbrev pub invariant-loop-k : goal.invariant-loop-k
invariant-loop-k l = (path : List ℕ) → Reached (view_of l.desk) path l.n → Unsealed (view_of l.desk) path l.n l.w → cnt (is_id l.id) (found_to real (view_of l.desk) path l.k) ≡ 0
