-- `placing::walk::assign` meets its contract: before each turn the first i heights, and those that the rest will be given, are the whole. Assumes nothing.
use Prim.Native.Nat.{ℕ, ◌≤◌}
use mathlib.Core.Path.{◌≡◌}
use mathlib.Core.List.{◌++◌}
use lib.ListN.{get_or, take, drop, length}
use Rattle.words.specs.Bytes.{zeros}
use Rattle.placing.specs.Walk.{given, used_in, most_heights}
use Rattle.placing.specs.Bank.{blocks_at}
use Rattle.placing.proofs.walk.assign.Given as goal

abbrev pub invariant-loop-i : goal.invariant-loop-i
invariant-loop-i l = ((length l.used ≡ most_heights) × ((j : ℕ) → get_or l.used j 0 ≤ l.i))
    × (take l.i l.at ++ given l.s l.leaf l.used (blocks_at l.bank (drop l.i l.places)) ≡ given l.s l.leaf (zeros most_heights) (blocks_at l.bank l.places))
    × (used_in l.s l.leaf l.used (blocks_at l.bank (drop l.i l.places)) ≡ used_in l.s l.leaf (zeros most_heights) (blocks_at l.bank l.places))
