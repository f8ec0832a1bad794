-- Counts: one more in a column is one more in all. Assumes nothing.
use Prim.Native.Nat.{◌+◌}
use mathlib.Core.Path.{◌≡◌}
use native.Mathlib.Omega.{arith}
use Rattle.verdicts.specs.declared.counts.Cell.{Cell}
use Rattle.verdicts.specs.declared.counts.Cell.TheVariants.{Passed, Failed, Skipped, Errors, Bad, NotRun}
use Rattle.verdicts.specs.declared.counts.Counts.{Counts}
use Rattle.verdicts.specs.Cells.{plus, sum}

pub sum-plus : (cell : Cell) (c : Counts) → sum (plus cell c) ≡ sum c + 1
sum-plus Passed c = omega arith
sum-plus Failed c = omega arith
sum-plus Skipped c = omega arith
sum-plus Errors c = omega arith
sum-plus Bad c = omega arith
sum-plus NotRun c = omega arith
