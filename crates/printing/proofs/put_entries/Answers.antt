-- `printing::put_entries` meets its contract: at each turn, the lines of the first i entries are written. Assumes nothing.
use Prim.Native.Nat.{ℕ, ◌+◌, ◌*◌, ◌-◌, ◌<◌}
use mathlib.Core.Path.{◌≡◌, ap}
use native.Mathlib.Omega.{arith}
use lib.ListN.{take, drop}
use Rattle.printing.proofs.Entries.{begun, turn}
use Rattle.printing.proofs.put_entries.Goals as goal

pub loop-i-init : goal.loop-i-init
loop-i-init c = let a = c.args in begun a.chapter a.n a.sheet.now a.w.now

pub loop-i-preserved : goal.loop-i-preserved
loop-i-preserved c =
    let low : c.loop-i.i < c.args.n = omega arith in
    let a = c.args in
    let l = c.loop-i in
    let k : l.i * 64 + 64 - l.i * 64 ≡ 64 = omega arith in
    turn a.chapter a.n a.sheet.now a.w.now l.i l.w l.invariant low (ap (λ (m : ℕ). take m (drop (l.i * 64) a.sheet.now)) k) c.put_entry.ensures.0 c.put_entry.ensures.1
