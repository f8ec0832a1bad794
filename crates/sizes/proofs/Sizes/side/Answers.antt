-- `sizes::Sizes::side` meets its contract: a shift is a quotient, and a remainder by 2 is 0 or 1. Assumes nothing.
use Prim.Native.Nat.{ℕ, suc, ◌-◌, ◌/◌, ◌%◌, ◌^◌}
use mathlib.Core.Path.{◌≡◌, ap}
use native.Mathlib.Omega.{arith}
use Rattle.sizes.proofs.Sizes.side.Goals as goal

pub returns : goal.returns
returns c =
    let a = c.args in
    let e : a.self.height - 1 - a.k ≡ a.self.height - suc a.k = omega arith in
    (ap (λ (n : ℕ). a.leaf / 2 ^ n % 2) e, omega arith)
