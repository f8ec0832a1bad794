-- `sizes::Sizes::bucket` meets its contract: the definition, whose place is below the number of places of its level. Assumes nothing.
use Prim.Native.Nat.{ℕ, ◌+◌, ◌-◌}
use mathlib.Core.Path.{ap}
use native.Mathlib.Omega.{arith}
use Rattle.sizes.specs.Sizes.{place_in}
use Rattle.sizes.proofs.Buckets.{place-below, bucket-below}
use borrow.Author.Rules.{rules}
use Rattle.sizes.proofs.Sizes.bucket.Goals as goal

pub overflow_add-result : goal.overflow_add-result
overflow_add-result c =
    let a = c.args in
    let p = place-below a.self a.leaf a.k (omega arith) (omega arith) in
    search rules

pub returns : goal.returns
returns c =
    let a = c.args in
    let b = bucket-below a.self a.leaf a.k (omega arith) (omega arith) in
    let e = ap (λ (n : ℕ). n - 1 + place_in a.self a.leaf a.k) c.power.ensures.0 in
    (e, rw e b)
