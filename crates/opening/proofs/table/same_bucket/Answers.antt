-- `opening::table::same_bucket` meets its contract: two buckets of one level are the same where their places are. Assumes nothing.
use Prim.Native.Nat.{◌-◌, ◌/◌, ◌^◌}
use Rattle.opening.proofs.Buckets.{same_place}
use Rattle.opening.proofs.table.same_bucket.Goals as goal

pub returns : goal.returns
returns c = let a = c.args in same_place a.k (a.a / 2 ^ (a.s.height - a.k)) (a.b / 2 ^ (a.s.height - a.k))
