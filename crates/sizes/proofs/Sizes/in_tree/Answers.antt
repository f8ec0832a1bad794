-- `sizes::Sizes::in_tree` meets its contract: the bucket of that level, which is as long as the item. Assumes nothing.
use mathlib.Core.Path.{ap, ◌∙◌}
use native.Mathlib.Omega.{arith}
use Rattle.sizes.specs.Sizes.{tree_at, bucket_at}
use Rattle.sizes.proofs.Lengths.{bucket-fits}
use Rattle.sizes.proofs.Buckets.{item-bucket, bucket-below}
use Rattle.sizes.proofs.Sizes.in_tree.Goals as goal

pub returns : goal.returns
returns c =
    let a = c.args in
    let s = c.requires in
    let e = c.tree_at.ensures ∙ ap (tree_at a.self) c.bucket.ensures.0 in
    let b = bucket-below a.self a.leaf a.k s.1.0 s.1.1 in
    record { is = e; fits = omega (arith, e, bucket-fits a.self (bucket_at a.self a.leaf a.k) b, item-bucket a.self a.leaf a.k s.1.0 s.1.1) }
