-- `sizes::Sizes::tree_len` meets its contract: the definition, in numbers small enough to fit. Assumes nothing.
use Prim.Native.Nat.{◌-◌}
use mathlib.Core.Path.{◌≡◌}
use native.Mathlib.Omega.{arith}
use Rattle.sizes.specs.Sizes.{leaves, leaf_len, inner_len}
use Rattle.sizes.proofs.Lengths.{product-most}
use borrow.Author.Rules.{rules}
use Rattle.sizes.proofs.Sizes.tree_len.Goals as goal

pub overflow_mul-result : goal.overflow_mul-result
overflow_mul-result c =
    let p = product-most (c.leaves-leaves.result - 1) c.inner_len.result (omega arith) (omega arith) in
    search rules

pub overflow_mul-result-2 : goal.overflow_mul-result-2
overflow_mul-result-2 c =
    let p = product-most c.leaves-leaves.result c.leaf_len.result (omega arith) (omega arith) in
    search rules

pub overflow_add-result : goal.overflow_add-result
overflow_add-result c =
    let p = product-most (c.leaves-leaves.result - 1) c.inner_len.result (omega arith) (omega arith) in
    let q = product-most c.leaves-leaves.result c.leaf_len.result (omega arith) (omega arith) in
    search rules

pub returns : goal.returns
returns c =
    let a = c.args in
    let e : c.leaves-leaves.result ≡ leaves a.self = c.leaves-leaves.ensures.0 in
    let i : c.inner_len.result ≡ inner_len a.self = c.inner_len.ensures in
    let l : c.leaf_len.result ≡ leaf_len a.self = c.leaf_len.ensures in
    rw (e, i, l)
