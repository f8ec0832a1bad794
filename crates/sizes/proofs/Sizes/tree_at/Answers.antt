-- `sizes::Sizes::tree_at` meets its contract: the definition, by which of the two kinds the bucket is. Assumes nothing.
use Prim.Native.Nat.{ℕ, ◌*◌, ◌-◌}
use mathlib.Core.Path.{◌≡◌, ap, sym, ◌∙◌}
use native.Mathlib.Omega.{arith}
use Rattle.sizes.specs.Sizes.{inners, leaf_len, inner_len}
use Rattle.sizes.proofs.Lengths.{product-most, inner-at, leaf-at}
use borrow.Author.Rules.{rules}
use Rattle.sizes.proofs.Sizes.tree_at.Goals as goal

pub overflow_mul-result : goal.overflow_mul-result
overflow_mul-result c =
    let p = product-most c.args.b c.inner_len.result (omega arith) (omega arith) in
    search rules

pub returns-then-b-inners : goal.returns-then-b-inners
returns-then-b-inners c =
    let a = c.args in
    ap (λ (n : ℕ). a.b * n) c.inner_len.ensures ∙ sym (inner-at a.self a.b (omega arith))

pub overflow_mul-result-2 : goal.overflow_mul-result-2
overflow_mul-result-2 c =
    let p = product-most (c.leaves-inners.result - 1) c.inner_len-2.result (omega arith) (omega arith) in
    search rules

pub overflow_mul-result-3 : goal.overflow_mul-result-3
overflow_mul-result-3 c =
    let p = product-most (c.args.b - (c.leaves-inners.result - 1)) c.leaf_len.result (omega arith) (omega arith) in
    search rules

pub overflow_add-result : goal.overflow_add-result
overflow_add-result c =
    let p = product-most (c.leaves-inners.result - 1) c.inner_len-2.result (omega arith) (omega arith) in
    let q = product-most (c.args.b - (c.leaves-inners.result - 1)) c.leaf_len.result (omega arith) (omega arith) in
    search rules

pub returns : goal.returns
returns c =
    let a = c.args in
    let e : c.leaves-inners.result - 1 ≡ inners a.self = ap (λ (n : ℕ). n - 1) c.leaves-inners.ensures.0 in
    let i : c.inner_len-2.result ≡ inner_len a.self = c.inner_len-2.ensures in
    let l : c.leaf_len.result ≡ leaf_len a.self = c.leaf_len.ensures in
    rw (e, i, l) (sym (leaf-at a.self a.b (omega arith)))
