-- `store::request::record_asked` meets its contract: the record stands behind the head of body (c). Assumes nothing.
use Prim.Native.Nat.{ℕ, ◌+◌, ◌-◌}
use mathlib.Core.Path.{◌≡◌, ap, ap₂, ◌∙◌}
use native.Mathlib.Omega.{arith}
use Rattle.words.specs.Bytes.{part}
use Rattle.sizes.specs.Sizes.{request_head}
use Rattle.desk.specs.Layout.{c_at, shape_of}
use borrow.Author.Rules.{rules}
use Rattle.store.proofs.request.record_asked.Goals as goal

pub overflow_add-a : goal.overflow_add-a
overflow_add-a c =
    let start : c.c_at-a.result ≡ c_at (shape_of c.args.desk.now) = c.c_at-a.ensures ∙ ap c_at c.shape_of.ensures in
    let e = start in let w = c.requires.whole.small in search rules

pub overflow_add-e : goal.overflow_add-e
overflow_add-e c =
    let start : c.c_at-a.result ≡ c_at (shape_of c.args.desk.now) = c.c_at-a.ensures ∙ ap c_at c.shape_of.ensures in
    let e = start in let w = c.requires.whole.small in search rules

pub slice_bounds-result-end : goal.slice_bounds-result-end
slice_bounds-result-end c =
    let start : c.c_at-a.result ≡ c_at (shape_of c.args.desk.now) = c.c_at-a.ensures ∙ ap c_at c.shape_of.ensures in
    let e = start in let w = c.requires.whole in omega arith

pub returns : goal.returns
returns c =
    let start : c.c_at-a.result ≡ c_at (shape_of c.args.desk.now) = c.c_at-a.ensures ∙ ap c_at c.shape_of.ensures in
    let a = c.args in let k = c.c_at-a.result in let n : k + 8 + 64 - (k + 8) ≡ 64 = omega arith in ap₂ (λ (i j : ℕ). part a.desk.now i j) (ap (λ (i : ℕ). i + request_head) start) n
