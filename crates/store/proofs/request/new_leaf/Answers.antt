-- `store::request::new_leaf` meets its contract: the number stands in body (c). Assumes nothing.
use Prim.Native.Nat.{ℕ, ◌+◌}
use mathlib.Core.Path.{◌≡◌, ap, ◌∙◌}
use native.Mathlib.Omega.{arith}
use Rattle.words.specs.Numbers.{number}
use Rattle.desk.specs.Layout.{c_at, shape_of, new_leaf_in}
use borrow.Author.Rules.{rules}
use Rattle.store.proofs.request.new_leaf.Goals as goal

pub overflow_add-c_at : goal.overflow_add-c_at
overflow_add-c_at c =
    let start : c.c_at.result ≡ c_at (shape_of c.args.desk.now) = c.c_at.ensures ∙ ap c_at c.shape_of.ensures in
    let e = start in let w = c.requires.whole.small in search rules

pub get16-requires : goal.get16-requires
get16-requires c =
    let start : c.c_at.result ≡ c_at (shape_of c.args.desk.now) = c.c_at.ensures ∙ ap c_at c.shape_of.ensures in
    let e = start in let w = c.requires.whole in omega arith

pub returns : goal.returns
returns c =
    let start : c.c_at.result ≡ c_at (shape_of c.args.desk.now) = c.c_at.ensures ∙ ap c_at c.shape_of.ensures in
    let a = c.args in c.get16.ensures ∙ ap (λ (k : ℕ). number 2 a.desk.now (k + new_leaf_in)) start
