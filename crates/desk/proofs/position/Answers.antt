-- `desk::position` meets its contract: the id's place lies in body (d), which lies in the desk. Assumes nothing.
use Prim.Native.Nat.{ℕ, ◌+◌}
use mathlib.Core.Path.{◌≡◌, ap, ◌∙◌}
use native.Mathlib.Omega.{arith}
use Rattle.words.specs.Numbers.{number}
use Rattle.desk.specs.Layout.{d_at, shape_of, place_at}
use borrow.Author.Rules.{rules}
use Rattle.desk.proofs.position.Goals as goal

pub overflow_add-d_at : goal.overflow_add-d_at
overflow_add-d_at c =
    let start : c.d_at.result ≡ d_at (shape_of c.args.desk.now) = c.d_at.ensures ∙ ap d_at c.shape_of.ensures in
    let e = start in let w = c.requires.0.small in search rules

pub get16-requires : goal.get16-requires
get16-requires c =
    let start : c.d_at.result ≡ d_at (shape_of c.args.desk.now) = c.d_at.ensures ∙ ap d_at c.shape_of.ensures in
    let e = start in let w = c.requires.0 in omega arith

pub returns : goal.returns
returns c =
    let start : c.d_at.result ≡ d_at (shape_of c.args.desk.now) = c.d_at.ensures ∙ ap d_at c.shape_of.ensures in
    let a = c.args in c.get16.ensures ∙ ap (λ (k : ℕ). number 2 a.desk.now (k + place_at a.id)) start
