-- `store::request::kind_asked` meets its contract: the kind stands first in body (c). Assumes nothing.
use Prim.Native.Nat.{ℕ, ◌+◌}
use mathlib.Core.Bool.{Bool, cond}
use mathlib.Core.Path.{◌≡◌, sym, ap, ◌∙◌}
use native.Mathlib.Omega.{arith}
use lib.ListN.{get_or}
use borrow.Author.Tests.{eq-eqb, ne_eqb}
use Rattle.desk.specs.declared.Kind.TheVariants.{Read, Write}
use Rattle.desk.specs.Layout.{c_at, shape_of, kind_in}
use Rattle.desk.specs.Readers.{kind_byte}
use Rattle.store.proofs.request.kind_asked.Goals as goal

pub bounds-desk-a : goal.bounds-desk-a
bounds-desk-a c =
    let start : c.c_at-a.result ≡ c_at (shape_of c.args.desk.now) = c.c_at-a.ensures ∙ ap c_at c.shape_of.ensures in
    let e = start in let w = c.requires.whole in omega arith

pub returns-then-desk-a-eq0 : goal.returns-then-desk-a-eq0
returns-then-desk-a-eq0 c =
    let start : c.c_at-a.result ≡ c_at (shape_of c.args.desk.now) = c.c_at-a.ensures ∙ ap c_at c.shape_of.ensures in
    let a = c.args in let q : kind_byte a.desk.now ≡ 0 = sym (ap (λ (k : ℕ). get_or a.desk.now (k + kind_in) 0) start) ∙ c.if-desk-a-eq0.true in sym (ap (λ (b : Bool). cond b Read Write) (eq-eqb _ _ q))

pub returns : goal.returns
returns c =
    let start : c.c_at-a.result ≡ c_at (shape_of c.args.desk.now) = c.c_at-a.ensures ∙ ap c_at c.shape_of.ensures in
    let a = c.args in sym (ap (λ (b : Bool). cond b Read Write) (ne_eqb (kind_byte a.desk.now) 0 (λ q. c.if-desk-a-eq0.false (ap (λ (k : ℕ). get_or a.desk.now (k + kind_in) 0) start ∙ q))))
