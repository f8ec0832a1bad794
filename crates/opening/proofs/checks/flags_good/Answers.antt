-- `opening::checks::flags_good` meets its contract: the inner ones of the first n items are tested. Assumes nothing.
use Prim.Native.Nat.{ℕ}
use mathlib.Core.Bool.{Bool, true, false, ◌&&◌}
use mathlib.Core.Path.{◌≡◌, refl}
use mathlib.Core.List.{List}
use native.Mathlib.Omega.{arith}
use lib.Dec.{leb}
use Rattle.std.proofs.Common.{rules}
use Rattle.std.proofs.lemmas.Iterator.{cases_from_all, YieldsList-from_range}
use Rattle.sizes.specs.declared.Sizes.{Sizes}
use Rattle.sizes.specs.Sizes.{item_of}
use Rattle.items.specs.Items.{flag_of}
use Rattle.opening.proofs.ReachedTests.{tested-all}
use Rattle.opening.proofs.checks.flags_good.Goals as goal

abbrev fits : Sizes → List ℕ → ℕ → Bool
fits s path k = leb (flag_of s (item_of s path k) 0) 1 && leb (flag_of s (item_of s path k) 1) 1

pub returns : goal.returns
returns c =
    let a = c.args in
    let n = c.min-inner.result in
    let e = c.min-inner.ensures in
    tested-all a.v a.path.now a.n c.requires.1 (fits a.v.sizes a.path.now) a.v.sizes.height (omega arith) n c.all.result (omega (arith, e)) (omega (arith, e)) (λ k l m. omega (arith, e))
    (cases_from_all _ _ _ (λ k. fits a.v.sizes a.path.now k ≡ true) (λ k. fits a.v.sizes a.path.now k ≡ false) c.all.ensures.ran (YieldsList-from_range 0 n n refl (omega arith)) (λ x q k. search rules) (λ x q k. search rules))
