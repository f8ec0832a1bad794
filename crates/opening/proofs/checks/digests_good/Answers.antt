-- `opening::checks::digests_good` meets its contract: the first n items are tested. Assumes nothing.
use Prim.Native.Nat.{ℕ, suc}
use mathlib.Core.Bool.{Bool, true, false}
use mathlib.Core.Path.{◌≡◌, refl}
use mathlib.Core.List.{List}
use native.Mathlib.Omega.{arith}
use Rattle.std.proofs.Common.{rules}
use Rattle.std.proofs.lemmas.Iterator.{cases_from_all, YieldsList-from_range}
use Rattle.words.specs.Bytes.{same}
use Rattle.items.specs.declared.View.{View}
use Rattle.items.specs.Items.{item_digest}
use Rattle.items.specs.Way.{item, digest_due}
use Rattle.items.specs.Real.{real}
use Rattle.opening.proofs.ReachedTests.{tested-all}
use Rattle.opening.proofs.checks.digests_good.Goals as goal

abbrev fits : View → List ℕ → ℕ → Bool
fits v path k = same (item_digest real v.sizes k (item v path k)) (digest_due v path k)

pub returns : goal.returns
returns c =
    let a = c.args in
    tested-all a.v a.path.now a.n c.requires.1 (fits a.v a.path.now) (suc a.v.sizes.height) (omega arith) a.n c.all.result (omega arith) (omega (arith, c.requires.1.most)) (λ k l m. l)
    (cases_from_all _ _ _ (λ k. fits a.v a.path.now k ≡ true) (λ k. fits a.v a.path.now k ≡ false) c.all.ensures.ran (YieldsList-from_range 0 a.n a.n refl (omega arith)) (λ x q k. search rules) (λ x q k. search rules))
