-- `opening::checks::is_worn` meets its contract: the first n items are tested. Assumes nothing.
use mathlib.Core.Path.{◌≡◌, refl}
use native.Mathlib.Omega.{arith}
use Rattle.std.proofs.Common.{rules}
use Rattle.std.proofs.lemmas.Iterator.{cases_from_any, YieldsList-from_range}
use Rattle.items.specs.Items.{counter_of}
use Rattle.items.specs.Way.{item}
use Rattle.opening.specs.Opening.{last_counter}
use Rattle.opening.proofs.ReachedTests.{worn-any}
use Rattle.opening.proofs.checks.is_worn.Goals as goal

pub returns : goal.returns
returns c =
    let a = c.args in
    worn-any a.v a.path.now a.n c.requires.1 c.any.result
    (cases_from_any _ _ _ (λ k. counter_of (item a.v a.path.now k) ≡ last_counter) (λ k. counter_of (item a.v a.path.now k) ≡ last_counter → ⊥) c.any.ensures.ran (YieldsList-from_range 0 a.n a.n refl (omega arith)) (λ x q k. search rules) (λ x q k. search rules))
