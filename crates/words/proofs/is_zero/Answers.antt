-- `words::is_zero` meets its contract: the fold over the bytes is their test. Assumes nothing.
use mathlib.Core.Path.{◌≡◌, ◌∙◌}
use mathlib.Core.Bool.{Bool, true, ◌&&◌}
use Prim.Native.Nat.{ℕ}
use native.Mathlib.Omega.{arith}
use lib.Dec.{eqb}
use Rattle.std.specs.List.{fold}
use Rattle.std.proofs.lemmas.Grind.{common_steps}
use Rattle.words.proofs.Tests.{all_zero-fold}
use Rattle.words.proofs.is_zero.Goals as goal

pub returns : goal.returns
returns c =
    let e : c.fold.result ≡ fold (λ (good : Bool) (x : ℕ). good && eqb x 0) true c.args.s.now = grind (arith, common_steps) in
    e ∙ all_zero-fold c.args.s.now
