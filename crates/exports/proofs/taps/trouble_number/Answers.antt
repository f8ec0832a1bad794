-- `exports::taps::trouble_number` meets its contract: the number is small, so that its negative fits. Assumes nothing.
use mathlib.Core.Path.{ap, ◌∙◌}
use Prim.Native.Nat.{ℕ, ◌^◌, ◌<◌}
use lib.IntN.{ℤ, pos, neg_ℤ}
use mir.Syntax.{w32}
use mir.Val.{to_z, of_z}
use Rattle.exports.specs.TapCodes.{trouble_code}
use Rattle.exports.proofs.Signed.{minus_is, minus-fits, back}
use borrow.Author.Rules.{rules}
use Rattle.exports.proofs.taps.trouble_number.Goals as goal

pub overflow_sub-result : goal.overflow_sub-result
overflow_sub-result c =
    let small : c.from.result < 2 ^ 31 = search rules in
    rw (minus_is c.from.result small) (minus-fits c.from.result small)

pub returns : goal.returns
unfolding trouble_code
returns c =
    let small : c.from.result < 2 ^ 31 = search rules in
    let n = c.from.result in
    ap (λ (z : ℤ). to_z w32 (of_z w32 z)) (minus_is n small) ∙ back (minus-fits n small) ∙ ap (λ (n : ℕ). neg_ℤ (pos n)) c.from.ensures
