-- `exports::asked` meets its contract: a leaf has 16 bits, so that it fits as it is. Assumes nothing.
use mathlib.Core.Path.{sym, ap, ◌∙◌}
use Prim.Native.Nat.{◌^◌, ◌<◌}
use mir.Syntax.{w32}
use mir.Facts.{to_z_pos}
use Rattle.exports.specs.Codes.{asked_code}
use Rattle.exports.proofs.Signed.{code-back, refusal-fits, plus-fits}
use borrow.Author.Rules.{rules}
use Rattle.exports.proofs.asked.Goals as goal

pub returns-in-Ok : goal.returns-in-Ok
unfolding asked_code
returns-in-Ok c =
    let small : c.in-Ok.p < 2 ^ 31 = search rules in
    let e = to_z_pos w32 small in
    (e ∙ sym (ap asked_code c.in-Ok.is), rw e (plus-fits c.in-Ok.p small))

pub returns-in-Err : goal.returns-in-Err
unfolding asked_code
returns-in-Err c =
    let e = code-back _ c.refused.ensures in
    (e ∙ sym (ap asked_code c.in-Err.is), rw e (refusal-fits _))
