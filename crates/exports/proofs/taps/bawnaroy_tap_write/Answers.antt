-- `exports::taps::bawnaroy_tap_write` meets its contract: it is `tap::write`'s, and the length of a text fits. Assumes nothing.
use Prim.Native.Nat.{◌^◌, ◌<◌}
use mathlib.Core.Path.{sym, ap, ◌∙◌}
use native.Mathlib.Omega.{arith}
use mir.Syntax.{w32}
use mir.Facts.{to_z_pos}
use Rattle.tap.specs.Tap.{WriteResult}
use Rattle.exports.specs.TapCodes.{printed_code}
use Rattle.exports.proofs.Signed.{code-back, plus-fits}
use Rattle.exports.proofs.TapAnswers.{write-short}
use Rattle.exports.proofs.taps.bawnaroy_tap_write.Goals as goal

pub overflow_cast-result : goal.overflow_cast-result
overflow_cast-result c =
    let small : c.in-Ok.n < 2 ^ 31 = write-short _ _ _ _ _ _ _ _ _ _ _ (omega (arith, c.ranges.end)) c.write.auto.out
    c.in-Ok.is c.write.ensures in
    plus-fits c.in-Ok.n small

pub returns-in-Ok : goal.returns-in-Ok
unfolding printed_code
returns-in-Ok c =
    let small : c.in-Ok.n < 2 ^ 31 = write-short _ _ _ _ _ _ _ _ _ _ _ (omega (arith, c.ranges.end)) c.write.auto.out
    c.in-Ok.is c.write.ensures in
    let e = c.write.ensures in
    record {
      number_is = to_z_pos w32 small ∙ sym (ap printed_code c.in-Ok.is) ∙ ap (λ (t : WriteResult). printed_code t.answer) e;
      desk_is = ap (λ (t : WriteResult). t.desk) e;
      tree_is = ap (λ (t : WriteResult). t.tree) e;
      out_is = ap (λ (t : WriteResult). t.out) e;
    }

pub returns-in-Err : goal.returns-in-Err
unfolding printed_code
returns-in-Err c =
    let e = c.write.ensures in
    record {
      number_is = code-back _ c.refused.ensures ∙ sym (ap printed_code c.in-Err.is) ∙ ap (λ (t : WriteResult). printed_code t.answer) e;
      desk_is = ap (λ (t : WriteResult). t.desk) e;
      tree_is = ap (λ (t : WriteResult). t.tree) e;
      out_is = ap (λ (t : WriteResult). t.out) e;
    }
