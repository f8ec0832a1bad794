-- `listing::writer::Writer::decimal` meets its contract: those digits that are found stand at the end, and y holds the others. Assumes nothing.
use Prim.Native.Nat.{◌+◌, ◌-◌}
use mathlib.Core.Path.{◌≡◌, ◌∙◌}
use native.Mathlib.Omega.{arith}
use lib.ListN.{length, set, length-set}
use Rattle.words.proofs.Splice.{length_part}
use Rattle.text.specs.Fronts.{zero_digit}
use Rattle.listing.proofs.Written as laws
use Rattle.listing.proofs.writer.Writer.decimal.Goals as goal

pub loop-y-preserved : goal.loop-y-preserved
loop-y-preserved c = laws.digits_more _ _ _ _ c.loop-y.invariant c.loop-y-test.true

pub returns : goal.returns
returns c =
    let a = c.args in
    let l = c.loop-y in
    let t = set l.text l.i (zero_digit + l.y) in
    let n : length t ≡ 20 = length-set l.text l.i (zero_digit + l.y) ∙ l.invariant.long in
    let e = laws.digits_last a.x l.text l.i l.y l.invariant (omega arith) in
    let w = c.put.ensures in
    (rw e at w, omega (arith, length_part t l.i (20 - l.i) (omega arith)))
