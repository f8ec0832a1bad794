-- `listing::writer::Writer::record` meets its contract: the word, then what stands before the first zero. Assumes nothing.
use Prim.Native.Nat.{ℕ}
use mathlib.Core.Path.{ap, ◌∙◌}
use native.Mathlib.Omega.{arith}
use lib.ListN.{take}
use lib.Seq.{length-take-le}
use Rattle.text.proofs.Fronts.{before-is}
use Rattle.listing.proofs.Written.{◌then◌}
use Rattle.listing.proofs.writer.Writer.record.Goals as goal

pub returns : goal.returns
returns c =
    let s = c.args.«record».now in
    let n = length-take-le c.before-n.result s c.before-n.ensures.1 in
    let e = ap (λ (k : ℕ). take k s) c.before-n.ensures.0 ∙ before-is 0 s in
    let w = c.put-2.ensures in
    (c.put.ensures then (rw e at w), omega arith)
