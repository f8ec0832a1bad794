-- `desk::put_place` meets its contract: the mark stands right after the position. Assumes nothing.
use native.Mathlib.Omega.{arith}
use Rattle.words.specs.Numbers.{bytes_of}
use Rattle.words.proofs.Splice.{splice-store}
use Rattle.words.proofs.Numbers.{length-bytes_of}
use Rattle.desk.specs.Layout.{mark_in}
use Prim.Native.Nat.{◌+◌}
use Rattle.desk.proofs.put_place.Goals as goal

pub returns : goal.returns
returns c =
    let a = c.args in
    rw c.put16.ensures
    (splice-store a.dst.now a.at (bytes_of 2 a.leaf) (a.at + mark_in) a.mark (omega (arith, length-bytes_of 2 a.leaf)) (omega arith))
