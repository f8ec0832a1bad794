-- `words::put_number` meets its contract: after i turns the first i bytes of x are there, and what is left of x makes the others. Assumes nothing.
use Prim.Native.Nat.{◌%◌}
use mathlib.Core.Path.{◌≡◌, sym, ◌∙◌}
use native.Mathlib.Omega.{arith}
use lib.ListN.{length-set}
use lib.Seq.{take_all}
use Rattle.std.proofs.lemmas.List.{take_more, take_more_set}
use Rattle.words.specs.Numbers.{bytes_of}
use Rattle.words.proofs.Splice.{spliced}
use Rattle.words.proofs.Numbers.{length-bytes_of, bytes_of-at, bytes_of-left}
use Rattle.words.proofs.put_number.Goals as goal

pub loop-byte-preserved : goal.loop-byte-preserved
loop-byte-preserved c =
    let a = c.args in
    let l = c.loop-byte in
    let z = length-bytes_of a.n a.x in (
      simp length-set l.invariant.0,
      bytes_of-left a.n a.x l.byte-index l.left (omega arith) l.invariant.1,
      take_more_set l.byte-items l.byte-index (l.left % 256) (omega arith)
          ∙ rw (l.invariant.2, bytes_of-at a.n a.x l.byte-index l.left (omega arith) l.invariant.1) (sym (take_more (bytes_of a.n a.x) l.byte-index 0 (omega (arith, z)))),
    )

pub returns : goal.returns
returns c =
    let a = c.args in
    let l = c.loop-byte in
    let z = length-bytes_of a.n a.x in
    let e : l.byte-items ≡ bytes_of a.n a.x =
    sym (take_all l.byte-index l.byte-items (omega arith)) ∙ l.invariant.2 ∙ take_all l.byte-index (bytes_of a.n a.x) (omega (arith, z)) in
    rw e (spliced _ _ _ _ (omega (arith, z)))
