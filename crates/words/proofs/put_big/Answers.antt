-- `words::put_big` meets its contract: the bytes with the lowest first, turned round in their place. Assumes nothing.
use Prim.Native.Nat.{◌+◌, ◌-◌}
use mathlib.Core.Path.{◌≡◌, ◌∙◌}
use native.Mathlib.Omega.{arith}
use Rattle.words.specs.Bytes.{part, splice}
use Rattle.words.specs.Numbers.{bytes_of, big_bytes_of}
use Rattle.words.proofs.Splice.{spliced, splice-splice, part-splice}
use Rattle.words.proofs.Numbers.{length-bytes_of, length-big_bytes_of, reverse-bytes_of}
use Rattle.words.proofs.put_big.Goals as goal

pub returns : goal.returns
returns c =
    let a = c.args in
    let l = length-bytes_of a.n a.x in
    let m = length-big_bytes_of a.n a.x in
    let k : a.at + a.n - a.at ≡ a.n = omega arith in
    let p : part (splice a.s.now a.at (bytes_of a.n a.x)) a.at a.n ≡ bytes_of a.n a.x = rw l at (part-splice a.s.now a.at (bytes_of a.n a.x) (omega arith)) in
    let z : c.reverse.new.self ≡ big_bytes_of a.n a.x = (rw (k, c.put_number.ensures, p) at c.reverse.ensures.after) ∙ reverse-bytes_of a.n a.x in
    let s : splice c.put_number.new.s a.at (big_bytes_of a.n a.x) ≡ splice a.s.now a.at (big_bytes_of a.n a.x) =
    rw c.put_number.ensures (splice-splice a.s.now a.at (bytes_of a.n a.x) (big_bytes_of a.n a.x) (omega (arith, l, m)) (omega arith)) in
    rw (z, ← s) (spliced _ _ _ _ (omega (arith, m)))
