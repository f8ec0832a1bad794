-- `words::clear` meets its contract: the zeros given back in the place of a part are a splice. Assumes nothing.
use Prim.Native.Nat.{◌+◌, ◌-◌}
use mathlib.Core.Path.{◌≡◌, ◌∙◌}
use native.Mathlib.Omega.{arith}
use lib.ListN.{length}
use Rattle.words.specs.Bytes.{part, zeros}
use Rattle.words.proofs.Splice.{spliced, length-zeros, length_part}
use Rattle.words.proofs.clear.Goals as goal

pub returns : goal.returns
returns c =
    let a = c.args in
    let k = a.at + a.n - a.at in
    let e : k ≡ a.n = omega arith in
    let l : length (part a.dst.now a.at k) ≡ a.n = length_part a.dst.now a.at k (omega arith) ∙ e in
    let z : c.fill.new.self ≡ zeros a.n = rw l at (c.fill.ensures.after (λ y e. e)) in
    rw z (spliced _ _ _ _ (omega (arith, length-zeros a.n)))
