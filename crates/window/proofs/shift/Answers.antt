-- `window::shift` meets its contract: the library's `copy_within` lays the part at the front. Assumes nothing.
use Prim.Native.Nat.{◌-◌}
use mathlib.Core.Path.{◌≡◌, ◌∙◌}
use native.Mathlib.Omega.{arith}
use lib.ListN.{length}
use Rattle.words.specs.Bytes.{part, splice}
use Rattle.words.proofs.Splice.{length_part}
use Rattle.window.proofs.shift.Goals as goal

pub returns : goal.returns
unfolding splice
returns c =
    let a = c.args in
    let n : length (part a.window.now a.from (a.to - a.from)) ≡ a.to - a.from = length_part a.window.now a.from (a.to - a.from) (omega arith) in
    c.copy_within.ensures.after ∙ rw n
