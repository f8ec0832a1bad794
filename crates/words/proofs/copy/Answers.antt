-- `words::copy` meets its contract: after i turns the first i bytes of the source are laid in. Assumes nothing.
use mathlib.Core.Path.{refl, sym, ap, ◌∙◌}
use mathlib.Core.List.{List}
use Prim.Native.Nat.{ℕ}
use native.Mathlib.Omega.{arith}
use lib.ListN.{length-set}
use lib.Seq.{take_all}
use Rattle.words.specs.Bytes.{splice}
use Rattle.words.proofs.Splice.{splice-turn, splice-nil}
use Rattle.words.proofs.copy.Goals as goal

pub loop-i-init : goal.loop-i-init
loop-i-init c = (refl, sym (splice-nil c.args.dst.now c.args.at))

pub loop-i-preserved : goal.loop-i-preserved
loop-i-preserved c =
    let l = c.loop-i in
    let a = c.args in (
      simp length-set l.invariant.0,
      splice-turn a.dst.now a.at l.i _ a.src.now l.dst (omega arith) (omega arith) refl l.invariant.1,
    )

pub returns : goal.returns
returns c =
    let l = c.loop-i in
    let a = c.args in
    l.invariant.1 ∙ ap (λ (x : List ℕ). splice a.dst.now a.at x) (take_all l.i a.src.now (omega arith))
