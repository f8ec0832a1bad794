-- `formats::put_places` meets its contract: after i turns the first i places are written. Assumes nothing.
use Prim.Native.Nat.{ℕ}
use mathlib.Core.Path.{refl, sym, ap, ◌∙◌}
use mathlib.Core.List.{List}
use lib.Seq.{take_all}
use Rattle.words.specs.Bytes.{splice}
use Rattle.words.proofs.Splice.{splice-nil}
use Rattle.formats.specs.Format.{unmarked}
use Rattle.formats.proofs.Unmarked.{place-turn}
use Rattle.formats.proofs.put_places.Goals as goal

pub loop-i-init : goal.loop-i-init
unfolding unmarked
loop-i-init c = (refl, sym (splice-nil _ _))

pub loop-i-preserved : goal.loop-i-preserved
loop-i-preserved c =
    let l = c.loop-i in (
      c.put_place.auto.dst ∙ l.invariant.0,
      c.put_place.ensures ∙ place-turn c.args.dst.now c.args.at l.i c.args.leaves.now l.dst c.loop-i-test.true c.requires l.invariant.1,
    )

pub shape_of-dst : goal.shape_of-dst
shape_of-dst c = c.loop-i.invariant.0

pub returns : goal.returns
returns c =
    let a = c.args in
    c.loop-i.invariant.1 ∙ ap (λ (ls : List ℕ). splice a.dst.now a.at (unmarked ls)) (take_all c.loop-i.i a.leaves.now c.loop-i-test.false)
