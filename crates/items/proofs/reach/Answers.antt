-- `items::reach` meets its contract: all items down to level k are reachable, until a flag leads no further. Assumes nothing.
use mathlib.Core.Path.{sym, ap, ◌∙◌}
use native.Mathlib.Omega.{arith}
use Rattle.items.specs.Items.{flag_of}
use Rattle.items.specs.Way.{item}
use Rattle.items.proofs.Way.{reached-none, reached-root, reached-next, reached-here, reached-all}
use Rattle.items.proofs.reach.Goals as goal

pub returns-then-v-ne1 : goal.returns-then-v-ne1
returns-then-v-ne1 c = reached-none c.args.v c.args.path.now c.if-v-ne1.true

pub loop-k-init : goal.loop-k-init
loop-k-init c = reached-root c.args.v c.args.path.now c.if-v-ne1.false

pub returns-then-flag-ne1 : goal.returns-then-flag-ne1
returns-then-flag-ne1 c =
    let l = c.loop-k in
    let a = c.args in
    let e = c.flag.ensures ∙ ap (flag_of a.v.sizes (item a.v a.path.now l.k)) c.side.ensures.0 in
    reached-here a.v a.path.now l.k c.loop-k-test.true l.invariant (λ f. c.if-flag-ne1.true (e ∙ f))

pub loop-k-preserved : goal.loop-k-preserved
loop-k-preserved c =
    let l = c.loop-k in
    let a = c.args in
    let e = c.flag.ensures ∙ ap (flag_of a.v.sizes (item a.v a.path.now l.k)) c.side.ensures.0 in
    reached-next a.v a.path.now l.k l.invariant (sym e ∙ c.if-flag-ne1.false)

pub returns : goal.returns
returns c = reached-all c.args.v c.args.path.now c.loop-k.k (omega arith) c.loop-k.invariant
