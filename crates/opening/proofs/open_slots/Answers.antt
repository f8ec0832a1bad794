-- `opening::open_slots` meets its contract: the slots of the first k items are opened, the items from k on are as they were lent. Assumes nothing.
use mathlib.Core.Path.{◌∙◌}
use native.Mathlib.Omega.{arith}
use Rattle.sizes.proofs.Lengths.{path_most}
use Rattle.opening.proofs.Copy.{copied_none, copied_next, copied_all}
use Rattle.opening.proofs.open_slots.Goals as goal

pub copy-requires : goal.copy-requires
copy-requires c = omega (arith, path_most c.args.v.sizes c.requires.in_range.0, c.requires.in_range.1.0, c.requires.n_bound.1)

pub loop-k-init : goal.loop-k-init
loop-k-init c =
    (c.copy.auto.dst ∙ c.requires.n_bound.1, copied_none c.args.v c.args.path.now _ _ c.requires.in_range.1.0 c.copy.ensures)

pub cipher_slots-requires : goal.cipher_slots-requires
cipher_slots-requires c =
    let p = c.requires in
    (record { range = p.in_range.0; room = omega (arith, c.loop-k.invariant.0, path_most c.args.v.sizes p.in_range.0) }, (omega (arith, p.n_bound.0, c.loop-k-test.true), p.in_range.1.1))

pub loop-k-preserved : goal.loop-k-preserved
loop-k-preserved c =
    let l = c.loop-k in
    (c.cipher_slots.auto.path ∙ l.invariant.0, copied_next c.args.v c.args.path.now l.w _ l.k (omega (arith, c.requires.n_bound.0, c.loop-k-test.true)) (omega (arith, l.invariant.0, path_most c.args.v.sizes c.requires.in_range.0)) l.invariant.1 c.cipher_slots.ensures)

pub returns : goal.returns
returns c = let a = c.args in let l = c.loop-k in copied_all a.v a.path.now l.w l.k a.n (omega arith) l.invariant.0 l.invariant.1
