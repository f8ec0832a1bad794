-- `store::lay` meets its contract: after k turns the items of the first k levels hold their buckets. Assumes nothing.
use Prim.Native.Nat.{ℕ, ◌+◌, ◌-◌}
use mathlib.Core.Path.{◌≡◌, refl, subst}
use native.Mathlib.Omega.{arith}
use Rattle.placing.specs.Plans.{blocks_in}
use Rattle.placing.specs.Walk.{pick}
use Rattle.store.specs.Laying.{Laid}
use Rattle.store.proofs.Laying.{laid_more, length-with}
use Rattle.store.proofs.lay.Goals as goal

pub loop-k-init : goal.loop-k-init
loop-k-init c = λ j h. absurd (omega arith)

pub fill-requires : goal.fill-requires
fill-requires c =
    let l = c.loop-k in
    let i = c.item_at-a.ensures in record { room_in_bounds = (omega (arith, c.requires.carries.room), omega arith); places_len_bound = c.requires.by_index (c.args.s.height - l.k) (omega arith) }

pub loop-k-preserved : goal.loop-k-preserved
loop-k-preserved c =
    let a = c.args in
    let l = c.loop-k in
    let bs = blocks_in a.plan in
    let h = a.s.height - l.k in
    laid_more a.s a.plan.at.now bs l.w c.fill.new.dst l.k (c.item_at-a.result + 8) h (omega arith) (omega (arith, c.requires.carries.room)) (omega (arith, c.item_at-a.ensures.is)) refl
    (length-with a.s.slots (pick h a.plan.at.now bs) c.fill.ensures.fit (c.requires.by_index h (omega arith))) c.fill.ensures.dst_after l.invariant

pub returns : goal.returns
returns c =
    let l = c.loop-k in
    let e : l.k ≡ c.args.s.height + 1 = omega arith in
    subst (λ (n : ℕ). Laid c.args.s c.args.plan.at.now (blocks_in c.args.plan) l.w n) e l.invariant
