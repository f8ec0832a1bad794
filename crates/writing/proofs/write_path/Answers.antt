-- `writing::write_path` meets its contract: from the leaf up, each turn writes one item more of the path that step 6 makes of the one lent. Assumes nothing.
use Rattle.std.proofs.Common.{◌≡◌, ℕ, suc, ◌+◌, ◌-◌, ◌≤◌, refl, ◌∙◌, subst, add-one, arith, rules}
use Rattle.sizes.specs.Sizes.{item_at}
use Rattle.sizes.proofs.Lengths.{next-item}
use Rattle.writing.specs.Pieces.{Climbed}
use Rattle.writing.proofs.Climb.{take_less, reach-take}
use Rattle.writing.proofs.Turn.{climbed-start, climbed-turn, climbed-end}
use Rattle.writing.proofs.write_path.Goals as goal

pub loop-k-init : goal.loop-k-init
loop-k-init c =
    let a = c.args in
    (refl, climbed-start a.v a.path.now a.new.now c.requires.carries_2.0.room _ (a.v.sizes.height + 1) (add-one a.v.sizes.height) c.requires.carries.1)

pub write_item-requires-clause-k_le_height : goal.write_item-requires-clause-k_le_height
write_item-requires-clause-k_le_height c =
    let a = c.args in
    let l = c.loop-k in
    let s = a.v.sizes in
    let j = l.k - 1 in
    let e : l.k ≡ suc j = omega arith in
    let m = subst (λ (i : ℕ). Climbed a.v a.path.now a.new.now l.path l.d i) e l.invariant.1 in
    let h : j ≤ s.height = omega arith in (
      h,
      (
        c.requires.carries_2.1.0,
        reach-take a.v l.path a.path.now j (take_less l.path a.path.now (item_at s j) (item_at s (suc j)) (omega (arith, next-item s j)) m.kept) ∙ c.requires.carries_2.1.1.exactly j h,
      ),
    )

pub write_item-requires-clause-d_len : goal.write_item-requires-clause-d_len
write_item-requires-clause-d_len c = c.loop-k.invariant.0

pub loop-k-preserved : goal.loop-k-preserved
loop-k-preserved c =
    let a = c.args in
    let l = c.loop-k in
    let j = l.k - 1 in
    let e : l.k ≡ suc j = omega arith in
    let m = subst (λ (i : ℕ). Climbed a.v a.path.now a.new.now l.path l.d i) e l.invariant.1 in (
      search rules,
      climbed-turn a.v a.path.now a.new.now c.requires.carries_2.0.room l.path l.d j (omega arith) m l.invariant.0 (omega (arith, c.requires.carries.1))
          c.write_item.new.path c.item_digest-d.result c.write_item.ensures c.item_digest-d.ensures,
    )

pub returns : goal.returns
returns c =
    let a = c.args in
    let l = c.loop-k in
    climbed-end a.v a.path.now a.new.now c.requires.carries_2.0.room l.path l.d l.k (omega arith) l.invariant.1
