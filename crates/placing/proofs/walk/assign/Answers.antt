-- `placing::walk::assign` meets its contract: before each turn the first i heights, and those that the rest will be given, are the whole. Assumes nothing.
use Prim.Native.Nat.{ℕ, ◌+◌, ◌<◌}
use mathlib.Core.Path.{◌≡◌, sym, ap, ◌∙◌}
use mathlib.Core.List.{List, ◌∷◌, ◌++◌}
use native.Mathlib.Omega.{arith}
use lib.ListN.{length, take, drop, get_or, length-set}
use Rattle.words.specs.Bytes.{zeros}
use Rattle.placing.specs.Walk.{given, bump, most_heights}
use Rattle.placing.specs.Bank.{leaf_at, blocks_at}
use Rattle.placing.proofs.Walked.{bump-le}
use Rattle.placing.proofs.Turns.{more-stored, all-stored}
use Rattle.placing.proofs.Given.{given-turn, used_turn, given-end, used-end}
use Rattle.placing.proofs.walk.assign.Goals as goal

pub loop-i-preserved : goal.loop-i-preserved
loop-i-preserved c =
    let leaf-is : c.from-in-loop-i.result ≡ leaf_at c.args.bank.now (get_or c.args.places.now c.loop-i.i 0) =
    c.from-in-loop-i.ensures ∙ c.get16-x.ensures ∙ ap (leaf_at c.args.bank.now) c.from.ensures in
    let l = c.loop-i in
    let a = c.args in
    let bank = a.bank.now in
    let ps = a.places.now in
    let h = c.seek-h.result in
    let rest = given a.s a.leaf (bump l.used h) (blocks_at bank (drop (l.i + 1) ps)) in
    let k : l.i < length ps = omega arith in
    let so : take l.i l.at ++ h ∷ rest ≡ given a.s a.leaf (zeros most_heights) (blocks_at bank ps) =
    ap (λ (s : List ℕ). take l.i l.at ++ s) (sym (given-turn a.s a.leaf bank l.used ps l.i k c.from-in-loop-i.result h leaf-is c.seek-h.ensures.0))
    ∙ l.invariant.1 in (
      (rw length-set l.invariant.0.0, λ j. omega (arith, bump-le l.used h j, l.invariant.0.1 j)),
      more-stored (given a.s a.leaf (zeros most_heights) (blocks_at bank ps)) l.at l.i h rest (omega arith) so (omega arith),
      sym (used_turn a.s a.leaf bank l.used ps l.i k c.from-in-loop-i.result h leaf-is c.seek-h.ensures.0) ∙ l.invariant.2,
    )

pub returns-clause-at_after : goal.returns-clause-at_after
returns-clause-at_after c =
    let l = c.loop-i in
    let a = c.args in
    let bank = a.bank.now in
    let ps = a.places.now in
    let e : l.i ≡ length ps = omega arith in
    let none = given-end a.s a.leaf bank l.used ps l.i (omega arith) in
    let w = all-stored (given a.s a.leaf (zeros most_heights) (blocks_at bank ps)) l.at (given a.s a.leaf l.used (blocks_at bank (drop l.i ps))) l.i (omega arith) none l.invariant.1 in
    rw e at w.0

pub returns-clause-value : goal.returns-clause-value
returns-clause-value c =
    let l = c.loop-i in
    let a = c.args in
    ap (λ (u : List ℕ). get_or u (a.s.height + 1) 0) (sym (used-end a.s a.leaf a.bank.now l.used a.places.now l.i (omega arith)) ∙ l.invariant.2)
