-- `text::numbers::numbers` meets its contract: i numbers are laid in, and what stands from `at` on has the others. Assumes nothing.
use Prim.Native.Nat.{ℕ, ◌-◌, ◌≤◌}
use mathlib.Core.Path.{◌≡◌, sym, ap, ◌∙◌}
use mathlib.Core.List.{List}
use native.Mathlib.Omega.{arith}
use lib.ListN.{length, drop}
use Rattle.std.proofs.lemmas.List.{set-get_or}
use Rattle.std.specs.Prelude.{Option}
use Rattle.words.specs.Bytes.{part}
use Rattle.words.proofs.Splice.{part-tail}
use Rattle.text.specs.declared.Number.{Number}
use Rattle.text.specs.Fronts.{spaced}
use Rattle.text.proofs.Fronts as fronts
use Rattle.text.proofs.numbers.numbers.Goals as goal

-- what the call found stands from `at` on
from_at : (s : List ℕ) (at : ℕ) (x y : Option Number) → x ≡ spaced (part s at (length s - at)) → x ≡ y → at ≤ length s → spaced (drop at s) ≡ y
from_at s at x y e f h = ap spaced (sym (part-tail s at (length s - at) (omega arith))) ∙ sym e ∙ f

pub returns-in_err-number-clause-value : goal.returns-in_err-number-clause-value
returns-in_err-number-clause-value c =
    let l = c.loop-place in
    let a = c.args in
    let e = from_at a.s.now l.at _ _ c.spaced_number.ensures c.in_err-number.was l.invariant.inside in
    let g = fronts.got-bad a.s.now a.out.now l.out l.at l.place-index l.invariant (omega arith) e in
    (c.from_residual.ensures ∙ g.0, rw c.from_residual.ensures tt)

pub returns-in_err-number-clause-out_after : goal.returns-in_err-number-clause-out_after
returns-in_err-number-clause-out_after c =
    let l = c.loop-place in
    let a = c.args in
    let e = from_at a.s.now l.at _ _ c.spaced_number.ensures c.in_err-number.was l.invariant.inside in
    let g = fronts.got-bad a.s.now a.out.now l.out l.at l.place-index l.invariant (omega arith) e in
    set-get_or l.out l.place-index 0 ∙ g.1

pub loop-place-preserved : goal.loop-place-preserved
loop-place-preserved c =
    let l = c.loop-place in
    let a = c.args in
    let e = from_at a.s.now l.at _ _ c.spaced_number.ensures c.in_ok-number.was l.invariant.inside in
    fronts.got-more a.s.now a.out.now l.out l.at l.place-index l.invariant _ (omega arith) e

pub returns-clause-value : goal.returns-clause-value
returns-clause-value c =
    let l = c.loop-place in
    let a = c.args in
    ((fronts.got-all a.s.now a.out.now l.out l.at l.place-index l.invariant (omega arith)).0, l.invariant.inside)

pub returns-clause-out_after : goal.returns-clause-out_after
returns-clause-out_after c =
    let l = c.loop-place in
    let a = c.args in
    (fronts.got-all a.s.now a.out.now l.out l.at l.place-index l.invariant (omega arith)).1
