-- `lines::directives::first_directive` meets its contract: the bytes that were passed have none, and what stands from there on decides. Assumes nothing.
use mathlib.Core.Path.{◌≡◌, sym, ap, ◌∙◌}
use native.Mathlib.Omega.{arith}
use lib.ListN.{length}
use Rattle.std.specs.Prelude.{None}
use Rattle.lines.specs.Line.{cut}
use Rattle.lines.proofs.Cuts as laws
use Rattle.lines.proofs.directives.first_directive.Goals.{then-byte-eq-HASH+else-is_some, else-byte-eq-HASH}
use Rattle.lines.proofs.directives.first_directive.Goals as goal

pub returns-then-is_some : goal.returns-then-is_some
returns-then-is_some c =
    let l = c.loop-at in
    let s = c.args.s.now in
    (laws.found s l.at l.invariant (omega arith) _ c.directive_at-directive.ensures (laws.some-is _ ∙ sym c.is_some.ensures ∙ c.if-is_some.true), l.invariant.inside)

pub loop-at-preserved : goal.loop-at-preserved
loop-at-preserved c =
    let l = c.loop-at in
    let s = c.args.s.now in
    elim c.if-byte-eq-HASH.branch [
      | then-byte-eq-HASH+else-is_some w ↦ laws.turn s l.at l.invariant (omega arith) _ w.directive_at-directive.ensures (laws.some-is _ ∙ sym w.is_some.ensures ∙ w.if-is_some.false)
      | else-byte-eq-HASH w ↦ laws.pass s l.at l.invariant (omega arith) w.if-byte-eq-HASH.false
    ]

pub returns : goal.returns
returns c =
    let l = c.loop-at in
    let s = c.args.s.now in
    let n : l.at ≡ length s = omega arith in
    (ap (λ k. cut k None) (sym n) ∙ laws.end s l.at l.invariant (omega arith), omega arith)
