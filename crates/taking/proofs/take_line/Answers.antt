-- `taking::take_line` meets its contract: by what the line says. Assumes nothing.
use mathlib.Core.Path.{refl, sym, ap, ◌∙◌}
use mathlib.Core.Bool.{Bool}
use Rattle.std.specs.Prelude.{Result}
use Rattle.taking.specs.declared.Trouble.{Trouble}
use Rattle.taking.specs.Taking.{stepped}
use Rattle.taking.proofs.OneLine.{test-readable, first-line, later-line}
use Rattle.taking.proofs.take_line.Goals as goal

pub returns-then-before-eq0 : goal.returns-then-before-eq0
returns-then-before-eq0 c =
    let a = c.args in
    first-line a.chapter a.year a.n a.before a.planned a.sheet.now a.line.now c.read-said.ensures.0 c.if-before-eq0.true c.take_first.ensures

pub take_test-requires : goal.take_test-requires
take_test-requires c =
    let g = c.in-Test.is in
    (c.requires.0, c.requires.1, rw g at c.read-said.ensures.1, test-readable c.args.chapter c.args.line.now _ (sym c.read-said.ensures.0 ∙ g))

pub returns-in-Version : goal.returns-in-Version
returns-in-Version c =
    let a = c.args in
    later-line a.chapter a.year a.n a.before a.planned a.sheet.now a.line.now (sym c.in-Version.is ∙ c.read-said.ensures.0) c.if-before-eq0.false refl

pub returns-in-Plan : goal.returns-in-Plan
returns-in-Plan c =
    let a = c.args in
    later-line a.chapter a.year a.n a.before a.planned a.sheet.now a.line.now (sym c.in-Plan.is ∙ c.read-said.ensures.0) c.if-before-eq0.false (ap (λ (x : Result Bool Trouble). stepped x a.sheet.now) c.take_plan.ensures)

pub returns-in-Test : goal.returns-in-Test
returns-in-Test c =
    let a = c.args in
    later-line a.chapter a.year a.n a.before a.planned a.sheet.now a.line.now (sym c.in-Test.is ∙ c.read-said.ensures.0) c.if-before-eq0.false c.take_test.ensures

pub returns-in-Comment : goal.returns-in-Comment
returns-in-Comment c =
    let a = c.args in
    later-line a.chapter a.year a.n a.before a.planned a.sheet.now a.line.now (sym c.in-Comment.is ∙ c.read-said.ensures.0) c.if-before-eq0.false refl

pub returns-in-Malformed : goal.returns-in-Malformed
returns-in-Malformed c =
    let a = c.args in
    later-line a.chapter a.year a.n a.before a.planned a.sheet.now a.line.now (sym c.in-Malformed.is ∙ c.read-said.ensures.0) c.if-before-eq0.false refl
