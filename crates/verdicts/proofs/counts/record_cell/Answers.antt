-- `verdicts::counts::record_cell` meets its contract: by what was read. Assumes nothing.
use mathlib.Core.Path.{sym, ◌∙◌}
use Rattle.verdicts.proofs.Cell.{cell-bad, cell_other, cell-verdict}
use Rattle.verdicts.proofs.counts.record_cell.Goals as goal

pub returns-in_default : goal.returns-in_default
returns-in_default c = sym (cell-bad c.args.chapter c.args.«record».now (sym c.read.ensures ∙ c.in_default.is))

pub returns-then-entry-chapter : goal.returns-then-entry-chapter
returns-then-entry-chapter c =
    c.verdict_cell.ensures ∙ sym (cell-verdict c.args.chapter c.args.«record».now _ (sym c.read.ensures ∙ c.in-Some.is) c.if-entry-chapter.true)

pub returns-else-entry-chapter : goal.returns-else-entry-chapter
returns-else-entry-chapter c =
    sym (cell_other c.args.chapter c.args.«record».now _ (sym c.read.ensures ∙ c.in-Some.is) c.if-entry-chapter.false)
