-- `passing::kind_of` meets its contract: the test decides between the two kinds. Assumes nothing.
use mathlib.Core.Path.{sym, ap, ◌∙◌}
use mathlib.Core.Bool.{Bool, cond}
use Rattle.desk.specs.declared.Kind.TheVariants.{Read, Write}
use Rattle.passing.proofs.kind_of.Goals as goal

pub returns-then-is_record : goal.returns-then-is_record
returns-then-is_record c = ap (λ (b : Bool). cond b Write Read) (sym c.if-is_record.true ∙ c.is_record.ensures)

pub returns : goal.returns
returns c = ap (λ (b : Bool). cond b Write Read) (sym c.if-is_record.false ∙ c.is_record.ensures)
