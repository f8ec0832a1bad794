-- `printing::print::is_printable` meets its contract: all bytes stand before a line feed. Assumes nothing.
use mathlib.Core.Path.{ap, ◌∙◌}
use mathlib.Core.Bool.{not}
use Rattle.text.specs.Text.{line_feed}
use Rattle.text.proofs.Fronts.{absent-before}
use Rattle.printing.proofs.print.is_printable.Goals as goal

pub returns : goal.returns
returns c = ap not c.contains.ensures.value ∙ absent-before line_feed c.args.name.now
