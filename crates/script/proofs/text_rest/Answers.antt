-- `script::text_rest` meets its contract: a space, and a text. Assumes nothing.
use mathlib.Core.Path.{ap, ◌∙◌}
use mathlib.Core.Bool.{not}
use Rattle.script.proofs.Meanings.{rest-spaced}
use Rattle.script.proofs.text_rest.Goals as goal

pub returns-then-text-le-RECORD : goal.returns-then-text-le-RECORD
returns-then-text-le-RECORD c =
    let p = c.in-Some.ensures.cases in
    ap not c.contains.ensures.value ∙ rest-spaced c.args.rest.now c.in-Some.text.now p.0 p.1 c.if-text-le-RECORD.true
