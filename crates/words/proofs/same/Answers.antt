-- `words::same` meets its contract: the library's comparison of slices is the definition. Assumes nothing.
use mathlib.Core.Path.{◌∙◌}
use Rattle.words.proofs.Tests.{same-pointwise}
use Rattle.words.proofs.same.Goals as goal

pub returns : goal.returns
returns c = c.eq.ensures ∙ same-pointwise c.args.a.now c.args.b.now
