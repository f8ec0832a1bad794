-- `words::get_big32` meets its contract: the library's number is the definition's. Assumes nothing.
use mathlib.Core.Path.{◌∙◌}
use Rattle.words.proofs.Numbers.{high-number-at}
use Rattle.words.proofs.get_big32.Goals as goal

pub returns : goal.returns
returns c = c.from_be_bytes.ensures ∙ high-number-at c.args.s.now c.args.at c.array_at.ensures
