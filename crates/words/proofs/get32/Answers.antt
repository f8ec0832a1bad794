-- `words::get32` meets its contract: the library's number is the definition's. Assumes nothing.
use mathlib.Core.Path.{◌∙◌}
use Rattle.words.proofs.Numbers.{low-number-at}
use Rattle.words.proofs.get32.Goals as goal

pub returns : goal.returns
returns c = c.from_le_bytes.ensures ∙ low-number-at 3 c.args.s.now c.args.at c.array_at.ensures
