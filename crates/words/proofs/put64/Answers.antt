-- `words::put64` meets its contract: the library's bytes are the definition's. Assumes nothing.
use mathlib.Core.Path.{ap, ◌∙◌}
use Rattle.words.specs.Bytes.{splice}
use Rattle.words.proofs.Numbers.{low_first-is}
use Rattle.words.proofs.put64.Goals as goal

pub returns : goal.returns
returns c = c.put_array.ensures ∙ ap (splice c.args.s.now c.args.at) (c.to_le_bytes.ensures ∙ low_first-is 8 c.args.x)
