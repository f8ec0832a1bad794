-- `chacha20::block::inner` meets its contract: the two rounds of the definition. Assumes nothing.
use Rattle.std.proofs.Common.{ap, ◌∙◌}
use Rattle.chacha20.specs.ChaCha.{inner, diagonals}
use Rattle.chacha20.proofs.block.inner.Goals as goal

pub returns : goal.returns
unfolding inner
returns c = c.diagonals.ensures ∙ ap diagonals c.columns.ensures
