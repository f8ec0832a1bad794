-- `chacha20::block::quarter` meets its contract: it is two halves. Assumes nothing.
use Rattle.chacha20.specs.declared.Quad.{Quad}
use Rattle.std.proofs.Common.{ap, ◌∙◌}
use Rattle.chacha20.specs.ChaCha.{quarter, half}
use Rattle.chacha20.proofs.block.quarter.Goals as goal

pub returns : goal.returns
unfolding quarter
returns c = c.half-2.ensures ∙ ap (λ (q : Quad). half q 8 7) c.half.ensures
