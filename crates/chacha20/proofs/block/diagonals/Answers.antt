-- `chacha20::block::diagonals` meets its contract: the four quarter rounds of the definition. Assumes nothing.
use Rattle.std.proofs.Common.{ℕ, List, ap, ◌∙◌}
use Rattle.chacha20.specs.ChaCha.{diagonals, quarter_at}
use Rattle.chacha20.proofs.block.diagonals.Goals as goal

pub returns : goal.returns
unfolding diagonals
returns c =
    c.quarter_at-4.ensures ∙ ap (λ (s : List ℕ). quarter_at s 3 4 9 14)
    (c.quarter_at-3.ensures ∙ ap (λ (s : List ℕ). quarter_at s 2 7 8 13)
    (c.quarter_at-2.ensures ∙ ap (λ (s : List ℕ). quarter_at s 1 6 11 12) c.quarter_at.ensures))
