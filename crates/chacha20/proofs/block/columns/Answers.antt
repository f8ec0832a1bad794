-- `chacha20::block::columns` meets its contract: the four quarter rounds of the definition. Assumes nothing.
use Rattle.std.proofs.Common.{ℕ, List, ap, ◌∙◌}
use Rattle.chacha20.specs.ChaCha.{columns, quarter_at}
use Rattle.chacha20.proofs.block.columns.Goals as goal

pub returns : goal.returns
unfolding columns
returns c =
    c.quarter_at-4.ensures ∙ ap (λ (s : List ℕ). quarter_at s 3 7 11 15)
    (c.quarter_at-3.ensures ∙ ap (λ (s : List ℕ). quarter_at s 2 6 10 14)
    (c.quarter_at-2.ensures ∙ ap (λ (s : List ℕ). quarter_at s 1 5 9 13) c.quarter_at.ensures))
