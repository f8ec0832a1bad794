-- `chacha20::five::inner_four` meets its contract: the four steps of the definition. Assumes nothing.
use Rattle.std.proofs.Common.{ap, ◌∙◌}
use Rattle.chacha20.specs.Lanes.{inner_four, turns, swept}
use Rattle.chacha20.proofs.five.inner_four.Goals as goal

pub returns : goal.returns
unfolding inner_four
returns c =
    c.turns-2.ensures ∙ ap (turns 12 4)
    (c.sweep-2.ensures ∙ ap (swept 16) (c.turns.ensures ∙ ap (turns 4 12) c.sweep.ensures))
