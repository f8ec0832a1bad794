-- `chacha20::five::turns` meets its contract: the three turns of the definition. Assumes nothing.
use Rattle.std.proofs.Common.{ap, ◌∙◌}
use Rattle.chacha20.specs.Lanes.{turns, turn}
use Rattle.chacha20.proofs.five.turns.Goals as goal

pub returns : goal.returns
unfolding turns
returns c =
    c.turn-3.ensures ∙ ap (turn 48 c.args.d) (c.turn-2.ensures ∙ ap (turn 32 8) c.turn.ensures)
