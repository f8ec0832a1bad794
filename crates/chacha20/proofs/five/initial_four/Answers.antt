-- `chacha20::five::initial_four` meets its contract: the words of one, spread, and three other counters. Assumes nothing.
use Rattle.std.proofs.Common.{◌≡◌, ap, ◌∙◌}
use Rattle.chacha20.specs.ChaCha.{add32, initial}
use Rattle.chacha20.specs.Lanes.{initial_four, spread}
use Rattle.chacha20.proofs.five.initial_four.Goals as goal

pub returns : goal.returns
unfolding add32 initial_four
returns c =
    let a = c.args in
    let s : c.spread-t.result ≡ spread (initial a.key.now a.nonce.now a.n) = c.spread-t.ensures ∙ ap spread c.initial-s.ensures in
    rw s
