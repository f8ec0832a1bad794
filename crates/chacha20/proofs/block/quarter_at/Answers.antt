-- `chacha20::block::quarter_at` meets its contract: four words are read, and four stored. Assumes nothing.
use Rattle.std.proofs.Common.{ap}
use Rattle.chacha20.specs.ChaCha.{pick, put, quarter_at}
use Rattle.chacha20.proofs.block.quarter_at.Goals as goal

pub returns : goal.returns
unfolding quarter_at put pick
returns c =
    let a = c.args in
    ap (put a.s.now a.a a.b a.c a.d) c.quarter-q.ensures
