-- `chacha20::five::spread` meets its contract: the words are those of the table. Assumes nothing.
use Rattle.std.proofs.Common.{ℕ, ◌/◌, get_or, ◌∙◌, rules}
use Rattle.chacha20.specs.Lanes.{spread}
use Rattle.words.proofs.Made.{made}
use Rattle.chacha20.proofs.Table.{table-get_d, table-ext}
use Rattle.chacha20.proofs.five.spread.Goals as goal

pub returns : goal.returns
unfolding spread
returns c =
    let m = c.from_fn.ensures.items in
    let r = c.from_fn.result in
    let want : ℕ → ℕ = λ i. get_or c.args.s.now (i / 4) 0 in
    table-get_d r 64 m.long ∙ table-ext 64 (λ i. get_or r i 0) want (made _ want _ (λ i y q k. search rules) r 64 m)
