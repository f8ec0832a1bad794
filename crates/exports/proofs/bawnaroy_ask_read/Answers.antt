-- `exports::bawnaroy_ask_read` meets its contract: it is `asks::ask`'s, and its answer's number. Assumes nothing.
use mathlib.Core.Path.{ap, ◌∙◌}
use Rattle.asks.specs.Ask.{AskResult}
use Rattle.exports.specs.Codes.{asked_code}
use Rattle.exports.proofs.Signed.{back}
use Rattle.exports.proofs.bawnaroy_ask_read.Goals as goal

pub returns : goal.returns
returns c =
    let e = c.ask.ensures in
    record {
      number_is = back c.asked.ensures.1 ∙ c.asked.ensures.0 ∙ ap (λ (t : AskResult). asked_code t.answer) e;
      buffer_is = ap (λ (t : AskResult). t.desk) e;
    }
