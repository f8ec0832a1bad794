-- `exports::bawnaroy_finish` meets its contract: it is `store::finish`'s, and its answer's number. Assumes nothing.
use mathlib.Core.Path.{ap, ◌∙◌}
use Rattle.store.specs.Finish.{FinishResult}
use Rattle.exports.specs.Codes.{finished_code}
use Rattle.exports.proofs.Signed.{back}
use Rattle.exports.proofs.bawnaroy_finish.Goals as goal

pub returns : goal.returns
returns c =
    let e = c.finish.ensures in
    record {
      number_is = back c.finished.ensures.1 ∙ c.finished.ensures.0 ∙ ap (λ (t : FinishResult). finished_code t.answer) e;
      desk_is = ap (λ (t : FinishResult). t.desk) e;
      path_is = ap (λ (t : FinishResult). t.path) e;
      buffer_is = ap (λ (t : FinishResult). t.buffer) e;
    }
