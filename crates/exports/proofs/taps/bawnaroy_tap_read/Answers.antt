-- `exports::taps::bawnaroy_tap_read` meets its contract: it is `tap::read`'s, its answer's number, and its line. Assumes nothing.
use mathlib.Core.Path.{ap, ◌∙◌}
use Rattle.tap.specs.Tap.{ReadResult}
use Rattle.exports.specs.TapCodes.{taken_code, line_or}
use Rattle.exports.proofs.TapAnswers.{taken_back}
use Rattle.exports.proofs.taps.bawnaroy_tap_read.Goals as goal

pub returns : goal.returns
returns c =
    let e = c.read-taken.ensures in
    let lent = c.args.line.now in
    record {
      number_is = taken_back _ (c.taken_number.ensures ∙ ap (λ (t : ReadResult). taken_code t.answer) e);
      desk_is = ap (λ (t : ReadResult). t.desk) e;
      tree_is = ap (λ (t : ReadResult). t.tree) e;
      line_is = c.line_or.ensures ∙ ap (λ (t : ReadResult). line_or t.answer lent) e;
    }
