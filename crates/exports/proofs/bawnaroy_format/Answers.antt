-- `exports::bawnaroy_format` meets its contract: it is `formats::format`'s, and its answer's number. Assumes nothing.
use mathlib.Core.Path.{ap, ◌∙◌}
use Rattle.formats.specs.Format.{FormatResult}
use Rattle.exports.specs.Codes.{outcome_code}
use Rattle.exports.proofs.Signed.{outcome-back}
use Rattle.exports.proofs.bawnaroy_format.Goals as goal

pub returns : goal.returns
returns c =
    let e = c.format.ensures in
    record {
      number_is = outcome-back _ (c.done.ensures ∙ ap (λ (t : FormatResult). outcome_code t.answer) e);
      buffer_is = ap (λ (t : FormatResult). t.desk) e;
    }
