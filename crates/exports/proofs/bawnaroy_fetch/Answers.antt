-- `exports::bawnaroy_fetch` meets its contract: it is `tree::fetch`'s, and its answer's number. Assumes nothing.
use mathlib.Core.Path.{ap, ◌∙◌}
use Rattle.tree.specs.Tree.{TreeResult}
use Rattle.exports.specs.Codes.{outcome_code}
use Rattle.exports.proofs.Signed.{outcome-back}
use Rattle.exports.proofs.bawnaroy_fetch.Goals as goal

pub returns : goal.returns
returns c =
    let e = c.fetch.ensures in
    record {
      number_is = outcome-back _ (c.done.ensures ∙ ap (λ (t : TreeResult). outcome_code t.answer) e);
      buffer_is = ap (λ (t : TreeResult). t.path) e;
    }
