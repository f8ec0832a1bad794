-- `listing::writer::Writer::refused` meets its contract: the word, then the number. Assumes nothing.
use mathlib.Core.Path.{◌∙◌}
use native.Mathlib.Omega.{arith}
use Rattle.listing.proofs.Written.{◌then◌}
use Rattle.listing.proofs.writer.Writer.refused.Goals as goal

pub returns : goal.returns
returns c =
    let d = c.decimal.ensures.0 in
    (c.put.ensures then (rw (c.from-2.ensures ∙ c.from.ensures) at d), omega arith)
