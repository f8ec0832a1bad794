-- `listing::writer::Writer::request` meets its contract: one field after the other. Assumes nothing.
use native.Mathlib.Omega.{arith}
use Rattle.listing.proofs.Written.{◌then◌}
use Rattle.listing.proofs.writer.Writer.request.Goals as goal

pub returns : goal.returns
returns c =
    let d = c.decimal-2.ensures.0 in
    let w = c.decimal.ensures.0 then c.put.ensures then c.kind.ensures.0 then (rw c.from.ensures at d) then c.put-2.ensures in
    (w, omega arith)
