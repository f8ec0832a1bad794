-- `listing::row` meets its contract: one field after the other. Assumes nothing.
use native.Mathlib.Omega.{arith}
use Rattle.std.proofs.Common.{rules}
use Rattle.listing.proofs.Written.{◌then◌, all_of}
use Rattle.listing.proofs.row.Goals as goal

pub returns : goal.returns
returns c =
    let w = all_of c.new-w.ensures (c.request.ensures.0 then c.leaf.ensures.0 then c.put.ensures then c.answer.ensures.0 then c.put-2.ensures) in
    (search rules, omega arith)
