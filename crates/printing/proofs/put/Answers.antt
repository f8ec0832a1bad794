-- `printing::put` meets its contract: version and plan, then the entries' lines. Assumes nothing.
use native.Mathlib.Omega.{arith}
use Rattle.std.proofs.Common.{rules}
use Rattle.listing.proofs.Written.{◌then◌, all_of}
use Rattle.printing.proofs.put.Goals as goal

pub returns : goal.returns
returns c =
    let w = all_of c.new-w.ensures (c.put_head.ensures.0 then c.put_entries.ensures.0) in
    (search rules, omega arith)
