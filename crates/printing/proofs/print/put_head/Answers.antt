-- `printing::print::put_head` meets its contract: version and what the plan begins with, its number, and a line feed. Assumes nothing.
use native.Mathlib.Omega.{arith}
use Rattle.listing.proofs.Written.{◌then◌}
use Rattle.printing.proofs.Room.{after-decimal}
use Rattle.printing.proofs.print.put_head.Goals as goal

pub returns : goal.returns
returns c =
    let s = after-decimal c.args.n c.requires.0 c.decimal.ensures.0 in
    (c.put.ensures then c.decimal.ensures.0 then c.put-2.ensures, omega arith)
