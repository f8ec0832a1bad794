-- `printing::print::put_verdict` meets its contract: one field after the other. Assumes nothing.
use native.Mathlib.Omega.{arith}
use Rattle.listing.proofs.Written.{◌then◌}
use Rattle.printing.proofs.Room.{after-decimal}
use Rattle.printing.proofs.print.put_verdict.Goals as goal

pub put-requires-2 : goal.put-requires-2
put-requires-2 c = omega (arith, after-decimal c.args.number c.requires.0 c.decimal.ensures.0)

pub put_directive-requires : goal.put_directive-requires
put_directive-requires c = omega (arith, after-decimal c.args.number c.requires.0 c.decimal.ensures.0)

pub put-requires-3 : goal.put-requires-3
put-requires-3 c = omega (arith, after-decimal c.args.number c.requires.0 c.decimal.ensures.0)

pub returns : goal.returns
returns c =
    let s = after-decimal c.args.number c.requires.0 c.decimal.ensures.0 in
    let a = c.put_kind.ensures.0 then c.decimal.ensures.0 then c.put.ensures then c.put-2.ensures then c.put_directive.ensures.0 then c.put-3.ensures in
    (a, omega arith)
