-- `runs::head::first` meets its contract: what the line was read as decides. Assumes nothing.
use mathlib.Core.Path.{sym, ◌∙◌}
use native.Mathlib.Omega.{arith}
use Rattle.runs.proofs.Steps.{silent}
use Rattle.runs.proofs.head.first.Goals as goal

pub returns-in-None : goal.returns-in-None
returns-in-None c =
    let e = sym c.store_line.ensures ∙ c.in-None.is in
    rw e c.bad.ensures

pub returns-in-Some : goal.returns-in-Some
returns-in-Some c =
    let e = sym c.store_line.ensures ∙ c.in-Some.is in
    (rw e, rw e (silent c.args.out.now), omega arith)
