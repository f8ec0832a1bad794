-- `verdicts::counts::Counts::plus` meets its contract: by the six columns. Assumes nothing.
use mathlib.Core.Path.{sym, ap}
use Rattle.verdicts.specs.declared.counts.Cell.{Cell}
use Rattle.verdicts.specs.Cells.{plus}
use Rattle.verdicts.proofs.counts.Counts.plus.Goals as goal

pub returns-in-Passed : goal.returns-in-Passed
returns-in-Passed c = sym (ap (λ (x : Cell). plus x c.args.self) c.in-Passed.is)

pub returns-in-Failed : goal.returns-in-Failed
returns-in-Failed c = sym (ap (λ (x : Cell). plus x c.args.self) c.in-Failed.is)

pub returns-in-Skipped : goal.returns-in-Skipped
returns-in-Skipped c = sym (ap (λ (x : Cell). plus x c.args.self) c.in-Skipped.is)

pub returns-in-Errors : goal.returns-in-Errors
returns-in-Errors c = sym (ap (λ (x : Cell). plus x c.args.self) c.in-Errors.is)

pub returns-in-Bad : goal.returns-in-Bad
returns-in-Bad c = sym (ap (λ (x : Cell). plus x c.args.self) c.in-Bad.is)

pub returns-in-NotRun : goal.returns-in-NotRun
returns-in-NotRun c = sym (ap (λ (x : Cell). plus x c.args.self) c.in-NotRun.is)
