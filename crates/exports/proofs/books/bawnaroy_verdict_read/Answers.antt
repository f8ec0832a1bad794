-- `exports::books::bawnaroy_verdict_read` meets its contract: by what was read. Assumes nothing.
use Rattle.std.specs.Prelude.{Some}
use mathlib.Core.Path.{◌≡◌, sym, ◌∙◌}
use native.Mathlib.Omega.{arith}
use Rattle.verdicts.specs.Verdict.{reading_of}
use Rattle.verdicts.proofs.GoodRecord.{length-short}
use Rattle.exports.proofs.Book.{read-good, read-bad}
use borrow.Author.Rules.{rules}
use Rattle.exports.proofs.books.bawnaroy_verdict_read.Goals as goal

pub overflow_cast-said-in-Some : goal.overflow_cast-said-in-Some
overflow_cast-said-in-Some c =
    let good : reading_of c.args.«record».now ≡ Some c.in-Some.entry = sym c.read.ensures ∙ c.in-Some.is in
    omega (arith, length-short _ _ good)

pub returns-in-Some : goal.returns-in-Some
returns-in-Some c =
    let good : reading_of c.args.«record».now ≡ Some c.in-Some.entry = sym c.read.ensures ∙ c.in-Some.is in
    read-good c.args.said.now _ good (search rules) c.from.ensures

pub returns-in-None : goal.returns-in-None
returns-in-None c = read-bad c.args.said.now (sym c.read.ensures ∙ c.in-None.is)
