-- `exports::books::bawnaroy_verdict_make` meets its contract: of a verdict's number it is `verdicts::make`'s. Assumes nothing.
use mathlib.Core.Path.{◌≡◌, sym, ap, ◌∙◌}
use mathlib.Core.Bool.{Bool}
use Rattle.verdicts.specs.declared.Verdict.{Verdict}
use Rattle.verdicts.specs.Verdict.{making, make_of}
use Rattle.exports.specs.BookCodes.{made_of}
use Rattle.exports.proofs.Book.{of_none, of-verdict, not_made, made}
use borrow.Author.Rules.{rules}
use Rattle.exports.proofs.books.bawnaroy_verdict_make.Goals as goal

pub returns-in_default : goal.returns-in_default
returns-in_default c =
    let a = c.args in
    not_made a.verdict (of_none a.«record».now a.verdict a.chapter a.year a.name.now c.in_default.ensures.0)

pub returns-then-not-make : goal.returns-then-not-make
returns-then-not-make c =
    let of-it : let a = c.args in made_of a.«record».now a.verdict a.chapter a.year a.name.now ≡ making c.make.result c.make.new.record = let a = c.args in
    of-verdict a.«record».now a.verdict a.chapter a.year a.name.now c.in-Ok.ensures.0
    ∙ ap (λ (v : Verdict). make_of a.«record».now v a.chapter a.year a.name.now) (sym c.in-Ok.ensures.1)
    ∙ sym c.make.ensures in
    not_made c.args.verdict (of-it ∙ ap (λ (k : Bool). making k c.make.new.record) (c.if-not-make.true))

pub returns : goal.returns
returns c =
    let of-it : let a = c.args in made_of a.«record».now a.verdict a.chapter a.year a.name.now ≡ making c.make.result c.make.new.record = let a = c.args in
    of-verdict a.«record».now a.verdict a.chapter a.year a.name.now c.in-Ok.ensures.0
    ∙ ap (λ (v : Verdict). make_of a.«record».now v a.chapter a.year a.name.now) (sym c.in-Ok.ensures.1)
    ∙ sym c.make.ensures in
    made c.args.verdict (search rules) (of-it ∙ ap (λ (k : Bool). making k c.make.new.record) (c.if-not-make.false))
