-- `lines::directives::begins_in_any_case` meets its contract: two texts that differ in their case alone are the same in capitals. Assumes nothing.
use mathlib.Core.Path.{sym, ◌∙◌}
use native.Mathlib.Omega.{arith}
use borrow.Author.Tests.{lt-leb}
use lib.ListN.{length, take, length-take}
use Rattle.words.proofs.Tests.{same-lengths}
use Rattle.lines.specs.Words.{capitals}
use Rattle.lines.proofs.Capitals.{length-capitals, ignoring}
use Rattle.lines.proofs.directives.begins_in_any_case.Goals as goal

pub returns-then-word-s : goal.returns-then-word-s
returns-then-word-s c =
    let a = c.args in
    ignoring c.eq_ignore_ascii_case.result (take (length a.word.now) a.s.now) a.word.now c.requires c.eq_ignore_ascii_case.ensures.test

pub returns-else-word-s : goal.returns-else-word-s
returns-else-word-s c =
    let a = c.args in
    let n = length a.word.now in
    lt-leb n (length a.s.now) c.if-word-s.false
    ∙ sym (same-lengths (capitals (take n a.s.now)) a.word.now (λ e. omega (arith, e, length-capitals (take n a.s.now), length-take n a.s.now)))
