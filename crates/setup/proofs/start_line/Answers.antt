-- `setup::start_line` meets its contract: the word, the numbers and the line's end decide. Assumes nothing.
use mathlib.Core.Path.{◌≡◌, sym, ◌∙◌}
use mathlib.Core.Bool.{true}
use native.Mathlib.Omega.{arith}
use lib.ListN.{length}
use borrow.Author.Tests.{eqb-true, eqb-false}
use Rattle.text.specs.Text.{start_word}
use Rattle.text.specs.Fronts.{begins}
use Rattle.text.proofs.Found as laws
use Rattle.setup.proofs.Start.{start_none, start-some, start-lost}
use Rattle.setup.proofs.start_line.Goals as goal

pub returns-then-not-starts_with : goal.returns-then-not-starts_with
returns-then-not-starts_with c =
    let e = sym (laws.starts-begins c.args.line.now start_word) ∙ sym c.starts_with.ensures.value ∙ c.if-not-starts_with.true in
    (rw e, rw e)

pub returns-in_default : goal.returns-in_default
returns-in_default c =
    let a = c.args in
    let xs = a.line.now in
    let b : begins xs start_word ≡ true = sym (laws.starts-begins xs start_word) ∙ sym c.starts_with.ensures.value ∙ c.if-not-starts_with.false in
    let k = laws.begins-length xs start_word b in (
      sym (start-lost (length a.leaves.now) xs (laws.lost (length a.leaves.now) xs 5 (omega arith) _ c.numbers.ensures.value.0 c.in_default.is)),
      c.numbers.ensures.out_after ∙ rw (b, laws.whole 0 xs 5 (omega arith)),
    )

pub returns-then-is_empty : goal.returns-then-is_empty
returns-then-is_empty c =
    let a = c.args in
    let xs = a.line.now in
    let b : begins xs start_word ≡ true = sym (laws.starts-begins xs start_word) ∙ sym c.starts_with.ensures.value ∙ c.if-not-starts_with.false in
    let k = laws.begins-length xs start_word b in
    let z = eqb-true _ 0 (sym c.is_empty.ensures ∙ c.if-is_empty.true) in (
      sym (start_none (length a.leaves.now) xs b (omega arith)),
      c.numbers.ensures.out_after ∙ rw (b, laws.whole 0 xs 5 (omega arith)),
    )

pub returns : goal.returns
returns c =
    let a = c.args in
    let xs = a.line.now in
    let b : begins xs start_word ≡ true = sym (laws.starts-begins xs start_word) ∙ sym c.starts_with.ensures.value ∙ c.if-not-starts_with.false in
    let k = laws.begins-length xs start_word b in
    let f = laws.found (length a.leaves.now) xs 5 (omega arith) _ _ c.numbers.ensures.value c.in-Some.is in
    let z = eqb-false _ 0 (sym c.is_empty.ensures ∙ c.if-is_empty.false) in (
      sym (start-some (length a.leaves.now) xs _ b (λ e. z (c.numbers.auto.out ∙ e)) f),
      c.numbers.ensures.out_after ∙ rw (b, laws.whole 0 xs 5 (omega arith)),
    )
