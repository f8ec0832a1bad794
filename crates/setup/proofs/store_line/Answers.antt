-- `setup::store_line` meets its contract: the word, the numbers and the line's end decide. Assumes nothing.
use mathlib.Core.Path.{◌≡◌, refl, sym, ◌∙◌}
use mathlib.Core.Bool.{true}
use native.Mathlib.Omega.{arith}
use Rattle.text.specs.Text.{store_word}
use Rattle.text.specs.Fronts.{begins}
use Rattle.text.proofs.Found as laws
use Rattle.setup.proofs.store_line.Goals as goal

pub returns-then-not-starts_with : goal.returns-then-not-starts_with
returns-then-not-starts_with c = rw (sym (laws.starts-begins c.args.line.now store_word) ∙ sym c.starts_with.ensures.value ∙ c.if-not-starts_with.true)

pub returns : goal.returns
returns c =
    let xs = c.args.line.now in
    let b : begins xs store_word ≡ true = sym (laws.starts-begins xs store_word) ∙ sym c.starts_with.ensures.value ∙ c.if-not-starts_with.false in
    let k = laws.begins-length xs store_word b in
    let f = laws.found 4 xs 5 (omega arith) _ _ c.numbers.ensures.value c.in_ok-n.was in
    let v = laws.found-are 4 xs 5 (omega arith) _ f _ _ refl c.numbers.ensures.out_after in
    c.store_by.ensures ∙ rw (b, f.there, laws.nothing_left 4 xs 5 _ f c.if-from-n.false, v)
