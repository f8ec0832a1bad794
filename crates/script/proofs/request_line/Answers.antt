-- `script::request_line` meets its contract: the word decides. Assumes nothing.
use mathlib.Core.Path.{sym, ◌∙◌}
use Rattle.text.specs.Text.{write_word, read_word}
use Rattle.text.proofs.Found.{starts-begins}
use Rattle.script.proofs.request_line.Goals as goal

pub returns-then-starts_with : goal.returns-then-starts_with
returns-then-starts_with c = rw (sym (starts-begins c.args.line.now write_word) ∙ sym c.starts_with.ensures.value ∙ c.if-starts_with.true) c.request_after.ensures

pub returns-then-starts_with-2 : goal.returns-then-starts_with-2
returns-then-starts_with-2 c =
    let w = sym (starts-begins c.args.line.now write_word) ∙ sym c.starts_with.ensures.value ∙ c.if-starts_with.false in
    let r = sym (starts-begins c.args.line.now read_word) ∙ sym c.starts_with-2.ensures.value ∙ c.if-starts_with-2.true in
    rw (w, r) c.request_after-then-starts_with-2.ensures

pub returns : goal.returns
returns c =
    let w = sym (starts-begins c.args.line.now write_word) ∙ sym c.starts_with.ensures.value ∙ c.if-starts_with.false in
    let r = sym (starts-begins c.args.line.now read_word) ∙ sym c.starts_with-2.ensures.value ∙ c.if-starts_with-2.false in
    rw (w, r)
