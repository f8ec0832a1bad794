-- `sizes::Sizes::item_len` meets its contract: the level tells which of the two lengths it is. Assumes nothing.
use mathlib.Core.Path.{sym, ◌∙◌}
use Rattle.sizes.proofs.Lengths.{inner-item, leaf-item}
use Rattle.sizes.proofs.Sizes.item_len.Goals as goal

pub returns-then-k-self : goal.returns-then-k-self
returns-then-k-self c =
    let a = c.args in
    c.inner_len.ensures ∙ sym (inner-item a.self a.k c.if-k-self.true)

pub returns : goal.returns
returns c =
    let a = c.args in
    c.leaf_len.ensures ∙ sym (leaf-item a.self a.k c.if-k-self.false)
