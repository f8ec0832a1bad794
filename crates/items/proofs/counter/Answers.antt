-- `items::counter` meets its contract: the number at the item's start. Assumes nothing.
use mathlib.Core.Path.{sym, ap, ◌∙◌}
use Rattle.words.specs.Numbers.{number}
use Rattle.sizes.specs.Sizes.{counter_len}
use Rattle.items.proofs.Fields.{counter-of}
use Rattle.items.proofs.counter.Goals as goal

pub returns : goal.returns
returns c =
    let a = c.args in
    c.get64.ensures ∙ ap (number counter_len a.path.now) c.item_at.ensures.is ∙ sym (counter-of a.s a.path.now a.k)
