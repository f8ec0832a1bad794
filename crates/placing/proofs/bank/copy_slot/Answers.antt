-- `placing::bank::copy_slot` meets its contract: what is copied out of the array is what was copied into it, the slot. Assumes nothing.
use mathlib.Core.Path.{ap, ◌∙◌}
use native.Mathlib.Omega.{arith}
use Rattle.words.specs.Bytes.{splice}
use Rattle.slots.specs.Slots.{Bytes}
use Rattle.placing.proofs.Laid.{slot-copied}
use Rattle.placing.proofs.bank.copy_slot.Goals as goal

pub returns : goal.returns
returns c =
    let a = c.args in
    let bytes : Bytes a.src.now = λ i. omega (arith, c.type_inv.src i) in
    c.copy-2.ensures ∙ ap (splice a.dst.now a.at) (c.copy.ensures ∙ slot-copied a.src.now bytes c.requires.1)
