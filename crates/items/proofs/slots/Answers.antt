-- `items::slots` meets its contract: the part from after the counter to the last slot. Assumes nothing.
use Prim.Native.Nat.{ℕ, ◌+◌, ◌-◌}
use mathlib.Core.Path.{◌≡◌, sym, ap₂, ◌∙◌}
use native.Mathlib.Omega.{arith}
use Rattle.words.specs.Bytes.{part}
use Rattle.sizes.specs.Sizes.{item_at, counter_len, slots_len}
use Rattle.items.proofs.Fields.{slots-of}
use Rattle.items.proofs.slots.Goals as goal

pub returns : goal.returns
returns c =
    let a = c.args in
    let at = c.item_at-at.result in
    let n = c.leaf_len.result in
    let e : at + 8 ≡ item_at a.s a.k + counter_len = omega (arith, c.item_at-at.ensures.is) in
    let f : at + n - (at + 8) ≡ slots_len a.s = omega (arith, c.leaf_len.ensures) in
    ap₂ (λ (i j : ℕ). part a.path.now i j) e f ∙ sym (slots-of a.s a.path.now a.k)
