-- One level more is laid, and the levels before it stay. Assumes nothing.
use mathlib.Core.Path.{◌≡◌, sym, ap, ap₂, subst, ◌∙◌}
use mathlib.Core.List.{List}
use Prim.Native.Nat.{ℕ, ◌+◌, ◌*◌, ◌-◌, ◌≤◌}
use native.Mathlib.Omega.{arith}
use lib.ListN.{length, length-append}
use Rattle.words.specs.Bytes.{part, splice, zeros}
use Rattle.words.proofs.Splice.{part-splice, part-splice-before, length-zeros}
use Rattle.words.proofs.Tests.{below_or}
use Rattle.sizes.specs.declared.Sizes.{Sizes}
use Rattle.sizes.specs.Sizes.{record_len, slot_len, counter_len, slots_len, leaf_len, inner_len, item_at, item_of, path_len}
use Rattle.sizes.proofs.Lengths.{level-below, level-fits}
use Rattle.slots.specs.Slots.{Block, AllFit, slots_bytes, slots_with}
use Rattle.slots.proofs.Blocks.{length-slots}
use Rattle.items.specs.Items.{slots_of}
use Rattle.items.proofs.Fields.{slots-of}
use Rattle.placing.specs.Walk.{pick}
use Rattle.store.specs.Laying.{Laid}

-- the slots of a bucket fill the item's
pub laid_more : (s : Sizes) (at : List ℕ) (blocks : List Block) (w after : List ℕ) (k a h : ℕ) → k ≤ s.height → path_len s ≤ length w → a ≡ item_at s k + counter_len → h ≡ s.height - k
    → length (slots_with s.slots (pick h at blocks)) ≡ slots_len s → after ≡ splice w a (slots_with s.slots (pick h at blocks)) → Laid s at blocks w k → Laid s at blocks after (k + 1)
laid_more s at blocks w after k a h l f e g n p laid j m =
    let new : List ℕ = slots_with s.slots (pick h at blocks) in
    let q : item_at s k + leaf_len s ≤ path_len s = omega (arith, level-fits s k s.height l) in
    below_or j k
    (λ i.
    let r : item_at s j + inner_len s ≤ item_at s k = level-below s j k i in
    slots-of s after j ∙ ap (λ (x : List ℕ). part x (item_at s j + counter_len) (slots_len s)) p
    ∙ part-splice-before w a new (item_at s j + counter_len) (slots_len s) (omega arith) (omega arith)
    ∙ sym (slots-of s w j) ∙ laid j i)
    (λ i.
    let d : j ≡ k = omega arith in
    let t : item_at s k + counter_len ≡ a = sym e in
    subst (λ (x : ℕ). slots_of s (item_of s after x) ≡ slots_with s.slots (pick (s.height - x) at blocks)) (sym d)
    (slots-of s after k ∙ ap₂ (λ (x y : ℕ). part after x y) t (sym n) ∙ ap (λ (x : List ℕ). part x a (length new)) p ∙ part-splice w a new (omega arith)
    ∙ ap (λ (x : ℕ). slots_with s.slots (pick x at blocks)) g))

-- slots that hold blocks fill their room
pub length-with : (room : ℕ) (bs : List Block) → AllFit record_len bs → length bs ≤ room → length (slots_with room bs) ≡ slot_len * room
length-with room bs fit few =
    length-append (slots_bytes bs) (zeros (slot_len * (room - length bs))) ∙ omega (arith, length-slots record_len bs fit, length-zeros (slot_len * (room - length bs)))
