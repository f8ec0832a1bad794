-- A plan that the code made, tied to the definitions of placing: what `fill` lays for a height is what placing puts into the bucket there, or leaves
-- to the stash. A caller uses `bucket-slots`, `stash-slots` and `Planned`'s own fields. Assumes nothing.
use Prim.Native.Nat.{ℕ, ◌+◌, ◌*◌, ◌≤◌}
use mathlib.Core.Path.{◌≡◌, sym, ap, ap₂, ◌∙◌}
use mathlib.Core.List.{List, []}
use native.Mathlib.Omega.{arith}
use lib.ListN.{length, take, get_or}
use Rattle.words.specs.Bytes.{zeros}
use Rattle.sizes.specs.declared.Sizes.{Sizes}
use Rattle.sizes.specs.Sizes.{most_height, record_len, slot_len}
use Rattle.slots.specs.Slots.{Block, blocks_of, slots_with}
use Rattle.slots.proofs.Blocks.{length-blocks}
use Rattle.placing.specs.Placing.{sorted, placed_in, remaining}
use Rattle.placing.specs.Ids.{Placeable}
use Rattle.placing.specs.Walk.{pick, given, used_in, most_heights}
use Rattle.placing.specs.Order.{order}
use Rattle.placing.specs.Bank.{most_blocks, blocks_at, Inside, Planned}
use Rattle.placing.proofs.Placing.{placed-small}
use Rattle.placing.proofs.Given.{bucket-given, rest-given, rest-count}
use Rattle.placing.proofs.Ordered.{order-sorted, order-length, order_below}
use Rattle.placing.proofs.Laid.{blocks-in}

-- ---- what is laid

module _ (s : Sizes) (leaf : ℕ) (blocks : List Block) (all over : ℕ) (bank places at : List ℕ) (p : Planned s leaf blocks all over bank places at) where
  -- in the bucket of height h
  pub bucket-fits : (h : ℕ) → h ≤ s.height → length (pick h (take all at) (blocks_at bank (take all places))) ≤ s.slots
  bucket-fits h q = omega (arith, ap length (p.bucket h q), placed-small s leaf blocks h)

  pub bucket-slots : (h : ℕ) → h ≤ s.height → slots_with s.slots (pick h (take all at) (blocks_at bank (take all places))) ≡ slots_with s.slots (get_or (placed_in s leaf blocks) h [])
  bucket-slots h q = ap (slots_with s.slots) (p.bucket h q)

  -- in a stash of this room
  pub stash-fits : (room : ℕ) → over ≤ room → length (pick (s.height + 1) (take all at) (blocks_at bank (take all places))) ≤ room
  stash-fits room h = omega (arith, ap length p.stash, p.remains)

  pub stash-slots : (room : ℕ) → slots_with room (pick (s.height + 1) (take all at) (blocks_at bank (take all places))) ≡ slots_with room (remaining s leaf blocks)
  stash-slots room = ap (slots_with room) p.stash

-- ---- how a plan is made: the order of the blocks in the bank, then their heights

module _ (ids n : ℕ) (bank : List ℕ) (r : Placeable ids (blocks_of n bank)) (few : n ≤ most_blocks) (size : slot_len * n ≤ length bank)
    (places : List ℕ) (all : ℕ) (stand : take all places ≡ order ids (blocks_of n bank)) (count : all ≡ n) where
  blocks-many : length (blocks_of n bank) ≡ n
  blocks-many = length-blocks record_len n bank

  pub plan-length : length (take all places) ≡ all
  plan-length = ap length stand ∙ order-length ids (blocks_of n bank) r ∙ blocks-many ∙ sym count

  order-inside : Inside bank (order ids (blocks_of n bank))
  order-inside i h = omega (arith, order_below ids (blocks_of n bank) r i h, blocks-many)

  pub plan-inside : Inside bank (take all places)
  plan-inside = rw stand order-inside

  blocks-are : blocks_at bank (take all places) ≡ sorted (blocks_of n bank)
  blocks-are =
      ap (blocks_at bank) stand
      ∙ sym (blocks-in bank n (order ids (blocks_of n bank)) (λ i h. omega (arith, order_below ids (blocks_of n bank) r i h, blocks-many)))
      ∙ order-sorted ids (blocks_of n bank) r

  pub plan-made : (s : Sizes) (leaf over : ℕ) (at : List ℕ) → s.height ≤ most_height
      → take (length (take all places)) at ≡ given s leaf (zeros most_heights) (blocks_at bank (take all places))
      → over ≡ get_or (used_in s leaf (zeros most_heights) (blocks_at bank (take all places))) (s.height + 1) 0
      → Planned s leaf (sorted (blocks_of n bank)) all over bank places at
  plan-made s leaf over at low go rest =
      let bs = sorted (blocks_of n bank) in
      let g : take all at ≡ given s leaf (zeros most_heights) bs =
      ap (λ (m : ℕ). take m at) (sym plan-length) ∙ go ∙ ap (given s leaf (zeros most_heights)) blocks-are in
      let same : (h : ℕ) → pick h (take all at) (blocks_at bank (take all places)) ≡ pick h (given s leaf (zeros most_heights) bs) bs = λ h. ap₂ (pick h) g blocks-are in
      record {
        few = omega arith;
        inside = plan-inside;
        bucket = λ h q. same h ∙ bucket-given s leaf low bs h q;
        stash = same (s.height + 1) ∙ rest-given s leaf low bs;
        remains = rest ∙ ap (λ (l : List Block). get_or (used_in s leaf (zeros most_heights) l) (s.height + 1) 0) blocks-are ∙ rest-count s leaf low bs;
      }
