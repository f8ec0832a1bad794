-- The bank that is arranged holds the requested block and the others, which can be placed, and what is planned for it is what the paper places.
-- A caller uses the fields of `Planned`, and the laws of placing on it. Assumes nothing.
use Prim.Native.Nat.{ℕ, ◌+◌, ◌*◌, ◌≤◌, ◌<◌}
use mathlib.Core.Path.{◌≡◌, refl, sym, ap, ap₂, subst, ◌∙◌}
use Rattle.std.proofs.Common.{Option, Some, None, IfSome}
use mathlib.Core.List.{List, [], ◌∷◌, ◌++◌, append_assoc}
use native.Mathlib.Nat.{zero-add}
use native.Mathlib.Omega.{arith}
use lib.ListN.{length, drop, length-append}
use lib.Dec.{eqb}
use borrow.Author.Tests.{eqb-true, eqb-false, ne_eqb, not-true}
use Rattle.words.specs.Bytes.{splice}
use Rattle.words.proofs.Tests.{by_cases}
use Rattle.sizes.specs.declared.Sizes.{Sizes}
use Rattle.sizes.specs.Sizes.{most_height, record_len, slot_len, leaves}
use Rattle.sizes.proofs.Lengths.{leaves_most}
use Rattle.bags.specs.Bags.{cnt, those, All, AllOf}
use Rattle.bags.proofs.Bags.{cnt-append}
use Rattle.bags.proofs.All.{all_append, all_back, all-those}
use Rattle.bags.proofs.Those.{those-append, those-all, cnt-those-le, cnt-those-none}
use Rattle.slots.specs.Slots.{Block, is_used, blocks_of, slots_bytes, AllFit, Bytes}
use Rattle.slots.proofs.Blocks.{blocks-slots, fit_append}
use Rattle.placing.specs.Placing.{sorted}
use Rattle.placing.specs.Ids.{is_id, Placeable}
use Rattle.placing.specs.Bank.{most_blocks}
use Rattle.gathering.specs.declared.Request.{Request}
use Rattle.gathering.specs.Gathering.{used_to, found, block_if, requested, is_other, to_place, others, Opened}
use Rattle.gathering.proofs.Taken.{others-fit, used-fit, taken_next}

-- ---- the requested block and the others can be placed, where what is found can

low-if : (id : ℕ) (leaf : Option ℕ) (bytes : List ℕ) → 1 ≤ id → AllOf (λ b. 1 ≤ b.id) (block_if id leaf bytes)
low-if id (Some leaf) bytes h = (h, tt)
low-if id None bytes h = tt

high-if : (ids id : ℕ) (leaf : Option ℕ) (bytes : List ℕ) → id ≤ ids → AllOf (λ b. b.id ≤ ids) (block_if id leaf bytes)
high-if ids id (Some leaf) bytes h = (h, tt)
high-if ids id None bytes h = tt

pub few-if : (id : ℕ) (leaf : Option ℕ) (bytes : List ℕ) → length (block_if id leaf bytes) ≤ 1
few-if id (Some leaf) bytes = omega arith
few-if id None bytes = omega arith

count-if : (id : ℕ) (leaf : Option ℕ) (i : ℕ) (bytes : List ℕ) → (id ≡ i → ⊥) → cnt (is_id i) (block_if id leaf bytes) ≡ 0
count-if id (Some leaf) i bytes ne = rw (ne_eqb id i ne)
count-if id None i bytes ne = refl

count-le : (id : ℕ) (leaf : Option ℕ) (i : ℕ) (bytes : List ℕ) → cnt (is_id i) (block_if id leaf bytes) ≤ 1
count-le id (Some leaf) i bytes = by_cases (eqb id i) (λ e. rw e (omega arith)) (λ e. rw e (omega arith))
count-le id None i bytes = omega arith

pub placeable : (ids : ℕ) (r : Request) (bytes : List ℕ) (blocks : List Block) → Placeable ids blocks → 1 ≤ r.id → r.id ≤ ids
    → Placeable ids (requested r bytes ++ those (is_other r.id) blocks)
placeable ids r bytes blocks p l h =
    let bs = requested r bytes in
    let cs = those (is_other r.id) blocks in
    record {
      low = all_append (λ b. 1 ≤ b.id) bs cs (low-if r.id r.leaf bytes l) (all-those (is_other r.id) (λ b. 1 ≤ b.id) blocks p.low);
      high = all_append (λ b. b.id ≤ ids) bs cs (high-if ids r.id r.leaf bytes h) (all-those (is_other r.id) (λ b. b.id ≤ ids) blocks p.high);
      once = λ i.
          by_cases (eqb r.id i)
          (λ e.
          let q : r.id ≡ i = eqb-true r.id i e in
          let n : cnt (is_id i) cs ≡ 0 = cnt-those-none (is_other r.id) (is_id i) blocks (λ b f. rw (← q) (not-true (is_id r.id b) f)) in
          omega (arith, cnt-append (is_id i) bs cs, count-le r.id r.leaf i bytes))
          (λ e.
          omega (arith, cnt-append (is_id i) bs cs, count-if r.id r.leaf i bytes (eqb-false r.id i e), cnt-those-le (is_other r.id) (is_id i) blocks, p.once i));
    }

-- ---- what is in the bank

all-used : (bs : List Block) → AllOf (λ b. 1 ≤ b.id) bs → All is_used bs
all-used [] a = tt
all-used (b ∷ bs) a = (rw (ne_eqb b.id 0 (λ e. absurd (omega (arith, a.0)))), all-used bs a.1)

fit-if : (id : ℕ) (leaf : Option ℕ) (bytes : List ℕ) → id < 65536 → IfSome leaf (λ l. l < 65536) → length bytes ≡ record_len → AllFit record_len (block_if id leaf bytes)
fit-if id (Some leaf) bytes h k e = (record { id = h; leaf = k; size = e }, tt)
fit-if id None bytes h k e = tt

-- a leaf of the tree is a small number
small-if : (s : Sizes) (leaf : Option ℕ) → s.height ≤ most_height → IfSome leaf (λ l. l < leaves s) → IfSome leaf (λ l. l < 65536)
small-if s (Some leaf) h k = omega (arith, k, leaves_most s h)
small-if s None h k = tt

pub blocks-laid : (bank : List ℕ) (bs : List Block) → AllFit record_len bs → blocks_of (length bs) (splice bank 0 (slots_bytes bs)) ≡ bs
unfolding splice
blocks-laid bank bs f = blocks-slots record_len bs (drop (0 + length (slots_bytes bs)) bank) f

module _ (s : Sizes) (ids : ℕ) (opened : List ℕ) (n : ℕ) (stash : List ℕ) (count : ℕ) (r : Request) (bytes : List ℕ)
    (o : Opened s ids opened n stash count r) (size : length bytes ≡ record_len) (op : Bytes opened) (st : Bytes stash) where
  abbrev one : List Block
  one = requested r bytes

  abbrev two : List Block
  two = those (is_other r.id) (used_to s opened n)

  abbrev three : List Block
  three = others r.id (blocks_of count stash)

  fit-one : AllFit record_len one
  fit-one = fit-if r.id r.leaf bytes (omega (arith, o.id_high, o.ids_at_most)) (small-if s r.leaf o.range.height_high o.new_leaf_low) size

  fit-two : AllFit record_len two
  fit-two = used-fit r.id s opened n op o.reach o.path_size

  fit-three : AllFit record_len three
  fit-three = others-fit r.id count stash st o.stash_size

  -- the others among what is found
  others-are : two ++ three ≡ those (is_other r.id) (found s opened n stash count)
  others-are =
      let used : those is_used (blocks_of count stash) ≡ blocks_of count stash =
      those-all is_used (blocks_of count stash) (all-used (blocks_of count stash) (all_back (λ b. 1 ≤ b.id) (used_to s opened n) (blocks_of count stash) o.blocks.low)) in
      sym
      (those-append (is_other r.id) (used_to s opened n) (blocks_of count stash)
      ∙ ap (λ (bs : List Block). two ++ those (is_other r.id) bs) (sym used))

  -- all of it
  abbrev pub gathered : List Block
  gathered = one ++ those (is_other r.id) (found s opened n stash count)

  module _ (bank first second third : List ℕ) (a b m : ℕ) (room : length bank ≡ slot_len * most_blocks) (few : m ≤ most_blocks)
      (first-is : first ≡ splice bank 0 (slots_bytes one)) (a-is : a ≡ length one)
      (second_is : second ≡ splice first (slot_len * a) (slots_bytes two)) (b-is : b ≡ a + length two)
      (third-is : third ≡ splice second (slot_len * b) (slots_bytes three)) (m-is : m ≡ b + length three) where
    whole : gathered ≡ (one ++ two) ++ three
    whole = ap (λ (bs : List Block). one ++ bs) (sym others-are) ∙ sym (append_assoc one two three)

    many : m ≡ length gathered
    many = omega (arith, ap length whole, length-append (one ++ two) three, length-append one two)

    bank-is : third ≡ splice bank 0 (slots_bytes gathered)
    bank-is =
        let f : first ≡ splice bank (slot_len * 0) (slots_bytes one) = first-is in
        let p : second ≡ splice bank (slot_len * 0) (slots_bytes (one ++ two)) = taken_next bank first second 0 a one two fit-one (omega arith) (a-is ∙ sym (zero-add (length one))) f second_is in
        let q : third ≡ splice bank (slot_len * 0) (slots_bytes ((one ++ two) ++ three)) =
        taken_next bank second third 0 b (one ++ two) three (fit_append record_len one two fit-one fit-two) (omega arith) (omega (arith, length-append one two)) p third-is in
        q ∙ ap (λ (bs : List Block). splice bank 0 (slots_bytes bs)) (sym whole)

    fit_all : AllFit record_len gathered
    fit_all = subst (AllFit record_len) (sym whole) (fit_append record_len (one ++ two) three (fit_append record_len one two fit-one fit-two) fit-three)

    blocks-gathered : blocks_of m third ≡ gathered
    blocks-gathered = ap₂ (λ (k : ℕ) (xs : List ℕ). blocks_of k xs) many bank-is ∙ blocks-laid bank gathered fit_all

    -- they can be placed, and by rising id they are what the paper places
    pub gathered-ready : Placeable ids (blocks_of m third) × (sorted (blocks_of m third) ≡ to_place r bytes (found s opened n stash count))
    unfolding to_place
    gathered-ready = (
      subst (Placeable ids) (sym blocks-gathered) (placeable ids r bytes (found s opened n stash count) o.blocks o.id_low o.id_high),
      ap sorted blocks-gathered,
    )
