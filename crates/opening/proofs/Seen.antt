-- The table of ids met: it goes by counts alone, and a block is met by one store. Assumes nothing.
use Prim.Native.Nat.{ℕ, suc, ◌+◌, ◌*◌, ◌≤◌, ◌<◌}
use mathlib.Core.Bool.{false}
use mathlib.Core.Path.{◌≡◌, sym, ap, ◌∙◌}
use mathlib.Core.List.{List, [], ◌∷◌, ◌++◌, append_assoc}
use native.Mathlib.Omega.{arith}
use lib.ListN.{length, get_or, set, drop, length-set, get_or-replicate}
use lib.Seq.{get_or-set_same, get_or-set_other}
use lib.Dec.{eqb}
use borrow.Author.Tests.{ne_eqb, eqb-true, eqb-false}
use Rattle.words.specs.Bytes.{zeros}
use Rattle.words.proofs.Splice.{length-zeros}
use Rattle.words.proofs.Tests.{by_cases}
use Rattle.sizes.specs.Sizes.{most_ids, slot_len, record_len}
use Rattle.bags.specs.Bags.{cnt, those}
use Rattle.bags.proofs.Bags.{cnt-append, cnt-those}
use Rattle.slots.specs.Slots.{Block, is_used, slot_by, block_by, blocks_by, blocks_of}
use Rattle.slots.proofs.Blocks.{blocks-append}
use Rattle.words.specs.Numbers.{number}
use Rattle.words.proofs.Numbers.{number-drop}
use Rattle.placing.proofs.Laid.{slot-first, slot-rest, slot-next}
use Rattle.opening.specs.Opening.{is_id}
use Rattle.opening.specs.Walk.{Seen}

-- empty slots do not count
pub used-counts : (id : ℕ) → 0 < id → (bs : List Block) → cnt (is_id id) (those is_used bs) ≡ cnt (is_id id) bs
used-counts id h bs =
    cnt-those (is_id id) is_used bs (λ b e. let f : b.id ≡ id = eqb-true b.id id e in let g : eqb b.id 0 ≡ false = ne_eqb b.id 0 (λ z. omega arith) in rw g)

pub seen-ext : (seen : List ℕ) (cs bs : List Block) → ((id : ℕ) → 0 < id → cnt (is_id id) cs ≡ cnt (is_id id) bs) → Seen seen cs → Seen seen bs
seen-ext seen cs bs h s = record { size = s.size; at = λ id l m. s.at id l m ∙ ap (λ (n : ℕ). eqb n 0) (h id l) }

pub seen_none : Seen (zeros (suc most_ids)) []
seen_none = record { size = length-zeros (suc most_ids); at = λ id l m. ap (λ (n : ℕ). eqb n 0) (get_or-replicate (suc most_ids) id 0 0 (omega arith)) }

pub seen-mark : (seen : List ℕ) (met : List Block) (b : Block) → b.id ≤ most_ids → Seen seen met → Seen (set seen b.id 1) (met ++ (b ∷ []))
seen-mark seen met b h s =
    record {
      size = length-set seen b.id 1 ∙ s.size;
      at = λ id l m.
          let n = cnt-append (is_id id) met (b ∷ []) in
          by_cases (eqb b.id id)
          (λ e.
          let f : b.id ≡ id = eqb-true b.id id e in
          let k : b.id < length seen = omega (arith, s.size) in
          let v : get_or (set seen b.id 1) id 0 ≡ 1 = rw (← f) (get_or-set_same seen b.id 1 0 k) in
          let one : cnt (is_id id) (met ++ (b ∷ [])) ≡ cnt (is_id id) met + (1 + 0) = n ∙ rw e in
          ap (λ (x : ℕ). eqb x 0) v ∙ sym (ne_eqb (cnt (is_id id) (met ++ (b ∷ []))) 0 (λ z. omega (arith, one, z))))
          (λ e.
          let v : get_or (set seen b.id 1) id 0 ≡ get_or seen id 0 = get_or-set_other seen b.id id 1 0 (λ (f : id ≡ b.id). eqb-false b.id id e (sym f)) in
          let same : cnt (is_id id) met ≡ cnt (is_id id) (met ++ (b ∷ [])) = let g : cnt (is_id id) (met ++ (b ∷ [])) ≡ cnt (is_id id) met + (0 + 0) = n ∙ rw e in omega (arith, g) in
          ap (λ (x : ℕ). eqb x 0) v ∙ s.at id l m ∙ ap (λ (x : ℕ). eqb x 0) same);
    }

-- a slot's block, which does not count where it is empty
pub seen-used : (seen : List ℕ) (met : List Block) (b : Block) → b.id ≤ most_ids → Seen seen met → Seen (set seen b.id 1) (met ++ those is_used (b ∷ []))
seen-used seen met b h s =
    seen-ext (set seen b.id 1) (met ++ (b ∷ [])) (met ++ those is_used (b ∷ []))
    (λ id l. omega (arith, cnt-append (is_id id) met (b ∷ []), cnt-append (is_id id) met (those is_used (b ∷ [])), used-counts id l (b ∷ [])))
    (seen-mark seen met b h s)

-- no slot, and one slot more of several
pub seen_first : (r : ℕ) (xs : List ℕ) → Seen (zeros (suc most_ids)) (blocks_by r 0 xs)
unfolding blocks_by
seen_first r xs = seen_none

pub seen_next : (r : ℕ) (xs seen : List ℕ) (i id : ℕ) → id ≡ (block_by r (drop (slot_by r * i) xs)).id → id ≤ most_ids → Seen seen (blocks_by r i xs)
    → Seen (set seen id 1) (blocks_by r (i + 1) xs)
unfolding blocks_by
seen_next r xs seen i id e h s =
    let b : Block = block_by r (drop (slot_by r * i) xs) in
    let g : blocks_by r (i + 1) xs ≡ blocks_by r i xs ++ (b ∷ []) = blocks-append r i 1 xs in
    rw (g, e) (seen-mark seen (blocks_by r i xs) b (omega arith) s)

-- the next of several slots, whose ids are small, after others were met
module _ (xs slot rest : List ℕ) (cut : xs ≡ slot ++ rest) (long : length slot ≡ slot_len) (n m : ℕ) (one : m + 1 ≡ n) where
  pub small-here : ((i : ℕ) → i < n → number 2 xs (slot_len * i) ≤ most_ids) → number 2 slot 0 ≤ most_ids
  small-here f = omega (arith, f 0 (omega arith), ap (λ (b : Block). b.id) (slot-first xs slot rest cut long))

  pub small-rest : ((i : ℕ) → i < n → number 2 xs (slot_len * i) ≤ most_ids) → (i : ℕ) → i < m → number 2 rest (slot_len * i) ≤ most_ids
  small-rest f i h =
      let e : slot_len + slot_len * i ≡ slot_len * (i + 1) = omega arith in
      let g : number 2 rest (slot_len * i) ≡ number 2 xs (slot_len * (i + 1)) =
      ap (λ (ys : List ℕ). number 2 ys (slot_len * i)) (slot-rest xs slot rest cut long) ∙ number-drop 2 xs slot_len (slot_len * i) ∙ ap (number 2 xs) e in
      omega (arith, g, f (i + 1) (omega arith))

  pub seen-next : (whole met : List Block) (seen : List ℕ) (id : ℕ) → id ≡ number 2 slot 0 → number 2 slot 0 ≤ most_ids → met ++ blocks_of n xs ≡ whole → Seen seen met
      → (next : List Block) × (next ++ blocks_of m rest ≡ whole) × Seen (set seen id 1) next
  seen-next whole met seen id i h e s =
      let b = block_by record_len slot in (
        met ++ (b ∷ []),
        append_assoc met (b ∷ []) (blocks_of m rest) ∙ ap (λ (bs : List Block). met ++ bs) (sym (slot-next xs slot rest cut long n m one)) ∙ e,
        rw i (seen-mark seen met b h s),
      )
