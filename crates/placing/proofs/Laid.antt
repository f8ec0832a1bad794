-- Blocks of a bank, and slots laid one behind another. Assumes nothing.
use Prim.Native.Nat.{ℕ, zero, suc, ◌+◌, ◌*◌, ◌-◌, ◌<◌, ◌≤◌}
use mathlib.Core.Path.{◌≡◌, refl, sym, ap, ap₂, ◌∙◌}
use mathlib.Core.List.{List, [], ◌∷◌, ◌++◌}
use mathlib.Core.Logic.{◌⊎◌, inl, inr}
use native.Mathlib.Omega.{arith}
use native.Mathlib.Numerals.{add-one}
use lib.ListN.{length, take, drop, get_or, length-append, length-drop, drop_of_length-le}
use lib.Seq.{drop-cons, get_or-drop}
use lib.Dec.{eqb}
use borrow.Author.Tests.{eq-eqb, ne_eqb}
use Rattle.std.proofs.Math.Seq.{drop-append_seam}
use Rattle.std.proofs.lemmas.List.{take_at}
use Rattle.words.specs.Bytes.{splice, zeros}
use Rattle.words.specs.Numbers.{number}
use Rattle.words.proofs.Splice.{length_part, splice-whole, splice-next, splice-nil}
use Rattle.words.proofs.Numbers.{number-drop}
use Rattle.words.proofs.Tests.{by_cases}
use Rattle.sizes.specs.Sizes.{record_len, slot_len, leaf_in}
use Rattle.slots.specs.Slots.{Block, block_by, blocks_by, blocks_of, slot_bytes, slots_bytes, Fits, AllFit, Bytes, slots_with}
use Rattle.slots.proofs.Blocks.{slot-block, block-fits, block-part, block_at, length-slot, length-slots, length-blocks}
use Rattle.placing.specs.Ids.{Placeable}
use Rattle.placing.specs.Walk.{pick}
use Rattle.placing.specs.Order.{no_block, block_of, blocks_on}
use Rattle.placing.specs.Bank.{id_at, leaf_at, block_in, blocks_at, Inside}
use Rattle.placing.proofs.Ordered.{all-at}

-- ---- the block of a slot

bytes_drop : (n : ℕ) (xs : List ℕ) → Bytes xs → Bytes (drop n xs)
bytes_drop n xs b i = rw get_or-drop (b (n + i))

pub id-in : (bank : List ℕ) (p : ℕ) → (block_in bank p).id ≡ id_at bank p
unfolding block_in
id-in bank p = let e : slot_len * p + 0 ≡ slot_len * p = omega arith in number-drop 2 bank (slot_len * p) 0 ∙ ap (number 2 bank) e

pub leaf-in : (bank : List ℕ) (p : ℕ) → (block_in bank p).leaf ≡ leaf_at bank p
unfolding block_in
leaf-in bank p = number-drop 2 bank (slot_len * p) leaf_in

pub block_in_lem : (bank : List ℕ) (n p : ℕ) → p < n → block_of (blocks_of n bank) p ≡ block_in bank p
unfolding block_in
block_in_lem bank n p h = block_at record_len n bank p no_block h

pub blocks-in : (bank : List ℕ) (n : ℕ) (ps : List ℕ) → ((i : ℕ) → i < length ps → get_or ps i 0 < n) → blocks_on (blocks_of n bank) ps ≡ blocks_at bank ps
blocks-in bank n [] f = refl
blocks-in bank n (p ∷ ps) f =
    ap₂ (λ (b : Block) (bs : List Block). b ∷ bs) (block_in_lem bank n p (f 0 (omega arith))) (blocks-in bank n ps (λ i h. f (suc i) (omega arith)))

-- its id, if the blocks can be placed
pub block-id : (bank : List ℕ) (n p : ℕ) → p < n → (block_of (blocks_of n bank) p).id ≡ id_at bank p
block-id bank n p h = ap (λ (b : Block). b.id) (block_in_lem bank n p h) ∙ id-in bank p

pub id_range : (ids n : ℕ) (bank : List ℕ) (p : ℕ) → Placeable ids (blocks_of n bank) → p < n → (1 ≤ id_at bank p) × (id_at bank p ≤ ids)
id_range ids n bank p r h =
    let e : (block_of (blocks_of n bank) p).id ≡ id_at bank p = block-id bank n p h in
    let l : p < length (blocks_of n bank) = omega (arith, length-blocks record_len n bank) in
    (omega (arith, all-at (λ b. 1 ≤ b.id) (blocks_of n bank) p r.low l), omega (arith, all-at (λ b. b.id ≤ ids) (blocks_of n bank) p r.high l))

pub fits_in : (bank : List ℕ) (p : ℕ) → Bytes bank → slot_len * p + slot_len ≤ length bank → Fits record_len (block_in bank p)
unfolding block_in
fits_in bank p b h =
    block-fits record_len (drop (slot_len * p) bank) (bytes_drop (slot_len * p) bank b) (omega (arith, length-drop (slot_len * p) bank))

pub fit_at : (bank ps : List ℕ) → Bytes bank → Inside bank ps → AllFit record_len (blocks_at bank ps)
fit_at bank [] b f = tt
fit_at bank (p ∷ ps) b f = (fits_in bank p b (f 0 (omega arith)), fit_at bank ps b (λ i h. f (suc i) (omega arith)))

-- slots one behind another: the first one, and the others
module _ (xs slot rest : List ℕ) (cut : xs ≡ slot ++ rest) (long : length slot ≡ slot_len) where
  pub slot-first : block_by record_len slot ≡ block_by record_len xs
  slot-first = ap (block_by record_len) (sym (ap (take slot_len) cut ∙ take_at slot rest slot_len long)) ∙ block-part record_len xs 0 slot_len (omega arith)

  pub slot-rest : rest ≡ drop slot_len xs
  slot-rest = sym (ap (drop slot_len) cut ∙ ap (λ (i : ℕ). drop i (slot ++ rest)) (sym long) ∙ drop-append_seam slot rest)

  pub slot-next : (n m : ℕ) → m + 1 ≡ n → blocks_of n xs ≡ block_by record_len slot ∷ blocks_of m rest
  unfolding blocks_by
  slot-next n m k =
      let s : n ≡ suc m = omega arith in
      ap (λ (i : ℕ). blocks_of i xs) s ∙ ap₂ (λ (b : Block) (bs : List Block). b ∷ bs) (sym slot-first) (ap (blocks_of m) (sym slot-rest))

  pub slot-fits : Bytes xs → Fits record_len (block_by record_len slot)
  slot-fits b = rw slot-first (block-fits record_len xs b (omega (arith, ap length cut, length-append slot rest)))

  pub rest-bytes : Bytes xs → Bytes rest
  rest-bytes b = rw slot-rest (bytes_drop slot_len xs b)

  pub rest-long : (n m : ℕ) → m + 1 ≡ n → slot_len * n ≤ length xs → slot_len * m ≤ length rest
  rest-long n m k h = omega (arith, ap length cut, length-append slot rest)

-- as many of them as there are: a walk over n ends where none is left
pub slots-over : (n : ℕ) (xs : List ℕ) → slot_len * n ≤ length xs → (0 < n → length xs < slot_len) → n ≡ 0
slots-over zero xs h f = refl
slots-over (suc n) xs h f = absurd (omega (arith, f (omega arith)))

pub no-slots : (xs : List ℕ) (n : ℕ) → n ≡ 0 → blocks_of n xs ≡ []
unfolding blocks_by
no-slots xs n e = rw e

-- the first of several places in a bank, and the others
pub inside-next : (bank qs ps : List ℕ) (p : ℕ) → qs ≡ p ∷ ps → Inside bank qs → (slot_len * p + slot_len ≤ length bank) × Inside bank ps
inside-next bank qs ps p e f = let g : Inside bank (p ∷ ps) = rw e at f in (g 0 (omega arith), λ i h. g (suc i) (omega arith))

-- ---- a slot that is copied: into an array of its own, and out of it

pub slot-copied : (src : List ℕ) → Bytes src → slot_len ≤ length src → splice (zeros slot_len) 0 (take slot_len src) ≡ slot_bytes (block_by record_len src)
slot-copied src b h = splice-whole (zeros slot_len) (take slot_len src) (length_part src 0 slot_len h) ∙ sym (slot-block record_len src b h)

-- ---- slots of a height, laid one after another: the next place is at it or not

module _ (h k p : ℕ) (hs bank ps : List ℕ) where
  pub pick-hit : k ≡ h → pick h (k ∷ hs) (blocks_at bank (p ∷ ps)) ≡ block_in bank p ∷ pick h hs (blocks_at bank ps)
  unfolding pick
  pick-hit e = rw (eq-eqb k h e)

  pub pick-miss : (k ≡ h → ⊥) → pick h (k ∷ hs) (blocks_at bank (p ∷ ps)) ≡ pick h hs (blocks_at bank ps)
  unfolding pick
  pick-miss e = rw (ne_eqb k h e)

pub pick-end : (h : ℕ) (hs bank ps : List ℕ) → (ps ≡ []) ⊎ (hs ≡ []) → pick h hs (blocks_at bank ps) ≡ []
unfolding pick
pick-end h [] bank ps e = refl
pick-end h (k ∷ hs) bank [] e = refl
pick-end h (k ∷ hs) bank (p ∷ ps) (inl e) = cc
pick-end h (k ∷ hs) bank (p ∷ ps) (inr e) = cc

-- what is left after i places
abbrev pub left_of : ℕ → List ℕ → List ℕ → List ℕ → ℕ → List Block
left_of h hs bank ps i = pick h (drop i hs) (blocks_at bank (drop i ps))

module _ (h : ℕ) (hs bank ps : List ℕ) (i : ℕ) (k : i < length hs) (m : i < length ps) where
  pub left-hit : get_or hs i 0 ≡ h → left_of h hs bank ps i ≡ block_in bank (get_or ps i 0) ∷ left_of h hs bank ps (i + 1)
  unfolding pick
  left-hit e = rw (drop-cons hs i 0 k, drop-cons ps i 0 m, eq-eqb (get_or hs i 0) h e, add-one i)

  pub left-miss : (get_or hs i 0 ≡ h → ⊥) → left_of h hs bank ps i ≡ left_of h hs bank ps (i + 1)
  unfolding pick
  left-miss e = rw (drop-cons hs i 0 k, drop-cons ps i 0 m, ne_eqb (get_or hs i 0) h e, add-one i)

pick-nil : (h : ℕ) (ks : List ℕ) → pick {A = Block} h ks [] ≡ []
unfolding pick
pick-nil h [] = refl
pick-nil h (k ∷ ks) = refl

pub left_end : (h : ℕ) (hs bank ps : List ℕ) (i : ℕ) → length ps ≤ i → left_of h hs bank ps i ≡ []
left_end h hs bank ps i e =
    ap (λ (l : List ℕ). pick h (drop i hs) (blocks_at bank l)) (drop_of_length-le ps e) ∙ pick-nil h (drop i hs)

-- a slot is laid: what is left begins with its block
pub laid-turn : (dst next whole : List ℕ) (k : ℕ) (b : Block) (left right : List Block) → left ≡ b ∷ right → Fits record_len b → k + slot_len ≤ length dst
    → next ≡ splice dst k (slot_bytes b) → splice dst k (slots_bytes left) ≡ whole → splice next (k + slot_len) (slots_bytes right) ≡ whole
unfolding slots_bytes
laid-turn dst next whole k b left right e f h l w =
    ap (λ (xs : List ℕ). splice xs (k + slot_len) (slots_bytes right)) l
    ∙ splice-next dst k (slot_bytes b) (slots_bytes right) slot_len (length-slot record_len b f) h
    ∙ ap (λ (bs : List Block). splice dst k (slots_bytes bs)) (sym e) ∙ w

-- none
pub slots-none : (dst : List ℕ) (k : ℕ) (bs : List Block) → bs ≡ [] → splice dst k (slots_bytes bs) ≡ dst
unfolding slots_bytes
slots-none dst k bs e = rw e (splice-nil dst k)

-- and zeros behind
pub pick-fit : (h : ℕ) (ks : List ℕ) (bs : List Block) → AllFit record_len bs → AllFit record_len (pick h ks bs)
unfolding pick
pick-fit h [] bs f = tt
pick-fit h (k ∷ ks) [] f = tt
pick-fit h (k ∷ ks) (b ∷ bs) f = by_cases (eqb k h) (λ e. rw e (f.0, pick-fit h ks bs f.1)) (λ e. rw e (pick-fit h ks bs f.1))

pub filled_fit : (dst mid end : List ℕ) (a room k n : ℕ) (bs : List Block) → AllFit record_len bs → a + slot_len * room ≤ length dst → length bs ≤ room
    → k ≡ a + slot_len * length bs → n ≡ a + slot_len * room - k → mid ≡ splice dst a (slots_bytes bs) → end ≡ splice mid k (zeros n) → end ≡ splice dst a (slots_with room bs)
filled_fit dst mid end a room k n bs fit fits few e z l c =
    let m : n ≡ slot_len * (room - length bs) = omega arith in
    c ∙ ap₂ (λ (x : List ℕ) (i : ℕ). splice x i (zeros n)) l e ∙ ap (λ (i : ℕ). splice (splice dst a (slots_bytes bs)) (a + slot_len * length bs) (zeros i)) m
    ∙ splice-next dst a (slots_bytes bs) (zeros (slot_len * (room - length bs))) (slot_len * length bs) (length-slots record_len bs fit) (omega arith)

pub filled : (dst mid end : List ℕ) (a room h k n : ℕ) (hs bank ps : List ℕ) → Bytes bank → Inside bank ps → a + slot_len * room ≤ length dst
    → length (pick h hs (blocks_at bank ps)) ≤ room → k ≡ a + slot_len * length (pick h hs (blocks_at bank ps)) → n ≡ a + slot_len * room - k
    → mid ≡ splice dst a (slots_bytes (pick h hs (blocks_at bank ps))) → end ≡ splice mid k (zeros n) → end ≡ splice dst a (slots_with room (pick h hs (blocks_at bank ps)))
filled dst mid end a room h k n hs bank ps b f fits few e z l c =
    let bs = pick h hs (blocks_at bank ps) in filled_fit dst mid end a room k n bs (pick-fit h hs (blocks_at bank ps) (fit_at bank ps b f)) fits few e z l c
