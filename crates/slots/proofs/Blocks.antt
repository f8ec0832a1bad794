-- Blocks and slots: reading back what was written, writing back what was read, and lists of slots that stand together. Assumes nothing.
use Prim.Native.Nat.{ℕ, zero, suc, ◌+◌, ◌*◌, ◌-◌, ◌≤◌, ◌<◌}
use mathlib.Core.Path.{◌≡◌, refl, sym, ap, ap₂, ◌∙◌}
use mathlib.Core.List.{List, [], ◌∷◌, ◌++◌, append_assoc}
use native.Mathlib.Nat.{mul-suc, mul-le-mul_left, zero-add, suc-add, mul-zero}
use native.Mathlib.Omega.{arith}
use lib.ListN.{length, take, drop, get_or, length-append, length-drop}
use lib.Seq.{take_at, drop_at, drop-drop, get_or-drop, take-add, take-nil}
use Rattle.words.specs.Bytes.{part}
use Rattle.words.specs.Numbers.{number, bytes_of}
use Rattle.words.proofs.Splice.{part-part, part-add, part_right, length_part}
use Rattle.words.proofs.Numbers.{number-part, number-drop, number-bytes_of, length-bytes_of}
use Rattle.sizes.specs.Sizes.{slot_head, leaf_in}
use Rattle.slots.specs.Slots.{Block, slot_by, block_by, blocks_by, slot_bytes, slots_bytes, Fits, AllFit, Bytes}
use Rattle.slots.proofs.Numbers.{number_small, bytes_of-number, number-left, number-right}

-- ---- lengths

pub length-slot : (r : ℕ) (b : Block) → Fits r b → length (slot_bytes b) ≡ slot_by r
length-slot r b f =
    simp (length-append, length-bytes_of) (omega (arith, f.size))

pub length-slots : (r : ℕ) (bs : List Block) → AllFit r bs → length (slots_bytes bs) ≡ slot_by r * length bs
unfolding slots_bytes
length-slots r [] f = sym (mul-zero (slot_by r))
length-slots r (b ∷ bs) f =
    omega (arith, length-append (slot_bytes b) (slots_bytes bs), length-slot r b f.0, length-slots r bs f.1, mul-suc (slot_by r) (length bs))

pub length-blocks : (r n : ℕ) (xs : List ℕ) → length (blocks_by r n xs) ≡ n
unfolding blocks_by
length-blocks r zero xs = refl
length-blocks r (suc n) xs = ap suc (length-blocks r n (drop (slot_by r) xs))

-- where the slots before slot n end
pub slots-suc : (r n : ℕ) → slot_by r * suc n ≡ slot_by r + slot_by r * n
slots-suc r n = omega (arith, mul-suc (slot_by r) n)

pub slot-below : (r i n : ℕ) → i < n → slot_by r * i + slot_by r ≤ slot_by r * n
slot-below r i n h = omega (arith, mul-le-mul_left (slot_by r) h, mul-suc (slot_by r) i)

-- ---- a slot

-- the block of a slot's bytes
pub block-slot : (r : ℕ) (b : Block) (rest : List ℕ) → Fits r b → block_by r (slot_bytes b ++ rest) ≡ b
block-slot r b rest f =
    let i : List ℕ = bytes_of 2 b.id in
    let l : List ℕ = bytes_of 2 b.leaf in
    let ni : length i ≡ 2 = length-bytes_of 2 b.id in
    let nl : length l ≡ 2 = length-bytes_of 2 b.leaf in
    let whole : List ℕ = i ++ (l ++ (b.bytes ++ rest)) in
    let e : slot_bytes b ++ rest ≡ whole = simp append_assoc in
    let p : number 2 whole 0 ≡ b.id = number-left 2 i (l ++ (b.bytes ++ rest)) 0 (omega arith) ∙ number-bytes_of 2 b.id f.id in
    let q : number 2 whole leaf_in ≡ b.leaf =
    number-right 2 i (l ++ (b.bytes ++ rest)) 0 leaf_in (omega arith) ∙ number-left 2 l (b.bytes ++ rest) 0 (omega arith) ∙ number-bytes_of 2 b.leaf f.leaf in
    let s : part whole slot_head r ≡ b.bytes =
    part_right i (l ++ (b.bytes ++ rest)) 2 slot_head r (omega arith) ∙ part_right l (b.bytes ++ rest) 0 2 r (omega arith) ∙ take_at b.bytes rest r f.size in
    rw (e, p, q, s)

-- a slot shows no more than its own bytes
pub block-part : (r : ℕ) (xs : List ℕ) (a n : ℕ) → slot_by r ≤ n → block_by r (part xs a n) ≡ block_by r (drop a xs)
block-part r xs a n h =
    let i : number 2 (part xs a n) 0 ≡ number 2 (drop a xs) 0 = number-part 2 xs a n 0 (omega arith) ∙ sym (number-drop 2 xs a 0) in
    let l : number 2 (part xs a n) leaf_in ≡ number 2 (drop a xs) leaf_in = number-part 2 xs a n leaf_in (omega arith) ∙ sym (number-drop 2 xs a leaf_in) in
    let p : part (part xs a n) slot_head r ≡ part (drop a xs) slot_head r =
    part-part xs a n slot_head r h ∙ ap (λ (ys : List ℕ). take r ys) (sym (drop-drop slot_head a xs)) in
    rw (i, l, p)

-- the slot of the block that a slot shows
pub slot-block : (r : ℕ) (xs : List ℕ) → Bytes xs → slot_by r ≤ length xs → slot_bytes (block_by r xs) ≡ part xs 0 (slot_by r)
slot-block r xs b h =
    let e : slot_by r ≡ 2 + (2 + r) = omega arith in
    rw (bytes_of-number 2 xs 0 b (omega arith), bytes_of-number 2 xs leaf_in b (omega arith))
    (sym (ap (part xs 0) e ∙ part-add xs 0 2 (2 + r) ∙ ap (λ (ys : List ℕ). part xs 0 2 ++ ys) (part-add xs 2 2 r)))

pub block-fits : (r : ℕ) (xs : List ℕ) → Bytes xs → slot_by r ≤ length xs → Fits r (block_by r xs)
block-fits r xs b h =
    record { id = number_small 2 xs 0 b; leaf = number_small 2 xs leaf_in b; size = length_part xs slot_head r h }

-- ---- slots

-- reading back what was written
pub blocks-slots : (r : ℕ) (bs : List Block) (rest : List ℕ) → AllFit r bs → blocks_by r (length bs) (slots_bytes bs ++ rest) ≡ bs
unfolding blocks_by slots_bytes
blocks-slots r [] rest f = refl
blocks-slots r (b ∷ bs) rest f =
    let s : List ℕ = slot_bytes b in
    let e : (s ++ slots_bytes bs) ++ rest ≡ s ++ (slots_bytes bs ++ rest) = append_assoc s (slots_bytes bs) rest in
    let d : drop (slot_by r) (s ++ (slots_bytes bs ++ rest)) ≡ slots_bytes bs ++ rest = drop_at s (slots_bytes bs ++ rest) (slot_by r) (length-slot r b f.0) in
    ap (λ (xs : List ℕ). block_by r xs ∷ blocks_by r (length bs) (drop (slot_by r) xs)) e
    ∙ ap₂ (λ (x : Block) (y : List Block). x ∷ y) (block-slot r b (slots_bytes bs ++ rest) f.0) (ap (blocks_by r (length bs)) d ∙ blocks-slots r bs rest f.1)

bytes_drop : (n : ℕ) (xs : List ℕ) → Bytes xs → Bytes (drop n xs)
bytes_drop n xs b i = rw get_or-drop (b (n + i))

-- writing back what was read
pub slots-blocks : (r n : ℕ) (xs : List ℕ) → Bytes xs → slot_by r * n ≤ length xs → slots_bytes (blocks_by r n xs) ≡ part xs 0 (slot_by r * n)
unfolding blocks_by slots_bytes
slots-blocks r zero xs b h = rw (mul-zero (slot_by r))
slots-blocks r (suc n) xs b h =
    let k : List ℕ = drop (slot_by r) xs in
    let e = slots-suc r n in
    let ih : slots_bytes (blocks_by r n k) ≡ part k 0 (slot_by r * n) = slots-blocks r n k (bytes_drop (slot_by r) xs b) (omega (arith, length-drop (slot_by r) xs)) in
    ap₂ (λ (x y : List ℕ). x ++ y) (slot-block r xs b (omega arith)) ih ∙ sym (ap (part xs 0) e ∙ take-add (slot_by r) (slot_by r * n) xs)

pub blocks-fit : (r n : ℕ) (xs : List ℕ) → Bytes xs → slot_by r * n ≤ length xs → AllFit r (blocks_by r n xs)
unfolding blocks_by
blocks-fit r zero xs b h = tt
blocks-fit r (suc n) xs b h =
    let e = slots-suc r n in (
      block-fits r xs b (omega arith),
      blocks-fit r n (drop (slot_by r) xs) (bytes_drop (slot_by r) xs b) (omega (arith, length-drop (slot_by r) xs)),
    )

-- block i of the first n
pub block_at : (r n : ℕ) (xs : List ℕ) (i : ℕ) (d : Block) → i < n → get_or (blocks_by r n xs) i d ≡ block_by r (drop (slot_by r * i) xs)
unfolding blocks_by
block_at r zero xs i d h = absurd (omega arith)
block_at r (suc n) xs zero d h = rw (mul-zero (slot_by r))
block_at r (suc n) xs (suc i) d h =
    block_at r n (drop (slot_by r) xs) i d (omega arith) ∙ ap (block_by r) (drop-drop (slot_by r * i) (slot_by r) xs ∙ ap (λ (k : ℕ). drop k xs) (sym (slots-suc r i)))

-- a part without its first bytes
-- for words
drop-take : (n k : ℕ) (ys : List ℕ) → drop n (take (n + k) ys) ≡ take k (drop n ys)
drop-take zero k ys = rw zero-add
drop-take (suc n) k [] = rw (suc-add, take-nil)
drop-take (suc n) k (y ∷ ys) = rw suc-add (drop-take n k ys)

pub drop-part : (xs : List ℕ) (a n k : ℕ) → drop n (part xs a (n + k)) ≡ part xs (a + n) k
drop-part xs a n k = drop-take n k (drop a xs) ∙ ap (λ (ys : List ℕ). take k ys) (drop-drop n a xs)

-- slots show no more than their own bytes
pub blocks-part : (r n : ℕ) (xs : List ℕ) (a m : ℕ) → slot_by r * n ≤ m → blocks_by r n (part xs a m) ≡ blocks_by r n (drop a xs)
unfolding blocks_by
blocks-part r zero xs a m h = refl
blocks-part r (suc n) xs a m h =
    let e = slots-suc r n in
    let k = m - slot_by r in
    let f : m ≡ slot_by r + k = omega arith in
    let d : drop (slot_by r) (part xs a m) ≡ part xs (a + slot_by r) k =
    ap (λ (j : ℕ). drop (slot_by r) (part xs a j)) f ∙ drop-part xs a (slot_by r) k in
    ap₂ (λ (x : Block) (y : List Block). x ∷ y) (block-part r xs a m (omega arith))
    (ap (blocks_by r n) d ∙ blocks-part r n xs (a + slot_by r) k (omega arith) ∙ ap (blocks_by r n) (sym (drop-drop (slot_by r) a xs)))

-- slots that stand together
pub slots-append : (bs cs : List Block) → slots_bytes (bs ++ cs) ≡ slots_bytes bs ++ slots_bytes cs
unfolding slots_bytes
slots-append [] cs = refl
slots-append (b ∷ bs) cs = ap (λ (ys : List ℕ). slot_bytes b ++ ys) (slots-append bs cs) ∙ sym (append_assoc (slot_bytes b) (slots_bytes bs) (slots_bytes cs))

pub blocks-append : (r n m : ℕ) (xs : List ℕ) → blocks_by r (n + m) xs ≡ blocks_by r n xs ++ blocks_by r m (drop (slot_by r * n) xs)
unfolding blocks_by
blocks-append r zero m xs = rw (zero-add, mul-zero (slot_by r))
blocks-append r (suc n) m xs =
    rw suc-add
    (ap (λ (bs : List Block). block_by r xs ∷ bs)
    (blocks-append r n m (drop (slot_by r) xs)
    ∙ ap (λ (ys : List ℕ). blocks_by r n (drop (slot_by r) xs) ++ blocks_by r m ys)
    (drop-drop (slot_by r * n) (slot_by r) xs ∙ ap (λ (k : ℕ). drop k xs) (sym (slots-suc r n)))))

pub fit_append : (r : ℕ) (bs cs : List Block) → AllFit r bs → AllFit r cs → AllFit r (bs ++ cs)
fit_append r [] cs f g = g
fit_append r (b ∷ bs) cs f g = (f.0, fit_append r bs cs f.1 g)
