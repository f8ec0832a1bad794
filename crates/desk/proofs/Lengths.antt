-- Lengths and offsets in a desk: numbers are small, slots follow each other, and the contents are written pair by pair. Assumes nothing.
use Prim.Native.Nat.{ℕ, ◌+◌, ◌*◌, ◌-◌, ◌≤◌, ◌<◌}
use mathlib.Core.Path.{◌≡◌, ap, ◌∙◌}
use mathlib.Core.List.{List, ◌++◌}
use native.Mathlib.Omega.{arith}
use native.Mathlib.Nat.{mul-le-mul, mul-le-mul_left, mul-suc}
use lib.ListN.{length, drop, length-append}
use Rattle.words.specs.Bytes.{part, splice}
use Rattle.words.proofs.Splice.{part-tail, splice-next}
use Rattle.words.proofs.Numbers.{length-bytes_of}
use Rattle.sizes.specs.Sizes.{contents_len}
use Rattle.slots.specs.Slots.{slot_by}
use Rattle.desk.specs.declared.Shape.{Shape}
use Rattle.desk.specs.Layout.{Small, slot_at, pair, pair_len, contents}

-- what `&xs[a..]` is
-- for words
pub tail-part : (xs : List ℕ) (a : ℕ) → part xs a (length xs - a) ≡ drop a xs
tail-part xs a = part-tail xs a (length xs - a) (omega arith)

-- ---- slots of body (e)

pub slots-most : (h : Shape) (i : ℕ) → Small h → i ≤ 255 → slot_by h.r * i ≤ 17340
slots-most h i k l = mul-le-mul {n₁ = slot_by h.r} {m₁ = i} {n₂ = 68} {m₂ = 255} (omega arith) l

pub slot-le : (h : Shape) (i n : ℕ) → i ≤ n → slot_at h i ≤ slot_at h n
slot-le h i n l = omega (arith, mul-le-mul_left (slot_by h.r) l)

-- the slot of a smaller number ends before the slot of a greater one
pub slot_step : (h : Shape) (i n : ℕ) → i < n → slot_at h i + slot_by h.r ≤ slot_at h n
slot_step h i n l = omega (arith, mul-le-mul_left (slot_by h.r) l, mul-suc (slot_by h.r) i)

-- ---- contents

pub length-pair : (at len : ℕ) → length (pair at len) ≡ pair_len
length-pair at len = simp (length-append, length-bytes_of)

pub length-contents : (h : Shape) → length (contents h) ≡ contents_len
unfolding contents
length-contents h = simp (length-append, length-bytes_of)

-- five pairs, one after another
pub pairs-written : (xs p q r s t : List ℕ) → length p ≡ pair_len → length q ≡ pair_len → length r ≡ pair_len → length s ≡ pair_len → contents_len ≤ length xs
    → splice (splice (splice (splice (splice xs 0 p) 8 q) 16 r) 24 s) 32 t ≡ splice xs 0 ((((p ++ q) ++ r) ++ s) ++ t)
pairs-written xs p q r s t lp lq lr ls h =
    let l2 : length (p ++ q) ≡ 16 = omega (arith, length-append p q) in
    let l3 : length ((p ++ q) ++ r) ≡ 24 = omega (arith, length-append (p ++ q) r) in
    let l4 : length (((p ++ q) ++ r) ++ s) ≡ 32 = omega (arith, length-append ((p ++ q) ++ r) s) in
    ap (λ (l : List ℕ). splice (splice (splice l 16 r) 24 s) 32 t) (splice-next xs 0 p q 8 lp (omega arith))
    ∙ ap (λ (l : List ℕ). splice (splice l 24 s) 32 t) (splice-next xs 0 (p ++ q) r 16 l2 (omega arith))
    ∙ ap (λ (l : List ℕ). splice l 32 t) (splice-next xs 0 ((p ++ q) ++ r) s 24 l3 (omega arith))
    ∙ splice-next xs 0 (((p ++ q) ++ r) ++ s) t 32 l4 (omega arith)
