-- The laws of `part` and `splice`, by the operation that they are about. Assumes nothing.
use mathlib.Core.Path.{◌≡◌, refl, sym, ap, ◌∙◌}
use mathlib.Core.List.{List, [], ◌∷◌, ◌++◌, append_assoc, append-nil}
use Prim.Native.Nat.{ℕ, zero, suc, ◌+◌, ◌-◌, ◌≤◌, ◌<◌}
use native.Mathlib.Nat.{zero-add, add-zero, sub-zero, suc-add}
use native.Mathlib.Numerals.{add-one}
use native.Mathlib.Omega.{arith}
use lib.ListN.{length, set, take, drop, get_or, length-append, length-take, length-drop, length-replicate, take-append-drop, drop_of_length-le}
use lib.Seq.{length-take-le, take_at, drop_at, take-append-le, take-append-add, drop-append-le, drop-append-add, take-take, drop-drop, get_or-take, get_or-drop, take-nil, take_all, take-suc, drop-cons, take-add, ext_get_or, sets, sets-eq}
use Rattle.words.specs.Bytes.{part, splice, zeros}

-- ---- part

-- a part, taken the other way round
part-is : (xs : List ℕ) (a n : ℕ) → part xs a n ≡ drop a (take (a + n) xs)
part-is xs zero n = rw zero-add
part-is [] (suc a) n = rw (suc-add, take-nil)
part-is (x ∷ xs) (suc a) n = rw suc-add (part-is xs a n)

-- a part that fits has its length
pub length_part : (xs : List ℕ) (a n : ℕ) → a + n ≤ length xs → length (part xs a n) ≡ n
length_part xs a n h = simp (length-take, length-drop) (omega arith)

pub get_d_part : (xs : List ℕ) (a n i : ℕ) → i < n → get_or (part xs a n) i 0 ≡ get_or xs (a + i) 0
get_d_part xs a n i h = rw (get_or-take, get_or-drop)

-- the whole, and a part up to the end
pub part-whole : (xs : List ℕ) (n : ℕ) → length xs ≤ n → part xs 0 n ≡ xs
part-whole xs n h = take_all n xs h

pub part-tail : (xs : List ℕ) (a n : ℕ) → length xs ≤ a + n → part xs a n ≡ drop a xs
part-tail xs a n h = take_all n (drop a xs) (simp length-drop (omega arith))

-- a part of a part
pub part-part : (xs : List ℕ) (a n b m : ℕ) → b + m ≤ n → part (part xs a n) b m ≡ part xs (a + b) m
part-part xs a n b m h =
    part-is (part xs a n) b m ∙ ap (λ (l : List ℕ). drop b l) (take-take (b + m) n (drop a xs) h)
    ∙ sym (part-is (drop a xs) b m) ∙ ap (λ (l : List ℕ). take m l) (drop-drop b a xs)

-- two parts that make a whole
pub part-add : (xs : List ℕ) (a n m : ℕ) → part xs a (n + m) ≡ part xs a n ++ part xs (a + n) m
part-add xs a n m = take-add n m (drop a xs) ∙ rw drop-drop

-- a part by its first element
pub part-cons : (xs : List ℕ) (a n : ℕ) → a < length xs → part xs a (suc n) ≡ get_or xs a 0 ∷ part xs (suc a) n
part-cons xs a n h = rw (drop-cons xs a 0)

-- a part of the first, and of the second, of two lists that stand together
pub part_left : (xs ys : List ℕ) (a n : ℕ) → a + n ≤ length xs → part (xs ++ ys) a n ≡ part xs a n
part_left xs ys a n h =
    part-is (xs ++ ys) a n ∙ ap (λ (l : List ℕ). drop a l) (take-append-le (a + n) xs ys h) ∙ sym (part-is xs a n)

pub part_right : (xs ys : List ℕ) (a b n : ℕ) → b ≡ length xs + a → part (xs ++ ys) b n ≡ part ys a n
part_right xs ys a b n e = ap (λ (j : ℕ). take n (drop j (xs ++ ys))) e ∙ ap (λ (l : List ℕ). take n l) (drop-append-add xs ys a)

-- parts that agree byte by byte
pub part_ext : (xs ys : List ℕ) (a n : ℕ) → a + n ≤ length xs → length xs ≡ length ys → ((i : ℕ) → a ≤ i → i < a + n → get_or xs i 0 ≡ get_or ys i 0) → part xs a n ≡ part ys a n
part_ext xs ys a n f l h =
    ext_get_or 0 (part xs a n) (part ys a n) (length_part xs a n f ∙ sym (length_part ys a n (omega arith)))
    (λ i k.
    let j : i < n = omega (arith, length_part xs a n f) in
    get_d_part xs a n i j ∙ h (a + i) (omega arith) (omega arith) ∙ sym (get_d_part ys a n i j))

-- ---- splice: what the code's forms leave is one

-- what is given back after `&mut xs[a..e]`, where k is `e - a`
pub spliced : (xs : List ℕ) (a k : ℕ) (ys : List ℕ) → length ys ≡ k → take a xs ++ (ys ++ drop k (drop a xs)) ≡ splice xs a ys
unfolding splice
spliced xs a k ys e = rw (← e, drop-drop (length ys) a xs)

-- stores one after another
pub sets-splice : (vs xs : List ℕ) (at : ℕ) → at + length vs ≤ length xs → sets xs at vs ≡ splice xs at vs
unfolding splice
sets-splice vs xs at h = sets-eq vs xs at h ∙ append_assoc (take at xs) vs (drop (at + length vs) xs)

-- one store
pub set-splice : (xs : List ℕ) (i v : ℕ) → i < length xs → set xs i v ≡ splice xs i (v ∷ [])
set-splice xs i v h = sets-splice (v ∷ []) xs i (omega arith)

-- as long as the whole: nothing is left of it
pub splice-whole : (xs ys : List ℕ) → length ys ≡ length xs → splice xs 0 ys ≡ ys
unfolding splice
splice-whole xs ys e = rw (zero-add, drop_of_length-le xs {i = length ys} (omega arith)) (append-nil ys)

-- ---- splice: lengths, and what stands before and after

pub length-splice : (xs : List ℕ) (at : ℕ) (ys : List ℕ) → at + length ys ≤ length xs → length (splice xs at ys) ≡ length xs
unfolding splice
length-splice xs at ys h = simp (length-append, length-take, length-drop) (omega arith)

pub splice-nil : (xs : List ℕ) (at : ℕ) → splice xs at [] ≡ xs
unfolding splice
splice-nil xs at = rw add-zero (take-append-drop at xs)

-- a part put back in its own place changes nothing
pub splice-part : (xs : List ℕ) (a n : ℕ) → a + n ≤ length xs → splice xs a (part xs a n) ≡ xs
splice-part xs a n h =
    sym (spliced xs a n (part xs a n) (length_part xs a n h)) ∙ rw (take-append-drop n (drop a xs), take-append-drop a xs)

pub take-splice : (xs : List ℕ) (at : ℕ) (ys : List ℕ) (b : ℕ) → b ≤ at → at ≤ length xs → take b (splice xs at ys) ≡ take b xs
unfolding splice
take-splice xs at ys b h k =
    take-append-le b (take at xs) (ys ++ drop (at + length ys) xs) (simp length-take (omega arith)) ∙ take-take b at xs h

pub drop-splice : (xs : List ℕ) (at : ℕ) (ys : List ℕ) (b : ℕ) → at + length ys ≤ b → at ≤ length xs → drop b (splice xs at ys) ≡ drop b xs
unfolding splice
drop-splice xs at ys b h k =
    let j = b - (at + length ys) in
    let n : length (take at xs ++ ys) ≡ at + length ys = length-append (take at xs) ys ∙ ap (λ (m : ℕ). m + length ys) (length-take-le at xs k) in
    let e : b ≡ length (take at xs ++ ys) + j = omega arith in
    let f : at + length ys + j ≡ b = omega arith in
    ap (λ (l : List ℕ). drop b l) (sym (append_assoc (take at xs) ys (drop (at + length ys) xs)))
    ∙ ap (λ (m : ℕ). drop m ((take at xs ++ ys) ++ drop (at + length ys) xs)) e
    ∙ drop-append-add (take at xs ++ ys) (drop (at + length ys) xs) j
    ∙ drop-drop j (at + length ys) xs ∙ ap (λ (m : ℕ). drop m xs) f

-- ---- splice: a part of it, in the same place, before it, after it, inside it

pub part-splice : (xs : List ℕ) (at : ℕ) (ys : List ℕ) → at ≤ length xs → part (splice xs at ys) at (length ys) ≡ ys
unfolding splice
part-splice xs at ys h =
    rw (drop_at (take at xs) (ys ++ drop (at + length ys) xs) at (length-take-le at xs h)) (take_at ys (drop (at + length ys) xs) (length ys) refl)

pub part-splice-before : (xs : List ℕ) (at : ℕ) (ys : List ℕ) (b n : ℕ) → b + n ≤ at → at ≤ length xs → part (splice xs at ys) b n ≡ part xs b n
part-splice-before xs at ys b n h k =
    part-is (splice xs at ys) b n ∙ ap (λ (l : List ℕ). drop b l) (take-splice xs at ys (b + n) h k) ∙ sym (part-is xs b n)

pub part-splice-after : (xs : List ℕ) (at : ℕ) (ys : List ℕ) (b n : ℕ) → at + length ys ≤ b → at ≤ length xs → part (splice xs at ys) b n ≡ part xs b n
part-splice-after xs at ys b n h k = ap (λ (l : List ℕ). take n l) (drop-splice xs at ys b h k)

pub part-splice-in : (xs : List ℕ) (at : ℕ) (ys : List ℕ) (b n : ℕ) → at ≤ length xs → b + n ≤ length ys → part (splice xs at ys) (at + b) n ≡ part ys b n
part-splice-in xs at ys b n h k =
    sym (part-part (splice xs at ys) at (length ys) b n k) ∙ ap (λ (l : List ℕ). part l b n) (part-splice xs at ys h)

-- ---- splice: a byte of it

pub get_d-splice-in : (xs : List ℕ) (at : ℕ) (ys : List ℕ) (i : ℕ) → at ≤ length xs → i < length ys → get_or (splice xs at ys) (at + i) 0 ≡ get_or ys i 0
get_d-splice-in xs at ys i h k =
    sym (get_d_part (splice xs at ys) at (length ys) i k) ∙ ap (λ (l : List ℕ). get_or l i 0) (part-splice xs at ys h)

pub get_d-splice-before : (xs : List ℕ) (at : ℕ) (ys : List ℕ) (i : ℕ) → i < at → at ≤ length xs → get_or (splice xs at ys) i 0 ≡ get_or xs i 0
get_d-splice-before xs at ys i h k =
    sym (get_or-take at (splice xs at ys) i 0 h) ∙ ap (λ (l : List ℕ). get_or l i 0) (take-splice xs at ys at (omega arith) k) ∙ get_or-take at xs i 0 h

pub get_d-splice-after : (xs : List ℕ) (at : ℕ) (ys : List ℕ) (i : ℕ) → at + length ys ≤ i → at ≤ length xs → get_or (splice xs at ys) i 0 ≡ get_or xs i 0
get_d-splice-after xs at ys i h k =
    let j = at + length ys in
    let e : j + (i - j) ≡ i = omega arith in
    ap (λ (m : ℕ). get_or (splice xs at ys) m 0) (sym e) ∙ sym (get_or-drop j (splice xs at ys) (i - j) 0)
    ∙ ap (λ (l : List ℕ). get_or l (i - j) 0) (drop-splice xs at ys j (omega arith) k)
    ∙ get_or-drop j xs (i - j) 0 ∙ ap (λ (m : ℕ). get_or xs m 0) e

-- ---- splice of splice

-- one right after another is one
pub splice-next : (xs : List ℕ) (at : ℕ) (ys zs : List ℕ) (n : ℕ) → length ys ≡ n → at + n ≤ length xs → splice (splice xs at ys) (at + n) zs ≡ splice xs at (ys ++ zs)
unfolding splice
splice-next xs at ys zs n e h =
    let p : List ℕ = take at xs ++ ys in
    let d : List ℕ = drop (at + length ys) xs in
    let l : length p ≡ at + n = simp (length-append, length-take-le at xs (omega arith)) (omega arith) in
    let q : at + length ys + length zs ≡ at + length (ys ++ zs) = omega (arith, length-append ys zs) in
    ap (λ (s : List ℕ). take (at + n) s ++ (zs ++ drop (at + n + length zs) s)) (sym (append_assoc (take at xs) ys d))
    ∙ rw (take_at p d (at + n) l, ← drop-drop (length zs) (at + n) (p ++ d), drop_at p d (at + n) l, drop-drop (length zs) (at + length ys) xs, q) (simp append_assoc)

-- a second one in the same place hides the first
pub splice-splice : (xs : List ℕ) (at : ℕ) (ys zs : List ℕ) → length ys ≡ length zs → at ≤ length xs → splice (splice xs at ys) at zs ≡ splice xs at zs
splice-splice xs at ys zs e h =
    sym (spliced (splice xs at ys) at (length zs) zs refl)
    ∙ rw (take-splice xs at ys at (omega arith) h, drop-drop (length zs) at (splice xs at ys), drop-splice xs at ys (at + length zs) (omega arith) h, ← drop-drop (length zs) at xs)
    (spliced xs at (length zs) zs refl)

-- into one of two lists that stand together
pub splice-left : (p q : List ℕ) (at : ℕ) (ys : List ℕ) → at + length ys ≤ length p → splice (p ++ q) at ys ≡ splice p at ys ++ q
unfolding splice
splice-left p q at ys h =
    rw (take-append-le at p q (omega arith), drop-append-le (at + length ys) p q (omega arith)) (simp append_assoc)

pub splice-right : (p q : List ℕ) (b : ℕ) (zs : List ℕ) → length p ≡ b → splice (p ++ q) b zs ≡ p ++ splice q 0 zs
unfolding splice
splice-right p q b zs h =
    rw (take_at p q b h, ← drop-drop (length zs) b (p ++ q), drop_at p q b h, zero-add)

-- into what was laid in
pub splice-in : (xs : List ℕ) (at : ℕ) (zs : List ℕ) (b : ℕ) (ys : List ℕ) → at ≤ length xs → b + length ys ≤ length zs → splice (splice xs at zs) (at + b) ys ≡ splice xs at (splice zs b ys)
unfolding splice
splice-in xs at zs b ys h k =
    let p : List ℕ = take at xs in
    let r : List ℕ = drop (at + length zs) xs in
    let n : length p ≡ at = length-take-le at xs h in
    let t : take (at + b) (p ++ (zs ++ r)) ≡ p ++ take b zs =
    ap (λ (m : ℕ). take (m + b) (p ++ (zs ++ r))) (sym n) ∙ take-append-add p (zs ++ r) b ∙ ap (λ (l : List ℕ). p ++ l) (take-append-le b zs r (omega arith)) in
    let m : at + b + length ys ≡ length p + (b + length ys) = omega arith in
    let d : drop (at + b + length ys) (p ++ (zs ++ r)) ≡ drop (b + length ys) zs ++ r =
    ap (λ (m : ℕ). drop m (p ++ (zs ++ r))) m ∙ drop-append-add p (zs ++ r) (b + length ys) ∙ drop-append-le (b + length ys) zs r k in
    let q : length (take b zs ++ (ys ++ drop (b + length ys) zs)) ≡ length zs = simp (length-append, length-take, length-drop) (omega arith) in
    rw (t, d, q) (simp append_assoc)

-- in two places: either order
pub splice-comm : (xs : List ℕ) (a b : ℕ) (ys zs : List ℕ) → a + length ys ≤ b → b ≤ length xs → splice (splice xs a ys) b zs ≡ splice (splice xs b zs) a ys
splice-comm xs a b ys zs h k =
    let n : length (take b xs) ≡ b = length-take-le b xs k in
    let m : length (splice (take b xs) a ys) ≡ b = length-splice (take b xs) a ys (omega arith) ∙ n in
    ap (λ (l : List ℕ). splice (splice l a ys) b zs) (sym (take-append-drop b xs))
    ∙ ap (λ (l : List ℕ). splice l b zs) (splice-left (take b xs) (drop b xs) a ys (omega arith))
    ∙ splice-right (splice (take b xs) a ys) (drop b xs) b zs m
    ∙ sym (splice-left (take b xs) (splice (drop b xs) 0 zs) a ys (omega arith))
    ∙ ap (λ (l : List ℕ). splice l a ys) (sym (splice-right (take b xs) (drop b xs) b zs n))
    ∙ ap (λ (l : List ℕ). splice (splice l b zs) a ys) (take-append-drop b xs)

-- ---- splice, byte by byte: what a loop that lays in a list needs

-- a store right after what is laid in is one byte more of it
pub splice-store : (xs : List ℕ) (at : ℕ) (ys : List ℕ) (i v : ℕ) → i ≡ at + length ys → i < length xs → set (splice xs at ys) i v ≡ splice xs at (ys ++ (v ∷ []))
splice-store xs at ys i v e h =
    let l : length (splice xs at ys) ≡ length xs = length-splice xs at ys (omega arith) in
    set-splice (splice xs at ys) i v (omega arith)
    ∙ ap (λ (j : ℕ). splice (splice xs at ys) j (v ∷ [])) e ∙ splice-next xs at ys (v ∷ []) (length ys) refl (omega arith)

-- the loop's turn: `now` holds the first i bytes of zs, and v is the next
pub splice-turn : (xs : List ℕ) (at i v : ℕ) (zs now : List ℕ) → i < length zs → at + length zs ≤ length xs → v ≡ get_or zs i 0 → now ≡ splice xs at (take i zs)
    → set now (at + i) v ≡ splice xs at (take (i + 1) zs)
splice-turn xs at i v zs now h k e f =
    let n : length (take i zs) ≡ i = length-take-le i zs (omega arith) in
    ap (λ (l : List ℕ). set l (at + i) v) f ∙ splice-store xs at (take i zs) (at + i) v (omega arith) (omega arith)
    ∙ rw e (ap (λ (l : List ℕ). splice xs at l) (sym (take-suc zs i 0 h) ∙ ap (λ (m : ℕ). take m zs) (sym (add-one i))))

-- ---- zeros

pub length-zeros : (n : ℕ) → length (zeros n) ≡ n
length-zeros n = length-replicate n 0

pub take-zeros : (n m : ℕ) → n ≤ m → take n (zeros m) ≡ zeros n
take-zeros zero m h = refl
take-zeros (suc n) zero h = absurd (omega arith)
take-zeros (suc n) (suc m) h = ap (λ (l : List ℕ). 0 ∷ l) (take-zeros n m (omega arith))

pub drop-zeros : (n m : ℕ) → drop n (zeros m) ≡ zeros (m - n)
drop-zeros zero m = rw sub-zero
drop-zeros (suc n) zero = let e : 0 - suc n ≡ 0 = omega arith in rw e
drop-zeros (suc n) (suc m) = let e : suc m - suc n ≡ m - n = omega arith in rw e (drop-zeros n m)
