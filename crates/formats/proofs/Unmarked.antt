-- Body (d) of a new desk: written place by place, it reads each starting leaf and no mark. Assumes nothing.
use Prim.Native.Nat.{ℕ, zero, suc, ◌+◌, ◌*◌, ◌≤◌, ◌<◌}
use mathlib.Core.Path.{◌≡◌, refl, sym, ap, ◌∙◌}
use mathlib.Core.Bool.{true}
use mathlib.Core.List.{List, [], ◌∷◌, ◌++◌, append_assoc, append-nil}
use native.Mathlib.Numerals.{add-one}
use native.Mathlib.Omega.{arith}
use lib.ListN.{length, get_or, take, length-append}
use lib.Seq.{length-take-le, take-suc, get_or-append-add, get_or_at}
use lib.Dec.{ltb}
use borrow.Author.Tests.{ltb-true}
use Rattle.words.specs.Bytes.{splice}
use Rattle.words.specs.Numbers.{number, bytes_of}
use Rattle.words.proofs.Splice.{splice-next}
use Rattle.words.proofs.Numbers.{length-bytes_of, number-bytes_of}
use Rattle.words.proofs.Tests.{all-at, all_true}
use Rattle.sizes.specs.Sizes.{place_len, d_len}
use Rattle.slots.proofs.Numbers.{number-left, number-right}
use Rattle.desk.specs.Layout.{mark_in}
use Rattle.desk.specs.Good.{place_good, places_good}
use Rattle.desk.proofs.Places.{place-holds}
use Rattle.formats.specs.Format.{are_leaves, unmarked}

pub length-unmarked : (ls : List ℕ) → length (unmarked ls) ≡ d_len (length ls)
unfolding unmarked
length-unmarked [] = refl
length-unmarked (l ∷ ls) =
    omega (arith, length-append (bytes_of 2 l ++ (0 ∷ [])) (unmarked ls), length-append (bytes_of 2 l) (0 ∷ []), length-bytes_of 2 l, length-unmarked ls)

pub unmarked-append : (ls ms : List ℕ) → unmarked (ls ++ ms) ≡ unmarked ls ++ unmarked ms
unfolding unmarked
unmarked-append [] ms = refl
unmarked-append (l ∷ ls) ms =
    ap (λ (xs : List ℕ). (bytes_of 2 l ++ (0 ∷ [])) ++ xs) (unmarked-append ls ms) ∙ sym (append_assoc (bytes_of 2 l ++ (0 ∷ [])) (unmarked ls) (unmarked ms))

one : (l : ℕ) → unmarked (l ∷ []) ≡ bytes_of 2 l ++ (0 ∷ [])
unfolding unmarked
one l = append-nil (bytes_of 2 l ++ (0 ∷ []))

-- the loop's turn: `now` holds the first i places
pub place-turn : (xs : List ℕ) (at i : ℕ) (ls now : List ℕ) → i < length ls → at + d_len (length ls) ≤ length xs → now ≡ splice xs at (unmarked (take i ls))
    → splice now (at + place_len * i) (bytes_of 2 (get_or ls i 0) ++ (0 ∷ [])) ≡ splice xs at (unmarked (take (i + 1) ls))
place-turn xs at i ls now h k e =
    let p : List ℕ = bytes_of 2 (get_or ls i 0) ++ (0 ∷ []) in
    let n : length (unmarked (take i ls)) ≡ place_len * i = length-unmarked (take i ls) ∙ ap d_len (length-take-le i ls (omega arith)) in
    let f : unmarked (take (i + 1) ls) ≡ unmarked (take i ls) ++ p =
    ap (λ (j : ℕ). unmarked (take j ls)) (add-one i) ∙ ap unmarked (take-suc ls i 0 h) ∙ unmarked-append (take i ls) (get_or ls i 0 ∷ [])
    ∙ ap (λ (ys : List ℕ). unmarked (take i ls) ++ ys) (one (get_or ls i 0)) in
    ap (λ (l : List ℕ). splice l (at + place_len * i) p) e ∙ splice-next xs at (unmarked (take i ls)) p (place_len * i) n (omega arith) ∙ ap (splice xs at) (sym f)

-- place i reads the starting leaf of number i, and no mark
pub unmarked-at : (ls : List ℕ) (i : ℕ) → i < length ls → get_or ls i 0 < 65536
    → (number 2 (unmarked ls) (place_len * i) ≡ get_or ls i 0) × (get_or (unmarked ls) (place_len * i + mark_in) 0 ≡ 0)
unfolding unmarked
unmarked-at [] i h s = absurd (omega arith)
unmarked-at (l ∷ ls) zero h s =
    let p : List ℕ = bytes_of 2 l ++ (0 ∷ []) in
    let n : length p ≡ place_len = omega (arith, length-append (bytes_of 2 l) (0 ∷ []), length-bytes_of 2 l) in
    let e : p ++ unmarked ls ≡ bytes_of 2 l ++ (0 ∷ unmarked ls) = append_assoc (bytes_of 2 l) (0 ∷ []) (unmarked ls) in (
      number-left 2 p (unmarked ls) 0 (omega arith) ∙ number-left 2 (bytes_of 2 l) (0 ∷ []) 0 (omega (arith, length-bytes_of 2 l)) ∙ number-bytes_of 2 l s,
      ap (λ (xs : List ℕ). get_or xs mark_in 0) e ∙ get_or_at (bytes_of 2 l) 0 (unmarked ls) 0 mark_in (length-bytes_of 2 l),
    )
unmarked-at (l ∷ ls) (suc i) h s =
    let p : List ℕ = bytes_of 2 l ++ (0 ∷ []) in
    let n : length p ≡ place_len = omega (arith, length-append (bytes_of 2 l) (0 ∷ []), length-bytes_of 2 l) in
    let q : place_len * suc i ≡ length p + place_len * i = omega arith in
    let r : place_len * suc i + mark_in ≡ length p + (place_len * i + mark_in) = omega arith in
    let k = unmarked-at ls i (omega arith) s in (
      number-right 2 p (unmarked ls) (place_len * i) (place_len * suc i) q ∙ k.0,
      ap (λ (j : ℕ). get_or (p ++ unmarked ls) j 0) r ∙ get_or-append-add p (unmarked ls) (place_len * i + mark_in) 0 ∙ k.1,
    )

-- so body (d) is good
pub unmarked-good : (most : ℕ) (ls : List ℕ) → are_leaves most ls ≡ true → most ≤ 65536 → places_good most (length ls) (unmarked ls) ≡ true
unfolding places_good
unmarked-good most ls h w =
    all_true (place_good most (unmarked ls)) (length ls)
    (λ i k.
    let l : get_or ls i 0 < most = ltb-true _ _ (all-at (λ j. ltb (get_or ls j 0) most) (length ls) i k h) in
    let a = unmarked-at ls i k (omega arith) in
    place-holds most (unmarked ls) i (rw a.0 l) (omega (arith, a.1)))
