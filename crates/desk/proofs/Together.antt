-- Forty-eight places of which no byte is above those of good ones are good. Assumes nothing.
use Prim.Native.Nat.{ℕ, ◌+◌, ◌*◌, ◌-◌, ◌≤◌, ◌<◌}
use mathlib.Core.Path.{◌≡◌, sym, ap, ◌∙◌}
use mathlib.Core.Bool.{true}
use mathlib.Core.List.{List}
use native.Mathlib.Omega.{arith}
use lib.ListN.{get_or, get_or-replicate}
use lib.Dec.{leb}
use borrow.Author.Tests.{leb-true}
use Rattle.words.specs.Bytes.{part, zeros}
use Rattle.words.specs.Numbers.{number}
use Rattle.words.specs.Tests.{all}
use Rattle.words.proofs.Splice.{get_d_part}
use Rattle.words.proofs.Tests.{below_or, all-at, all_true}
use Rattle.sizes.specs.Sizes.{place_len}
use Rattle.desk.specs.Layout.{mark_in}
use Rattle.desk.specs.Good.{place_good, places_good}
use Rattle.desk.specs.Together.{together, together_len, none_above}
use Rattle.desk.proofs.Places.{place-known, place-holds}

-- a number of two bytes, none of which is above the other's, is not above it
number-most : (xs ys : List ℕ) (a b : ℕ) → get_or xs a 0 ≤ get_or ys b 0 → get_or xs (a + 1) 0 ≤ get_or ys (b + 1) 0 → number 2 xs a ≤ number 2 ys b
unfolding number
number-most xs ys a b h k = omega arith

-- places of zeros
pub zeros-good : (most : ℕ) → 1 ≤ most → places_good most together (zeros together_len) ≡ true
unfolding places_good number
zeros-good most h =
    all_true (place_good most (zeros together_len)) together
    (λ i l.
    let at : (j : ℕ) → j < together_len → get_or (zeros together_len) j 0 ≡ 0 = λ j m. get_or-replicate together_len j 0 0 m in
    place-holds most (zeros together_len) i
    (omega (arith, at (place_len * i) (omega arith), at (place_len * i + 1) (omega arith)))
    (omega (arith, at (place_len * i + mark_in) (omega arith))))

module _ (most : ℕ) (d top : List ℕ) (i : ℕ) (good : places_good most together top ≡ true) (low : none_above (part d (place_len * i) together_len) top ≡ true) where
  byte-most : (j : ℕ) → j < together_len → get_or d (place_len * i + j) 0 ≤ get_or top j 0
  unfolding none_above
  byte-most j l =
      rw (← get_d_part d (place_len * i) together_len j l) (leb-true _ _ (all-at (λ j. leb (get_or (part d (place_len * i) together_len) j 0) (get_or top j 0)) together_len j l low))

  low-good : (k : ℕ) → k < together → place_good most d (i + k) ≡ true
  unfolding places_good
  low-good k l =
      let g = place-known most top k (all-at (place_good most top) together k l good) in
      let e : place_len * (i + k) ≡ place_len * i + place_len * k = omega arith in
      let f : place_len * i + place_len * k + 1 ≡ place_len * i + (place_len * k + 1) = omega arith in
      let m : place_len * i + place_len * k + mark_in ≡ place_len * i + (place_len * k + mark_in) = omega arith in
      let b : get_or d (place_len * i + place_len * k + 1) 0 ≤ get_or top (place_len * k + 1) 0 = rw f (byte-most (place_len * k + 1) (omega arith)) in
      let q : get_or d (place_len * i + place_len * k + mark_in) 0 ≤ get_or top (place_len * k + mark_in) 0 = rw m (byte-most (place_len * k + mark_in) (omega arith)) in
      let n = number-most d top (place_len * i + place_len * k) (place_len * k) (byte-most (place_len * k) (omega arith)) b in
      place-holds most d (i + k) (rw e (omega (arith, n, g.0))) (rw e (omega (arith, q, g.1)))

  pub more-good : all i (place_good most d) ≡ true → all (i + together) (place_good most d) ≡ true
  more-good a =
      all_true (place_good most d) (i + together)
      (λ j l.
      below_or j i
      (λ b. all-at (place_good most d) i j b a)
      (λ b.
      let e : i + (j - i) ≡ j = omega arith in
      ap (place_good most d) (sym e) ∙ low-good (j - i) (omega arith)))
