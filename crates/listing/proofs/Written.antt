-- What was written: one thing after another, by a writer too, and the digits of a number from the last one on. Assumes nothing.
use Prim.Native.Nat.{ℕ, zero, suc, ◌+◌, ◌*◌, ◌-◌, ◌/◌, ◌%◌, ◌^◌, ◌≤◌, ◌<◌}
use mathlib.Core.Path.{◌≡◌, refl, sym, ap, ◌∙◌}
use mathlib.Core.List.{List, [], ◌∷◌, ◌++◌, append_assoc, append-nil}
use native.Mathlib.Nat.{pow-suc}
use native.Mathlib.Numerals.{add-one}
use native.Mathlib.Omega.{arith}
use borrow.Author.Tests.{lt-ltb, le-ltb}
use lib.ListN.{length, drop, set, length-append, length-set}
use lib.Seq.{drop-set-lt, drop-cons, get_or-set_same}
use Rattle.words.specs.Bytes.{part, zeros}
use Rattle.words.proofs.Splice.{splice-next, part-tail}
use Rattle.std.specs.Borrow.{MutBor}
use Rattle.text.specs.Fronts.{zero_digit}
use Rattle.listing.specs.Listing.{digits_up_to, decimal, most_decimal, Wrote}
use Rattle.listing.specs.Writer.{Adds, AtStart}
use Rattle.listing.specs.declared.writer.Writer.{Writer}

-- ---- one thing after another

pub and_then : {xs ys zs : List ℕ} {at n m : ℕ} (us vs : List ℕ) → Wrote xs at us ys n → Wrote ys n vs zs m → n ≤ length xs → Wrote xs at (us ++ vs) zs m
and_then {xs} {ys} {zs} {at} {n} {m} us vs p q h =
    record {
      is = q.is ∙ rw (p.is, p.next_is) (splice-next xs at us vs (length us) refl (omega (arith, p.next_is)));
      next_is = q.next_is ∙ rw p.next_is (omega (arith, length-append us vs));
    }

infixl 10 ◌then◌
pub ◌then◌ : {a b d : Writer} {us vs : List ℕ} → Adds a us b → Adds b vs d → Adds a (us ++ vs) d
◌then◌ {a} {b} {d} {us} {vs} p q =
    record { same = q.same ∙ p.same; room = q.room ∙ p.room; wrote = and_then us vs p.wrote q.wrote (omega (arith, b.fits, p.room)) }

-- what a writer added from its start on is what was written
pub all_of : {out : MutBor (List ℕ)} {w v : Writer} {bytes : List ℕ} → AtStart out w → Adds w bytes v → Wrote out.now 0 bytes v.out.now v.at
all_of {out} {w} {v} {bytes} s p = let q = p.wrote in rw (s.is, s.first) at q

-- ---- digits from the last one on: those of y are still to come, before those that stand from i + 1 on

pub record Digits (x : ℕ) (text : List ℕ) (i y : ℕ) : Type 0 where
  pub long : length text ≡ most_decimal
  pub place : i < most_decimal
  pub low : y < 10 ^ (i + 1)
  pub are : decimal x ≡ digits_up_to (i + 1) y ++ drop (i + 1) text

pub digits-first : (x : ℕ) → x < 10 ^ most_decimal → Digits x (zeros most_decimal) 19 x
digits-first x h = record { long = refl; place = omega arith; low = h; are = sym (append-nil (decimal x)) }

-- more than one digit is left only where there is room for it
pub digits-room : (x : ℕ) (text : List ℕ) (i y : ℕ) → Digits x text i y → 9 < y → 1 ≤ i
digits-room x text zero y d h = absurd (omega (arith, d.low))
digits-room x text (suc i) y d h = omega arith

more : (n y : ℕ) → 9 < y → digits_up_to (n + 1) y ≡ digits_up_to n (y / 10) ++ ((zero_digit + y % 10) ∷ [])
unfolding digits_up_to
more n y h = rw (add-one, le-ltb y 10 h)

one : (n y : ℕ) → y ≤ 9 → digits_up_to (n + 1) y ≡ (zero_digit + y) ∷ []
unfolding digits_up_to
one n y h = rw (add-one, lt-ltb y 10 (omega arith))

-- a byte laid in stands before what stood after it
laid : (text : List ℕ) (i v : ℕ) → i < length text → drop i (set text i v) ≡ v ∷ drop (i + 1) text
laid text i v h =
    let l : i < length (set text i v) = omega (arith, length-set text i v) in
    drop-cons (set text i v) i 0 l ∙ rw (get_or-set_same text i v 0 h, ← add-one i, drop-set-lt (i + 1) text i v (omega arith))

pub digits_more : (x : ℕ) (text : List ℕ) (i y : ℕ) → Digits x text i y → 9 < y → Digits x (set text i (zero_digit + y % 10)) (i - 1) (y / 10)
digits_more x text i y d h =
    let k = digits-room x text i y d h in
    let j : i - 1 + 1 ≡ i = omega arith in
    let p : y < 10 ^ i * 10 = rw (add-one, pow-suc) at d.low in
    record {
      long = length-set text i (zero_digit + y % 10) ∙ d.long;
      place = omega arith;
      low = rw j (omega arith);
      are =
          d.are ∙ rw (more i y h, append_assoc, j)
          (ap (λ (l : List ℕ). digits_up_to i (y / 10) ++ l) (sym (laid text i (zero_digit + y % 10) (omega (arith, d.long)))));
    }

pub digits_last : (x : ℕ) (text : List ℕ) (i y : ℕ) → Digits x text i y → y ≤ 9 → part (set text i (zero_digit + y)) i (most_decimal - i) ≡ decimal x
digits_last x text i y d h =
    let l = length-set text i (zero_digit + y) in
    part-tail (set text i (zero_digit + y)) i (most_decimal - i) (omega (arith, d.long, d.place))
    ∙ laid text i (zero_digit + y) (omega (arith, d.long)) ∙ sym (d.are ∙ rw (one i y h))
