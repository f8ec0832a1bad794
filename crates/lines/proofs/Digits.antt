-- A value that is capped after each digit is the cap of the whole value, since more digits never make it smaller. Assumes nothing.
use Prim.Native.Nat.{ℕ, ◌+◌, ◌*◌, ◌-◌, ◌≤◌, ◌<◌, min}
use mathlib.Core.Path.{◌≡◌, refl, sym, ap, ◌∙◌}
use mathlib.Core.Bool.{true}
use mathlib.Core.List.{List, [], ◌∷◌}
use native.Mathlib.Omega.{arith}
use borrow.Author.Tests.{ltb-true, ltb-false, lt-ltb, le-ltb, ne_eqb, le-leb, lt-leb}
use lib.ListN.{length, drop, get_or}
use lib.Dec.{leb, ltb, eqb}
use Rattle.words.proofs.Tests.{below_or, by_cases}
use Rattle.text.specs.Fronts.{is_digit, digits, value, zero_digit}
use Rattle.text.proofs.Fronts.{digits_step}
use Rattle.lines.specs.Line.{most_count, capped, HidesNothing, count, count_of}

-- ---- values and their cap

value_grows : (v : ℕ) (ds : List ℕ) → v ≤ value v ds
unfolding value
value_grows v [] = omega arith
value_grows v (d ∷ ds) = omega (arith, value_grows (v * 10 + (d - zero_digit)) ds)

capped-high : (v : ℕ) → most_count ≤ v → capped v ≡ most_count
capped-high v h = rw (le-ltb v most_count h)

pub capped-min : (v : ℕ) → min v most_count ≡ capped v
capped-min v =
    below_or v most_count
    (λ h. rw (lt-ltb v most_count h) (omega arith))
    (λ h. rw (le-ltb v most_count h) (omega arith))

pub capped-most : (v : ℕ) → capped v ≤ most_count
capped-most v =
    by_cases (ltb v most_count)
    (λ e. rw e (omega (arith, ltb-true v most_count e)))
    (λ e. rw e (omega arith))

capped-low : (v : ℕ) → v ≤ most_count → capped v ≡ v
capped-low v h =
    by_cases (ltb v most_count)
    (λ e. rw e)
    (λ e. rw e (omega (arith, ltb-false v most_count e)))

capped-value : (v : ℕ) (ds : List ℕ) → capped (value v ds) ≡ capped (value (capped v) ds)
capped-value v ds =
    by_cases (ltb v most_count)
    (λ e. rw e)
    (λ e.
    let h : most_count ≤ value v ds = omega (arith, ltb-false v most_count e, value_grows v ds) in
    let k : most_count ≤ value most_count ds = value_grows most_count ds in
    capped-high (value v ds) h ∙ sym (capped-high (value most_count ds) k) ∙ rw e)

-- a range is shorter than the cap
pub hides-nothing : (n : ℕ) → n < most_count → HidesNothing n
hides-nothing n h = record { same_n = same; same_low = low; same_high = high }
  where
    same : (v : ℕ) → eqb (capped v) n ≡ eqb v n
    same v =
        by_cases (ltb v most_count) (λ e. rw e)
        (λ e. rw (e, ne_eqb most_count n (λ k. omega (arith, k, h)), ne_eqb v n (λ k. omega (arith, k, h, ltb-false v most_count e))))

    low : (v : ℕ) → leb 1 (capped v) ≡ leb 1 v
    low v = by_cases (ltb v most_count) (λ e. rw e) (λ e. rw (e, le-leb 1 v (omega (arith, ltb-false v most_count e))))

    high : (v : ℕ) → leb (capped v) n ≡ leb v n
    high v =
        by_cases (ltb v most_count) (λ e. rw e)
        (λ e. rw (e, lt-leb most_count n (omega (arith, h)), lt-leb v n (omega (arith, h, ltb-false v most_count e))))

-- ---- the loop: i digits are read, and their value is v, or the cap

pub record Counted (xs : List ℕ) (i v : ℕ) : Type 0 where
  pub inside : i ≤ length xs
  pub low : v ≤ most_count
  pub many : length (digits xs) ≡ i + length (digits (drop i xs))
  pub worth : capped (value 0 (digits xs)) ≡ capped (value v (digits (drop i xs)))

pub begun : (xs : List ℕ) → Counted xs 0 0
begun xs = record { inside = omega arith; low = omega arith; many = omega arith; worth = refl }

pub turn : (xs : List ℕ) (i v : ℕ) → Counted xs i v → i < length xs → is_digit (get_or xs i 0) ≡ true
    → Counted xs (i + 1) (capped (v * 10 + (get_or xs i 0 - zero_digit)))
unfolding value
turn xs i v r h e =
    let ds = digits (drop (i + 1) xs) in
    record {
      inside = omega arith;
      low = capped-most (v * 10 + (get_or xs i 0 - zero_digit));
      many = r.many ∙ ap (λ (l : List ℕ). i + length l) (digits_step xs i h e) ∙ omega arith;
      worth = r.worth ∙ ap (λ (l : List ℕ). capped (value v l)) (digits_step xs i h e) ∙ capped-value (v * 10 + (get_or xs i 0 - zero_digit)) ds;
    }

pub end : (xs : List ℕ) (i v : ℕ) → Counted xs i v → digits (drop i xs) ≡ [] → count v i ≡ count_of xs
unfolding value
end xs i v r e =
    let n : length (digits xs) ≡ i = r.many ∙ ap (λ (l : List ℕ). i + length l) e ∙ omega arith in
    let w : capped (value 0 (digits xs)) ≡ v = r.worth ∙ ap (λ (l : List ℕ). capped (value v l)) e ∙ capped-low v r.low in
    sym (ap (λ (k : ℕ). count k (length (digits xs))) w ∙ ap (count v) n)
