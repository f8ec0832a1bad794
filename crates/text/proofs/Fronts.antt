-- How reading goes on by one byte, and by one number: what stands from a place on decides, and what is passed is counted. Assumes nothing.
use Prim.Native.Nat.compare
use Prim.Native.Nat.{ℕ, suc, ◌+◌, ◌*◌, ◌-◌, ◌^◌, ◌≤◌, ◌<◌}
use mathlib.Core.Path.{◌≡◌, refl, sym, ap, ◌∙◌}
use mathlib.Core.Bool.{Bool, true, false, cond, not, ◌&&◌, and-false}
use mathlib.Core.List.{List, [], ◌∷◌, ◌++◌, append_assoc, append-nil}
use native.Mathlib.Nat.{pow-suc, pow-le-pow_right, lt_of_lt_of_le, sub-zero, zero-add}
use native.Mathlib.Numerals.{add-one}
use native.Mathlib.Omega.{arith}
use borrow.Author.Tests.{eq-eqb, ne_eqb, leb-true, lt-leb, lt-ltb, le-ltb}
use lib.ListN.{length, take, drop, get_or, set, length-set, length-drop, take-append-drop}
use lib.Seq.{drop-cons, drop-drop, drop-set-lt, take-suc-set, length-take-le}
use lib.Dec.{leb, eqb}
use Rattle.words.specs.Bytes.{splice}
use Rattle.words.proofs.Tests.{and_left, and_right, below_or, by_cases}
use Rattle.std.specs.Prelude.{Some, None, position, unwrap_or}
use Rattle.std.specs.List.{list_any, position_or_len}
use Rattle.text.specs.declared.Number.{Number}
use Rattle.text.specs.Text.{space}
use Rattle.text.specs.Fronts.{before, is_digit, digits, value, zero_digit, nine_digit, most_digits, most_number, number_by, number_of, spaced, values, values_len, taken_of}

-- ---- the bytes before the first b

module _ (b : ℕ) (xs : List ℕ) (i : ℕ) (h : i < length xs) where
  pub before-step : (get_or xs i 0 ≡ b → ⊥) → length (before b (drop i xs)) ≡ suc (length (before b (drop (i + 1) xs)))
  unfolding before
  before-step e = rw (drop-cons xs i 0, ne_eqb (get_or xs i 0) b e, add-one)

  pub before-stop : get_or xs i 0 ≡ b → length (before b (drop i xs)) ≡ 0
  unfolding before
  before-stop e = rw (drop-cons xs i 0, eq-eqb (get_or xs i 0) b e)

pub before-end : (b : ℕ) → length (before b []) ≡ 0
unfolding before
before-end b = refl

before_first : (b : ℕ) (xs : List ℕ) → position_or_len (λ x. eqb x b) xs ≡ length (before b xs)
unfolding before
before_first b [] = refl
before_first b (x ∷ xs) = by_cases (eqb x b) (λ e. rw e) (λ e. rw e (omega (arith, before_first b xs)))

pub before_length : (b : ℕ) (xs : List ℕ) → length (before b xs) ≤ length xs
unfolding before
before_length b [] = omega arith
before_length b (x ∷ xs) = by_cases (eqb x b) (λ e. rw e (omega arith)) (λ e. rw e (omega (arith, before_length b xs)))

-- as many as the library says where the first b is, or all
pub before_position : (b : ℕ) (xs : List ℕ) → unwrap_or (position (λ x. eqb x b) xs) (length xs) ≡ length (before b xs)
before_position b xs =
    rw (before_first b xs)
    (below_or (length (before b xs)) (length xs) (λ h. rw (lt-ltb (length (before b xs)) (length xs) h)) (λ h. rw (le-ltb (length (before b xs)) (length xs) h) (omega (arith, before_length b xs))))

-- no b is there: all stand before the first
pub absent-before : (b : ℕ) (xs : List ℕ) → not (list_any (λ x. eqb x b) xs) ≡ eqb (length (before b xs)) (length xs)
unfolding before
absent-before b [] = refl
absent-before b (x ∷ xs) = by_cases (eqb x b) (λ e. rw e (sym (ne_eqb 0 (length (x ∷ xs)) (λ z. omega arith)))) (λ e. rw (e, compare.suc-suc) (absent-before b xs))

-- they are the front of the list
pub before-is : (b : ℕ) (xs : List ℕ) → take (length (before b xs)) xs ≡ before b xs
unfolding before
before-is b [] = refl
before-is b (x ∷ xs) = by_cases (eqb x b) (λ e. rw e) (λ e. rw e (ap (λ (l : List ℕ). x ∷ l) (before-is b xs)))

-- ---- the digits at the front

module _ (xs : List ℕ) (i : ℕ) (h : i < length xs) where
  pub digits_step : is_digit (get_or xs i 0) ≡ true → digits (drop i xs) ≡ get_or xs i 0 ∷ digits (drop (i + 1) xs)
  unfolding digits
  digits_step e = rw (drop-cons xs i 0, e, add-one)

  pub digits-stop : is_digit (get_or xs i 0) ≡ false → digits (drop i xs) ≡ []
  unfolding digits
  digits-stop e = rw (drop-cons xs i 0, e)

pub digits-none : digits [] ≡ []
unfolding digits
digits-none = refl

-- a digit is one of ten
pub digit_low : (x : ℕ) → is_digit x ≡ true → zero_digit ≤ x
digit_low x e = leb-true _ _ (and_left (leb zero_digit x) _ e)

pub digit-high : (x : ℕ) → is_digit x ≡ true → x ≤ nine_digit
digit-high x e = leb-true _ _ (and_right (leb zero_digit x) _ e)

-- i digits come to less than the power of ten, of which there are few
pub digit-more : (i v x : ℕ) → v < 10 ^ i → is_digit x ≡ true → v * 10 + (x - zero_digit) < 10 ^ (i + 1)
digit-more i v x h e = let k = digit-high x e in rw (add-one, pow-suc) (omega arith)

pub few-digits : (i v : ℕ) → i ≤ most_digits → v < 10 ^ i → v < 10000
few-digits i v h k = lt_of_lt_of_le k (pow-le-pow_right {n = 10} (omega arith) {i = i} {j = most_digits} h)

-- a number's digits, as far as they are read: i of them, of value v
pub record Read (xs : List ℕ) (i v : ℕ) : Type 0 where
  pub inside : i ≤ length xs
  pub few : i ≤ most_digits
  pub low : v < 10 ^ i
  pub count : length (digits xs) ≡ i + length (digits (drop i xs))
  pub worth : value 0 (digits xs) ≡ value v (digits (drop i xs))

pub read_none : (xs : List ℕ) → Read xs 0 0
read_none xs = record { inside = omega arith; few = omega arith; low = omega arith; count = omega arith; worth = refl }

-- one digit more
pub read_more : (xs : List ℕ) (i v : ℕ) → Read xs i v → i < length xs → i < most_digits → is_digit (get_or xs i 0) ≡ true
    → Read xs (i + 1) (v * 10 + (get_or xs i 0 - zero_digit))
unfolding value
read_more xs i v r h k e =
    record {
      inside = omega arith;
      few = omega arith;
      low = digit-more i v (get_or xs i 0) r.low e;
      count = r.count ∙ ap (λ (l : List ℕ). i + length l) (digits_step xs i h e) ∙ omega arith;
      worth = r.worth ∙ ap (value v) (digits_step xs i h e);
    }

-- no more digits: what was read is the number
pub read-end : (xs : List ℕ) (i v : ℕ) → Read xs i v → digits (drop i xs) ≡ [] → number_by i v ≡ number_of xs
unfolding value
read-end xs i v r e =
    let n : length (digits xs) ≡ i = r.count ∙ ap (λ (l : List ℕ). i + length l) e ∙ omega arith in
    let w : value 0 (digits xs) ≡ v = r.worth ∙ ap (value v) e in
    rw (n, w)

-- a digit too many
pub read-long : (xs : List ℕ) (i v : ℕ) → Read xs i v → i < length xs → i ≡ most_digits → is_digit (get_or xs i 0) ≡ true → None ≡ number_of xs
read-long xs i v r h k e =
    let n : most_digits < length (digits xs) = omega (arith, r.count, ap length (digits_step xs i h e)) in
    rw (lt-leb (length (digits xs)) most_digits n, and-false)

pub length_digits : (xs : List ℕ) → length (digits xs) ≤ length xs
unfolding digits
length_digits [] = omega arith
length_digits (x ∷ xs) =
    by_cases (is_digit x)
    (λ e. rw e (omega (arith, length_digits xs)))
    (λ e. rw e (omega arith))

-- ---- numbers in a row

pub spaced-empty : (xs : List ℕ) → length xs ≡ 0 → None ≡ spaced xs
spaced-empty [] h = refl
spaced-empty (x ∷ xs) h = absurd (omega arith)

-- a number that is there has the value and the digits that were counted
pub is-values : (k w : ℕ) (x : Number) → number_by k w ≡ Some x → (leb 1 k && leb k most_digits && leb w most_number ≡ true) × (w ≡ x.value) × (k ≡ x.len)
is-values k w x e = by (leb 1 k && leb k most_digits && leb w most_number) e
  where
    by : (t : Bool) → cond t (Some (record { value = w; len = k })) None ≡ Some x → (t ≡ true) × (w ≡ x.value) × (k ≡ x.len)
    by true f = (refl, cc, cc)
    by false f = absurd (cc)

pub none-is-none : {A : Type 0} (n : Number) → None ≡ Some n → A
none-is-none n e = absurd (cc)

pub spaced-inside : (xs : List ℕ) (n : Number) → spaced xs ≡ Some n → 1 + n.len ≤ length xs
spaced-inside [] n e = none-is-none n e
spaced-inside (x ∷ xs) n e =
    by_cases (eqb x space)
    (λ h. let q : length (digits xs) ≡ n.len = (is-values (length (digits xs)) (value 0 (digits xs)) n (rw h at e)).2 in omega (arith, length_digits xs))
    (λ h. none-is-none n (rw h at e))

-- i numbers are laid into `out`, and what stands from `at` on has the others
pub record Got (xs out₀ out : List ℕ) (at i : ℕ) : Type 0 where
  pub inside : at ≤ length xs
  pub some : i ≤ length out₀
  pub long : length out ≡ length out₀
  pub vals : values (length out₀) xs ≡ take i out ++ values (length out₀ - i) (drop at xs)
  pub len : values_len (length out₀) xs ≡ at + values_len (length out₀ - i) (drop at xs)
  pub rest : drop i out ≡ drop i out₀

pub got-none : (xs out : List ℕ) → Got xs out out 0 0
got-none xs out =
    record {
      inside = omega arith;
      some = omega arith;
      long = refl;
      vals = rw sub-zero;
      len = rw sub-zero (omega arith);
      rest = refl;
    }

module _ (xs out₀ out : List ℕ) (at i : ℕ) (g : Got xs out₀ out at i) where
  left : i < length out₀ → length out₀ - i ≡ suc (length out₀ - (i + 1))
  left h = omega arith

  pub got-more : (n : Number) → i < length out₀ → spaced (drop at xs) ≡ Some n → Got xs out₀ (set out i n.value) (at + (1 + n.len)) (i + 1)
  unfolding values values_len
  got-more n h e =
      let k : 1 + n.len ≤ length (drop at xs) = spaced-inside (drop at xs) n e in
      let d : drop (1 + n.len) (drop at xs) ≡ drop (at + (1 + n.len)) xs = drop-drop (1 + n.len) at xs in
      record {
        inside = omega (arith, length-drop at xs, g.inside);
        some = omega arith;
        long = length-set out i n.value ∙ g.long;
        vals =
            g.vals ∙ ap (λ (m : ℕ). take i out ++ values m (drop at xs)) (left h)
            ∙ rw (e, d, add-one, take-suc-set out i n.value (omega (arith, g.long))) (sym (append_assoc (take i out) (n.value ∷ []) _));
        len = g.len ∙ ap (λ (m : ℕ). at + values_len m (drop at xs)) (left h) ∙ rw (e, d) (omega arith);
        rest =
            drop-set-lt (i + 1) out i n.value (omega arith) ∙ sym (drop-drop 1 i out) ∙ ap (drop 1) g.rest ∙ drop-drop 1 i out₀;
      }

  -- out is its old bytes with what was read laid over them
  laid : values (length out₀) xs ≡ take i out → out ≡ splice out₀ 0 (values (length out₀) xs)
  unfolding splice
  laid e =
      let l : length (take i out) ≡ i = length-take-le i out (omega (arith, g.long, g.some)) in
      sym (take-append-drop i out) ∙ rw (e, l, zero-add, g.rest)

  pub got-bad : i < length out₀ → spaced (drop at xs) ≡ None
      → (None ≡ taken_of (length out₀) xs) × (out ≡ splice out₀ 0 (values (length out₀) xs))
  unfolding values
  got-bad h e =
      let p : values (length out₀) xs ≡ take i out =
      g.vals ∙ ap (λ (m : ℕ). take i out ++ values m (drop at xs)) (left h) ∙ rw e (append-nil (take i out)) in
      let n : length (values (length out₀) xs) ≡ i = ap length p ∙ length-take-le i out (omega (arith, g.long)) in
      (rw (ne_eqb (length (values (length out₀) xs)) (length out₀) (λ q. omega arith)), laid p)

  pub got-all : length out₀ ≤ i → (Some at ≡ taken_of (length out₀) xs) × (out ≡ splice out₀ 0 (values (length out₀) xs))
  unfolding values values_len
  got-all h =
      let z : length out₀ - i ≡ 0 = omega arith in
      let p : values (length out₀) xs ≡ take i out = g.vals ∙ rw z (append-nil (take i out)) in
      let q : values_len (length out₀) xs ≡ at = g.len ∙ rw z (omega arith) in
      let n : length (values (length out₀) xs) ≡ length out₀ = ap length p ∙ length-take-le i out (omega (arith, g.long)) ∙ omega (arith, g.some) in
      (rw (eq-eqb (length (values (length out₀) xs)) (length out₀) n, q), laid p)
