-- A number in decimal digits, read again, is the same number. Assumes nothing.
use Prim.Native.Nat.{ℕ, zero, suc, ◌+◌, ◌*◌, ◌-◌, ◌/◌, ◌%◌, ◌^◌, ◌≤◌, ◌<◌}
use mathlib.Core.Path.{◌≡◌, refl, ap}
use mathlib.Core.Bool.{true}
use mathlib.Core.List.{List, [], ◌∷◌, ◌++◌}
use native.Mathlib.Nat.{pow-suc}
use native.Mathlib.Omega.{arith}
use lib.ListN.{length, length-append}
use lib.Dec.{ltb}
use borrow.Author.Tests.{ltb-true, le-leb, ne_eqb}
use Rattle.words.proofs.Tests.{by_cases}
use Rattle.text.specs.Fronts.{zero_digit, nine_digit, ten, is_digit, digits, value}
use Rattle.text.proofs.Fronts.{digit_low}
use Rattle.listing.specs.Listing.{digits_up_to, decimal, most_decimal}
use Rattle.returning.proofs.Free.{Free, free-cons, free-nil}

abbrev pub EachDigit : List ℕ → Type 0
EachDigit [] = Unit
EachDigit (d ∷ ds) = (is_digit d ≡ true) × EachDigit ds

each_append : (ds es : List ℕ) → EachDigit ds → EachDigit es → EachDigit (ds ++ es)
each_append [] es h k = k
each_append (d ∷ ds) es h k = (h.0, each_append ds es h.1 k)

a-digit : (x : ℕ) → x < ten → is_digit (zero_digit + x) ≡ true
a-digit x h = rw (le-leb zero_digit (zero_digit + x) (omega arith), le-leb (zero_digit + x) nine_digit (omega arith))

are-digits : (n x : ℕ) → EachDigit (digits_up_to n x)
unfolding digits_up_to
are-digits zero x = tt
are-digits (suc n) x =
    by_cases (ltb x ten)
    (λ e. rw e (a-digit x (ltb-true x ten e), tt))
    (λ e. rw e (each_append (digits_up_to n (x / ten)) ((zero_digit + x % ten) ∷ []) (are-digits n (x / ten)) (a-digit (x % ten) (omega arith), tt)))

value-append : (v : ℕ) (ds es : List ℕ) → value v (ds ++ es) ≡ value (value v ds) es
unfolding value
value-append v [] es = refl
value-append v (d ∷ ds) es = value-append (v * ten + (d - zero_digit)) ds es

value-up-to : (n x : ℕ) → x < 10 ^ n → value 0 (digits_up_to n x) ≡ x
unfolding digits_up_to value
value-up-to zero x h = omega arith
value-up-to (suc n) x h =
    let k : x < 10 ^ n * 10 = rw pow-suc at h in
    by_cases (ltb x ten)
    (λ e. rw e (omega arith))
    (λ e. rw (e, value-append 0 (digits_up_to n (x / ten)) ((zero_digit + x % ten) ∷ []), value-up-to n (x / ten) (omega arith)) (omega arith))

-- ---- of a number in decimal

pub decimal-digits : (x : ℕ) → EachDigit (decimal x)
decimal-digits x = are-digits most_decimal x

pub decimal-value : (x : ℕ) → x < 65536 → value 0 (decimal x) ≡ x
decimal-value x h = value-up-to most_decimal x (omega arith)

pub decimal-some : (x : ℕ) → 1 ≤ length (decimal x)
unfolding digits_up_to
decimal-some x =
    by_cases (ltb x ten)
    (λ e. rw e (omega arith))
    (λ e. rw e (omega (arith, length-append (digits_up_to 19 (x / ten)) ((zero_digit + x % ten) ∷ []))))

-- ---- digits at the front of a text, where no digit follows

pub digits-then : (ds ys : List ℕ) → EachDigit ds → digits ys ≡ [] → digits (ds ++ ys) ≡ ds
unfolding digits
digits-then [] ys h k = k
digits-then (d ∷ ds) ys h k = rw h.0 (ap (λ (l : List ℕ). d ∷ l) (digits-then ds ys h.1 k))

pub digits-free : (b : ℕ) (ds : List ℕ) → b < zero_digit → EachDigit ds → Free b ds
digits-free b [] l h = free-nil b
digits-free b (d ∷ ds) l h =
    let k : zero_digit ≤ d = digit_low d h.0 in
    free-cons b d ds (ne_eqb d b (λ e. omega arith)) (digits-free b ds l h.1)
