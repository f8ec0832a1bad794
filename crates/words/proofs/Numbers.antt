-- The laws of numbers in bytes. Assumes nothing.
use mathlib.Core.Path.{◌≡◌, refl, sym, ap, ◌∙◌}
use mathlib.Core.List.{List, [], ◌∷◌, ◌++◌}
use Prim.Native.Nat.{ℕ, zero, suc, ◌+◌, ◌-◌, ◌*◌, ◌/◌, ◌%◌, ◌^◌, ◌≤◌, ◌<◌}
use native.Mathlib.Nat.{zero-add, add-zero, suc-add, zero-mul, mul_comm, mul_assoc, pow-suc, div-div-eq-div-mul}
use native.Mathlib.Numerals.{add-one}
use native.Mathlib.Omega.{arith}
use lib.ListN.{length, get_or, drop, length-append}
use lib.Seq.{get_or-drop, drop-drop}
use Rattle.std.specs.Prelude.{reverse}
use Rattle.std.proofs.lemmas.List.{reverse-append}
use Rattle.std.specs.Int.{byte_at, byte_worth, bytes_low_first, bytes_high_first, sum_through}
use Rattle.words.specs.Bytes.{part, splice}
use Rattle.words.specs.Numbers.{number, bytes_of, big_number, big_bytes_of}
use Rattle.words.proofs.Splice.{get_d_part, get_d-splice-before, get_d-splice-after, get_d-splice-in}

-- ---- number

-- it depends on its own bytes alone
pub number-ext : (n : ℕ) (xs ys : List ℕ) (a b : ℕ) → ((i : ℕ) → i < n → get_or xs (a + i) 0 ≡ get_or ys (b + i) 0) → number n xs a ≡ number n ys b
unfolding number
number-ext zero xs ys a b h = refl
number-ext (suc n) xs ys a b h =
    let e : a + 0 ≡ a = omega arith in
    let f : b + 0 ≡ b = omega arith in
    let g : get_or xs a 0 ≡ get_or ys b 0 = ap (λ (i : ℕ). get_or xs i 0) (sym e) ∙ h 0 (omega arith) ∙ ap (λ (i : ℕ). get_or ys i 0) f in
    let r : number n xs (a + 1) ≡ number n ys (b + 1) = number-ext n xs ys (a + 1) (b + 1) (λ i k.
    let p : a + 1 + i ≡ a + suc i = omega arith in
    let q : b + 1 + i ≡ b + suc i = omega arith in
    ap (λ (j : ℕ). get_or xs j 0) p ∙ h (suc i) (omega arith) ∙ ap (λ (j : ℕ). get_or ys j 0) (sym q)) in
    rw (g, r)

-- in a part
pub number-part : (n : ℕ) (xs : List ℕ) (a m b : ℕ) → b + n ≤ m → number n (part xs a m) b ≡ number n xs (a + b)
number-part n xs a m b h =
    number-ext n (part xs a m) xs b (a + b) (λ i k.
    let e : a + (b + i) ≡ a + b + i = omega arith in
    get_d_part xs a m (b + i) (omega arith) ∙ ap (λ (j : ℕ). get_or xs j 0) e)

pub number-drop : (n : ℕ) (xs : List ℕ) (a b : ℕ) → number n (drop a xs) b ≡ number n xs (a + b)
number-drop n xs a b =
    number-ext n (drop a xs) xs b (a + b) (λ i k.
    let e : a + (b + i) ≡ a + b + i = omega arith in
    get_or-drop a xs (b + i) 0 ∙ ap (λ (j : ℕ). get_or xs j 0) e)

-- of a splice: before it, after it, in it
pub number-splice-before : (n : ℕ) (xs : List ℕ) (at : ℕ) (ys : List ℕ) (b : ℕ) → b + n ≤ at → at ≤ length xs → number n (splice xs at ys) b ≡ number n xs b
number-splice-before n xs at ys b h k = number-ext n (splice xs at ys) xs b b (λ i l. get_d-splice-before xs at ys (b + i) (omega arith) k)

pub number-splice-after : (n : ℕ) (xs : List ℕ) (at : ℕ) (ys : List ℕ) (b : ℕ) → at + length ys ≤ b → at ≤ length xs → number n (splice xs at ys) b ≡ number n xs b
number-splice-after n xs at ys b h k = number-ext n (splice xs at ys) xs b b (λ i l. get_d-splice-after xs at ys (b + i) (omega arith) k)

pub number-splice-in : (n : ℕ) (xs : List ℕ) (at : ℕ) (ys : List ℕ) (b : ℕ) → at ≤ length xs → b + n ≤ length ys → number n (splice xs at ys) (at + b) ≡ number n ys b
number-splice-in n xs at ys b h k =
    number-ext n (splice xs at ys) ys (at + b) b (λ i l.
    let e : at + b + i ≡ at + (b + i) = omega arith in
    ap (λ (j : ℕ). get_or (splice xs at ys) j 0) e ∙ get_d-splice-in xs at ys (b + i) h (omega arith))

-- in two halves
pub number-add : (n m : ℕ) (xs : List ℕ) (a : ℕ) → number (n + m) xs a ≡ number n xs a + 256 ^ n * number m xs (a + n)
unfolding number
number-add zero m xs a = rw (zero-add, add-zero) (omega arith)
number-add (suc n) m xs a =
    rw suc-add
    (let e : a + 1 + n ≡ a + suc n = omega arith in
    let r : number (n + m) xs (a + 1) ≡ number n xs (a + 1) + 256 ^ n * number m xs (a + suc n) =
    number-add n m xs (a + 1) ∙ ap (λ (j : ℕ). number n xs (a + 1) + 256 ^ n * number m xs j) e in
    let p : 256 ^ suc n * number m xs (a + suc n) ≡ 256 * (256 ^ n * number m xs (a + suc n)) =
    ap (λ (j : ℕ). j * number m xs (a + suc n)) (pow-suc 256 n ∙ mul_comm (256 ^ n) 256) ∙ mul_assoc 256 (256 ^ n) (number m xs (a + suc n)) in
    omega arith)

-- ---- bytes_of

pub length-bytes_of : (n x : ℕ) → length (bytes_of n x) ≡ n
unfolding bytes_of
length-bytes_of zero x = refl
length-bytes_of (suc n) x = ap suc (length-bytes_of n (x / 256))

-- what stands above the n bytes does not count
pub bytes_of-wrap : (n x q : ℕ) → bytes_of n (x + q * 256 ^ n) ≡ bytes_of n x
unfolding bytes_of
bytes_of-wrap zero x q = refl
bytes_of-wrap (suc n) x q =
    let e : q * 256 ^ suc n ≡ q * 256 ^ n * 256 = ap (λ (k : ℕ). q * k) (pow-suc 256 n) ∙ sym (mul_assoc q (256 ^ n) 256) in
    let d : (x + q * 256 ^ suc n) / 256 ≡ x / 256 + q * 256 ^ n = omega arith in
    let m : (x + q * 256 ^ suc n) % 256 ≡ x % 256 = omega arith in
    rw (d, m, bytes_of-wrap n (x / 256) q)

-- a number written, then read
pub number-bytes_of : (n x : ℕ) → x < 256 ^ n → number n (bytes_of n x) 0 ≡ x
unfolding number bytes_of
number-bytes_of zero x h = omega arith
number-bytes_of (suc n) x h =
    let k : x < 256 ^ n * 256 = rw pow-suc at h in
    let e : number n (x % 256 ∷ bytes_of n (x / 256)) 1 ≡ number n (bytes_of n (x / 256)) 0 =
    number-ext n (x % 256 ∷ bytes_of n (x / 256)) (bytes_of n (x / 256)) 1 0 (λ i l.
    let s : 1 + i ≡ suc i = omega arith in
    let t : 0 + i ≡ i = omega arith in
    ap (λ (j : ℕ). get_or (x % 256 ∷ bytes_of n (x / 256)) j 0) s ∙ ap (λ (j : ℕ). get_or (bytes_of n (x / 256)) j 0) (sym t)) in
    let r : number n (bytes_of n (x / 256)) 0 ≡ x / 256 = number-bytes_of n (x / 256) (omega arith) in
    omega arith

pub number_put : (n x : ℕ) (xs : List ℕ) (at : ℕ) → at ≤ length xs → x < 256 ^ n → number n (splice xs at (bytes_of n x)) at ≡ x
number_put n x xs at h k =
    let e : at ≡ at + 0 = omega arith in
    ap (λ (j : ℕ). number n (splice xs at (bytes_of n x)) j) e
    ∙ number-splice-in n xs at (bytes_of n x) 0 h (omega (arith, length-bytes_of n x)) ∙ number-bytes_of n x k

-- the loop that writes them: what is left of x is y, in n - i bytes
module _ (n x i y : ℕ) (h : i < n) (left : drop i (bytes_of n x) ≡ bytes_of (n - i) y) where
  head : bytes_of (n - i) y ≡ y % 256 ∷ bytes_of (n - (i + 1)) (y / 256)
  unfolding bytes_of
  head = let e : n - i ≡ suc (n - (i + 1)) = omega arith in rw e

  pub bytes_of-at : y % 256 ≡ get_or (bytes_of n x) i 0
  bytes_of-at =
      let e : i + 0 ≡ i = omega arith in
      ap (λ (l : List ℕ). get_or l 0 0) (sym (left ∙ head)) ∙ get_or-drop i (bytes_of n x) 0 0 ∙ ap (λ (j : ℕ). get_or (bytes_of n x) j 0) e

  pub bytes_of-left : drop (i + 1) (bytes_of n x) ≡ bytes_of (n - (i + 1)) (y / 256)
  bytes_of-left = sym (drop-drop 1 i (bytes_of n x)) ∙ ap (λ (l : List ℕ). drop 1 l) (left ∙ head)

-- ---- the highest byte first

pub length-big_bytes_of : (n x : ℕ) → length (big_bytes_of n x) ≡ n
unfolding big_bytes_of
length-big_bytes_of zero x = refl
length-big_bytes_of (suc n) x = length-append (big_bytes_of n (x / 256)) (x % 256 ∷ []) ∙ rw (length-big_bytes_of n (x / 256), add-one)

pub big_bytes_of-wrap : (n x q : ℕ) → big_bytes_of n (x + q * 256 ^ n) ≡ big_bytes_of n x
unfolding big_bytes_of
big_bytes_of-wrap zero x q = refl
big_bytes_of-wrap (suc n) x q =
    let e : q * 256 ^ suc n ≡ q * 256 ^ n * 256 = ap (λ (k : ℕ). q * k) (pow-suc 256 n) ∙ sym (mul_assoc q (256 ^ n) 256) in
    let d : (x + q * 256 ^ suc n) / 256 ≡ x / 256 + q * 256 ^ n = omega arith in
    let m : (x + q * 256 ^ suc n) % 256 ≡ x % 256 = omega arith in
    rw (d, m, big_bytes_of-wrap n (x / 256) q)

-- four bytes, written out
pub big-four : (xs : List ℕ) (i : ℕ) {x y z w : ℕ} → x ≡ get_or xs i 0 → y ≡ get_or xs (i + 1) 0 → z ≡ get_or xs (i + 2) 0 → w ≡ get_or xs (i + 3) 0
    → ((x * 256 + y) * 256 + z) * 256 + w ≡ big_number 4 xs i
unfolding big_number
big-four xs i p q r s = simp (p, q, r, s, zero-mul, zero-add, add-zero)

-- in a part
pub big_number-part : (n : ℕ) (xs : List ℕ) (a m b : ℕ) → b + n ≤ m → big_number n (part xs a m) b ≡ big_number n xs (a + b)
unfolding big_number
big_number-part zero xs a m b h = refl
big_number-part (suc n) xs a m b h =
    let e : big_number n (part xs a m) b ≡ big_number n xs (a + b) = big_number-part n xs a m b (omega arith) in
    let f : a + (b + n) ≡ a + b + n = omega arith in
    let g : get_or (part xs a m) (b + n) 0 ≡ get_or xs (a + b + n) 0 = get_d_part xs a m (b + n) (omega arith) ∙ ap (λ (j : ℕ). get_or xs j 0) f in
    cc

-- the same bytes, turned round
pub reverse-bytes_of : (n x : ℕ) → reverse (bytes_of n x) ≡ big_bytes_of n x
unfolding bytes_of big_bytes_of
reverse-bytes_of zero x = refl
reverse-bytes_of (suc n) x =
    reverse-append (x % 256 ∷ []) (bytes_of n (x / 256)) ∙ ap (λ (l : List ℕ). l ++ (x % 256 ∷ [])) (reverse-bytes_of n (x / 256))

-- ---- the library's conversions

byte_at-is : (i x : ℕ) → byte_at i x ≡ x / 256 ^ i % 256
byte_at-is zero x = omega arith
byte_at-is (suc i) x = refl

low_first-from : (i n x : ℕ) → bytes_low_first i n x ≡ bytes_of n (x / 256 ^ i)
unfolding bytes_of
low_first-from i zero x = refl
low_first-from i (suc n) x =
    let d : x / 256 ^ suc i ≡ x / 256 ^ i / 256 = rw pow-suc (sym (div-div-eq-div-mul x (256 ^ i) 256)) in
    rw (byte_at-is i x, low_first-from (suc i) n x, d)

pub low_first-is : (n x : ℕ) → bytes_low_first 0 n x ≡ bytes_of n x
low_first-is n x = let e : x / 256 ^ 0 ≡ x = omega arith in low_first-from 0 n x ∙ ap (bytes_of n) e

big-first : (n x : ℕ) → big_bytes_of (suc n) x ≡ x / 256 ^ n % 256 ∷ big_bytes_of n x
unfolding big_bytes_of
big-first zero x = let e : x / 256 ^ 0 ≡ x = omega arith in rw e
big-first (suc n) x =
    let d : x / 256 ^ suc n ≡ x / 256 / 256 ^ n = rw (pow-suc, mul_comm (256 ^ n) 256) (sym (div-div-eq-div-mul x 256 (256 ^ n))) in
    rw (big-first n (x / 256), d)

pub high_first-is : (n x : ℕ) → bytes_high_first n x ≡ big_bytes_of n x
unfolding big_bytes_of
high_first-is zero x = refl
high_first-is (suc n) x =
    ap (λ (y : ℕ). y ∷ bytes_high_first n x) (byte_at-is n x) ∙ ap (λ (l : List ℕ). x / 256 ^ n % 256 ∷ l) (high_first-is n x) ∙ sym (big-first n x)

number-one : (xs : List ℕ) (at : ℕ) → number 1 xs at ≡ get_or xs at 0
unfolding number
number-one xs at = omega arith

low-number : (n : ℕ) (xs : List ℕ) → sum_through (λ i. byte_worth i (get_or xs i 0)) n ≡ number (suc n) xs 0
low-number zero xs = sym (number-one xs 0)
low-number (suc n) xs =
    let e : suc (suc n) ≡ suc n + 1 = omega arith in
    rw (e, number-add (suc n) 1 xs 0, low-number n xs, zero-add, number-one, mul_comm (256 ^ suc n))

-- of the bytes taken at a place
pub low-number-at : (n : ℕ) (xs : List ℕ) (at : ℕ) {bs : List ℕ} → bs ≡ part xs at (suc n) → sum_through (λ i. byte_worth i (get_or bs i 0)) n ≡ number (suc n) xs at
low-number-at n xs at {bs} e = low-number n bs ∙ rw (e, number-part (suc n) xs at (suc n) 0 (omega arith), add-zero)

pub high-number-at : (xs : List ℕ) (at : ℕ) {bs : List ℕ} → bs ≡ part xs at 4 → sum_through (λ i. byte_worth (3 - i) (get_or bs i 0)) 3 ≡ big_number 4 xs at
unfolding big_number
high-number-at xs at {bs} e =
    let h : (i : ℕ) → i < 4 → get_or bs i 0 ≡ get_or xs (at + i) 0 = λ i l. ap (λ (b : List ℕ). get_or b i 0) e ∙ get_d_part xs at 4 i l in
    omega (arith, h 0 (omega arith), h 1 (omega arith), h 2 (omega arith), h 3 (omega arith))
