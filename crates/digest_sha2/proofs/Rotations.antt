-- Rotations of words: a rotation exchanges the low bits and the high ones, so it goes through an exclusive or, and one after another is one
-- by the sum. So three rotations, or two, may share what they have in common. Assumes nothing.
use Rattle.std.proofs.Common.{◌≡◌, ℕ, ◌+◌, ◌-◌, ◌*◌, ◌/◌, ◌%◌, ◌^◌, ◌<◌, ◌≤◌, sym, ap, ◌∙◌, subst, ap₂, add_assoc, mod-lt, mul_assoc, add-mul, add_comm, arith, pow_pos, pow-add, shl_lt, shr_lt}
use lib.Bits.{bit_xor, or_shifted_r, xor_block, xor_lt, xor_mod, xor_shr}
use lib.Arith.{digits_lt}
use lib.Pow.{split, high, low}
use Rattle.std.specs.Int.{w32, rotate_right}
use Rattle.digest_sha2.specs.Sha2.{shr, rotr, rotr³, rotr²shr}
use Rattle.digest_sha2.proofs.Bitwise.{xor_assoc}

-- bits at their places: x above i of y's, and both above j more
join : (x y i j : ℕ) → (x * 2 ^ i + y) * 2 ^ j ≡ x * 2 ^ (i + j) + y * 2 ^ j
join x y i j =
    add-mul (x * 2 ^ i) y (2 ^ j) ∙ ap (λ (z : ℕ). z + y * 2 ^ j) (mul_assoc x (2 ^ i) (2 ^ j) ∙ ap (λ (z : ℕ). x * z) (sym (pow-add 2 i j)))

below : (x y i j : ℕ) → x < 2 ^ i → y < 2 ^ j → x * 2 ^ j + y < 2 ^ (i + j)
below x y i j p q = subst (λ (z : ℕ). x * 2 ^ j + y < z) (sym (pow-add 2 i j)) (digits_lt p q)

-- ---- a word of n + k bits: its n low ones l exchanged with the k high ones h

exchanged : (n k h l : ℕ) → h < 2 ^ k → l < 2 ^ n → rotr (n + k) n (h * 2 ^ n + l) ≡ l * 2 ^ k + h
unfolding rotr
exchanged n k h l p q =
    let e : n + k - n ≡ k = omega arith in
    rw (high h n q, e, join h l n k, low h (n + k) (shl_lt n k q)) (or_shifted_r l k h p)

module _ (n k x : ℕ) (p : x < 2 ^ (n + k)) where
  high_lt : x / 2 ^ n < 2 ^ k
  high_lt = shr_lt k n (subst (λ (w : ℕ). x < 2 ^ w) (add_comm n k) p)

  low-lt : x % 2 ^ n < 2 ^ n
  low-lt = mod-lt x (pow_pos n)

  rotated : rotr (n + k) n x ≡ x % 2 ^ n * 2 ^ k + x / 2 ^ n
  rotated = ap (rotr (n + k) n) (sym (split x n)) ∙ exchanged n k (x / 2 ^ n) (x % 2 ^ n) high_lt low-lt

  rotated-lt : rotr (n + k) n x < 2 ^ (n + k)
  rotated-lt = rw rotated (below (x % 2 ^ n) (x / 2 ^ n) n k low-lt high_lt)

rotated-xor : (n k x y : ℕ) → x < 2 ^ (n + k) → y < 2 ^ (n + k) → rotr (n + k) n (bit_xor x y) ≡ bit_xor (rotr (n + k) n x) (rotr (n + k) n y)
rotated-xor n k x y p q =
    rotated n k (bit_xor x y) (xor_lt (n + k) x y p q) ∙ ap₂ (λ (l h : ℕ). l * 2 ^ k + h) (xor_mod x y n) (xor_shr x y n)
    ∙ sym (xor_block k (x % 2 ^ n) (y % 2 ^ n) (x / 2 ^ n) (y / 2 ^ n) (high_lt n k x p) (high_lt n k y q))
    ∙ ap₂ bit_xor (sym (rotated n k x p)) (sym (rotated n k y q))

-- ---- a word of a + b + k bits: its low ones l, its middle ones m and its high ones h, of b, a and k bits

abbrev three : (a b h m l : ℕ) → ℕ
three a b h m l = (h * 2 ^ a + m) * 2 ^ b + l

module _ (a b k h m l : ℕ) (hk : h < 2 ^ k) (ma : m < 2 ^ a) (lb : l < 2 ^ b) where
  first : rotr (b + (k + a)) b (three a b h m l) ≡ three k a l h m
  first =
      exchanged b (k + a) (h * 2 ^ a + m) l (below h m k a hk ma) lb
      ∙ sym (ap (λ (z : ℕ). z + m) (join l h k a) ∙ add_assoc (l * 2 ^ (k + a)) (h * 2 ^ a) m)

  second : rotr (a + (b + k)) a (three k a l h m) ≡ m * 2 ^ (b + k) + (l * 2 ^ k + h)
  second = exchanged a (b + k) (l * 2 ^ k + h) m (below l h b k lb hk) ma

  both : rotr (a + b + k) (a + b) (three a b h m l) ≡ m * 2 ^ (b + k) + (l * 2 ^ k + h)
  both =
      ap (rotr (a + b + k) (a + b)) (ap (λ (z : ℕ). z + l) (join h m a b) ∙ add_assoc (h * 2 ^ (a + b)) (m * 2 ^ b) l)
      ∙ exchanged (a + b) k h (m * 2 ^ b + l) hk (below m l a b ma lb)
      ∙ ap (λ (z : ℕ). z + h) (join m l b k) ∙ add_assoc (m * 2 ^ (b + k)) (l * 2 ^ k) h

  one_by_one : rotr (a + b + k) a (rotr (a + b + k) b (three a b h m l)) ≡ rotr (a + b + k) (a + b) (three a b h m l)
  one_by_one =
      let e : b + (k + a) ≡ a + b + k = omega arith in
      let f : a + (b + k) ≡ a + b + k = omega arith in
      ap (rotr (a + b + k) a) (subst (λ (w : ℕ). rotr w b (three a b h m l) ≡ three k a l h m) e first)
      ∙ subst (λ (w : ℕ). rotr w a (three k a l h m) ≡ m * 2 ^ (b + k) + (l * 2 ^ k + h)) f second ∙ sym both

rotated-twice : (a b k x : ℕ) → x < 2 ^ (a + b + k) → rotr (a + b + k) a (rotr (a + b + k) b x) ≡ rotr (a + b + k) (a + b) x
rotated-twice a b k x p =
    let y = x / 2 ^ b in
    let q : y < 2 ^ (k + a) = high_lt b (k + a) x (subst (λ (w : ℕ). x < 2 ^ w) (omega arith) p) in
    let e : three a b (y / 2 ^ a) (y % 2 ^ a) (x % 2 ^ b) ≡ x = ap (λ (z : ℕ). z * 2 ^ b + x % 2 ^ b) (split y a) ∙ split x b in
    subst (λ (z : ℕ). rotr (a + b + k) a (rotr (a + b + k) b z) ≡ rotr (a + b + k) (a + b) z) e
    (one_by_one a b k (y / 2 ^ a) (y % 2 ^ a) (x % 2 ^ b) (shr_lt k a q) (mod-lt y (pow_pos a)) (mod-lt x (pow_pos b)))

-- ---- a word of w bits

module _ (w x : ℕ) (h : x < 2 ^ w) where
  rotr-lt : (n : ℕ) → n ≤ w → rotr w n x < 2 ^ w
  rotr-lt n p =
      let e : n + (w - n) ≡ w = omega arith in
      subst (λ (v : ℕ). rotr v n x < 2 ^ v) e (rotated-lt n (w - n) x (subst (λ (v : ℕ). x < 2 ^ v) (sym e) h))

  rotr-xor : (n y : ℕ) → n ≤ w → y < 2 ^ w → rotr w n (bit_xor x y) ≡ bit_xor (rotr w n x) (rotr w n y)
  rotr-xor n y p q =
      let e : n + (w - n) ≡ w = omega arith in
      let up : (z : ℕ) → z < 2 ^ w → z < 2 ^ (n + (w - n)) = λ z r. subst (λ (v : ℕ). z < 2 ^ v) (sym e) r in
      subst (λ (v : ℕ). rotr v n (bit_xor x y) ≡ bit_xor (rotr v n x) (rotr v n y)) e (rotated-xor n (w - n) x y (up x h) (up y q))

  rotr-rotr : (a b c : ℕ) → a + b ≡ c → c ≤ w → rotr w a (rotr w b x) ≡ rotr w c x
  rotr-rotr a b c e p =
      let f : a + b + (w - c) ≡ w = omega arith in
      subst (λ (v : ℕ). rotr v a (rotr v b x) ≡ rotr v (a + b) x) f (rotated-twice a b (w - c) x (subst (λ (v : ℕ). x < 2 ^ v) (sym f) h))
      ∙ ap (λ (n : ℕ). rotr w n x) e

  -- two rotations of x, the second made by what it has beyond the first; and three
  pub rotr²-is : (a b : ℕ) → a < b → b < w → rotr w a (bit_xor x (rotr w (b - a) x)) ≡ bit_xor (rotr w a x) (rotr w b x)
  rotr²-is a b p q =
      rotr-xor a (rotr w (b - a) x) (omega arith) (rotr-lt (b - a) (omega arith)) ∙ ap (bit_xor (rotr w a x)) (rotr-rotr a (b - a) b (omega arith) (omega arith))

pub rotr³-is : (w x : ℕ) → x < 2 ^ w → (a b c : ℕ) → a < b → b < c → c < w
    → rotr w a (bit_xor x (rotr w (b - a) (bit_xor x (rotr w (c - b) x)))) ≡ rotr³ w a b c x
unfolding rotr³
rotr³-is w x h a b c p q r =
    let y = bit_xor x (rotr w (c - b) x) in
    let hy : y < 2 ^ w = xor_lt w x (rotr w (c - b) x) h (rotr-lt w x h (c - b) (omega arith)) in
    rotr-xor w x h a (rotr w (b - a) y) (omega arith) (rotr-lt w y hy (b - a) (omega arith))
    ∙ ap (bit_xor (rotr w a x)) (rotr-rotr w y hy a (b - a) b (omega arith) (omega arith) ∙ rotr²-is w x h b c q r)
    ∙ xor_assoc w (rotr w a x) (rotr w b x) (rotr w c x) (rotr-lt w x h a (omega arith)) (rotr-lt w x h b (omega arith)) (rotr-lt w x h c (omega arith))

pub rotr²shr-is : (w x : ℕ) → x < 2 ^ w → (a b c : ℕ) → a < b → b < w → bit_xor (rotr w a (bit_xor x (rotr w (b - a) x))) (shr c x) ≡ rotr²shr w a b c x
unfolding rotr²shr
rotr²shr-is w x h a b c p q = ap (λ (z : ℕ). bit_xor z (shr c x)) (rotr²-is w x h a b p q)

-- ---- the library's rotation is the standard's

pub rotated-right : (x n r : ℕ) → 0 < n → n < 32 → r ≡ rotate_right w32 x n → r ≡ rotr 32 n x
unfolding rotr
rotated-right x n r p q h =
    let e : n % 32 ≡ n = omega arith in
    let f : (32 - n) % 32 ≡ 32 - n = omega arith in
    h ∙ rw (e, f)
