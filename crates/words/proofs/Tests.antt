-- The laws of tests: of every number below n, of a list of tests, of zeros, and of two lists compared. Assumes nothing.
use Prim.Native.Nat.{ℕ, zero, suc, ◌+◌, ◌<◌, ◌≤◌}
use mathlib.Core.Path.{◌≡◌, refl, sym, ap, ◌∙◌}
use mathlib.Core.Bool.{Bool, true, false, ◌&&◌, and-false}
use mathlib.Core.Logic.{⊎_elim}
use native.Mathlib.Nat.{le_antisymm, eq-or-lt_of_le, le_of_suc-le-suc}
use native.Mathlib.Numerals.{add-one}
use native.Mathlib.Omega.{arith}
use mathlib.Core.List.{List, [], ◌∷◌}
use lib.ListN.{length, take, drop, get_or, length-replicate, get_or-replicate}
use lib.Seq.{take-suc, take_all, drop-cons}
use lib.Dec.{eqb, ltb}
use borrow.Author.Tests.{eq-eqb, ne_eqb, eqb-true, ltb-true, ltb-false}
use Rattle.std.specs.Cmp.Lexicographic.{pointwise}
use Rattle.std.specs.List.{fold}
use Rattle.std.proofs.lemmas.Grind.{fold-append}
use Rattle.words.specs.Bytes.{zeros, same}
use Rattle.words.specs.Tests.{all, all_zero, every, every_after, Each}

-- ---- by cases: a test comes out true or false; a number is below another or not

pub by_cases {ℓ} : {A : Type ℓ} (b : Bool) → (b ≡ true → A) → (b ≡ false → A) → A
by_cases true f g = f refl
by_cases false f g = g refl

pub below_or : {A : Type 0} (a b : ℕ) → (a < b → A) → (b ≤ a → A) → A
below_or a b f g = by_cases (ltb a b) (λ e. f (ltb-true a b e)) (λ e. g (ltb-false a b e))

-- ---- two tests

pub and_left : (a b : Bool) → (a && b) ≡ true → a ≡ true
and_left true b h = refl
and_left false b h = h

pub and_right : (a b : Bool) → (a && b) ≡ true → b ≡ true
and_right true b h = h
and_right false b h = cc

-- ---- all: what a loop that tests every index needs

pub all_none : (p : ℕ → Bool) → all 0 p ≡ true
unfolding all
all_none p = refl

-- one more index passes
pub all_more : (p : ℕ → Bool) (i : ℕ) → all i p ≡ true → p i ≡ true → all (i + 1) p ≡ true
unfolding all
all_more p i h k = rw (add-one, h, k)

-- one more index, whatever comes out
pub all-step : (p : ℕ → Bool) (i : ℕ) (a b : Bool) → a ≡ all i p → b ≡ p i → (a && b) ≡ all (i + 1) p
unfolding all
all-step p i a b h k = rw (add-one, h, k)

-- the first index that fails decides
pub all-fails : (p : ℕ → Bool) (n i : ℕ) → i < n → p i ≡ false → all n p ≡ false
unfolding all
all-fails p zero i h k = absurd (omega arith)
all-fails p (suc n) i h k =
    ⊎_elim
    (λ e. rw (← e, k, and-false))
    (λ l. rw (all-fails p n i l k))
    (eq-or-lt_of_le (le_of_suc-le-suc h))

-- the loop's end
pub all_end : (p : ℕ → Bool) (n i : ℕ) → i ≤ n → n ≤ i → all i p ≡ true → all n p ≡ true
all_end p n i h k a = rw (le_antisymm k h) a

pub all_done : (p : ℕ → Bool) (n i : ℕ) (a : Bool) → i ≤ n → n ≤ i → a ≡ all i p → a ≡ all n p
all_done p n i a h k e = rw (le_antisymm k h) e

-- ---- all: what its callers need

pub all-at : (p : ℕ → Bool) (n i : ℕ) → i < n → all n p ≡ true → p i ≡ true
unfolding all
all-at p zero i h k = absurd (omega arith)
all-at p (suc n) i h k =
    ⊎_elim
    (λ e. rw e (and_right (all n p) (p n) k))
    (λ l. all-at p n i l (and_left (all n p) (p n) k))
    (eq-or-lt_of_le (le_of_suc-le-suc h))

pub all_true : (p : ℕ → Bool) (n : ℕ) → ((i : ℕ) → i < n → p i ≡ true) → all n p ≡ true
unfolding all
all_true p zero h = refl
all_true p (suc n) h = rw (all_true p n (λ i l. h i (omega arith)), h n (omega arith))

-- a test that is true just where every number below n passes
pub all_just : (p : ℕ → Bool) (n : ℕ) (b : Bool) → (b ≡ true → (i : ℕ) → i < n → p i ≡ true) → (((i : ℕ) → i < n → p i ≡ true) → b ≡ true) → b ≡ all n p
all_just p n true f g = sym (all_true p n (f refl))
all_just p n false f g = by_cases (all n p) (λ e. g (λ i l. all-at p n i l e) ∙ sym e) (λ e. sym e)

-- two tests that agree below n
pub all-ext : (p q : ℕ → Bool) (n : ℕ) → ((i : ℕ) → i < n → p i ≡ q i) → all n p ≡ all n q
unfolding all
all-ext p q zero h = refl
all-ext p q (suc n) h = rw (all-ext p q n (λ i l. h i (omega arith)), h n (omega arith))

-- ---- every: where it says true, each test holds, and the other way

each_after : (a : Bool) (bs : List Bool) → every_after a bs ≡ true → (a ≡ true) × Each bs
each_after a [] h = (h, tt)
each_after a (b ∷ bs) h =
    let r = each_after (a && b) bs h in
    (and_left a b r.0, (and_right a b r.0, r.1))

pub each : (bs : List Bool) → every bs ≡ true → Each bs
each bs h = (each_after true bs h).1

every-after : (a : Bool) (bs : List Bool) → a ≡ true → Each bs → every_after a bs ≡ true
every-after a [] h e = h
every-after a (b ∷ bs) h e = every-after (a && b) bs (rw (h, e.0)) e.1

pub every_of : (bs : List Bool) → Each bs → every bs ≡ true
every_of bs e = every-after true bs refl e

-- ---- zeros

pub zeros-zero : (n : ℕ) → all_zero (zeros n) ≡ true
zeros-zero n = all_true _ _ (λ i h. eq-eqb _ _ (get_or-replicate n i 0 0 (omega (arith, length-replicate {A = ℕ} n 0))))

-- the test as a fold over the bytes
all_zero-take : (xs : List ℕ) (i : ℕ) → i ≤ length xs → fold (λ (good : Bool) (x : ℕ). good && eqb x 0) true (take i xs) ≡ all i (λ k. eqb (get_or xs k 0) 0)
unfolding all
all_zero-take xs zero h = refl
all_zero-take xs (suc i) h =
    let l : i < length xs = omega arith in
    rw (take-suc xs i 0, fold-append, all_zero-take xs i (omega arith))

pub all_zero-fold : (xs : List ℕ) → fold (λ (good : Bool) (x : ℕ). good && eqb x 0) true xs ≡ all_zero xs
all_zero-fold xs = rw (take_all (length xs) xs (omega arith)) at (all_zero-take xs (length xs) (omega arith))

-- ---- same: lists that are the same are equal, and a list is the same as itself

pub same-eq : (xs ys : List ℕ) → same xs ys ≡ true → xs ≡ ys
unfolding same
same-eq [] [] h = refl
same-eq [] (y ∷ ys) h = cc
same-eq (x ∷ xs) [] h = cc
same-eq (x ∷ xs) (y ∷ ys) h =
    let e : x ≡ y = eqb-true x y (and_left (eqb x y) (same xs ys) h) in
    let f : xs ≡ ys = same-eq xs ys (and_right (eqb x y) (same xs ys) h) in
    cc

pub same_refl : (xs : List ℕ) → same xs xs ≡ true
unfolding same
same_refl [] = refl
same_refl (x ∷ xs) = rw (eq-eqb x x refl) (same_refl xs)

pub same-lengths : (xs ys : List ℕ) → (length xs ≡ length ys → ⊥) → same xs ys ≡ false
unfolding same
same-lengths [] [] h = absurd (h refl)
same-lengths [] (y ∷ ys) h = refl
same-lengths (x ∷ xs) [] h = refl
same-lengths (x ∷ xs) (y ∷ ys) h = rw (same-lengths xs ys (λ e. h (ap suc e)), and-false)

-- as the library compares slices
pub same-pointwise : (xs ys : List ℕ) → pointwise eqb xs ys ≡ same xs ys
unfolding same
same-pointwise [] [] = refl
same-pointwise [] (y ∷ ys) = refl
same-pointwise (x ∷ xs) [] = refl
same-pointwise (x ∷ xs) (y ∷ ys) = rw (same-pointwise xs ys)

-- a loop's turn: byte i is the same, or differs
module _ (xs ys : List ℕ) (i : ℕ) (hx : i < length xs) (hy : i < length ys) where
  pub same_step : get_or xs i 0 ≡ get_or ys i 0 → same (drop i xs) (drop i ys) ≡ same (drop (i + 1) xs) (drop (i + 1) ys)
  unfolding same
  same_step e = rw (drop-cons xs i 0, drop-cons ys i 0, eq-eqb (get_or xs i 0) (get_or ys i 0) e, add-one)

  pub same-differ : (get_or xs i 0 ≡ get_or ys i 0 → ⊥) → same (drop i xs) (drop i ys) ≡ false
  unfolding same
  same-differ e = rw (drop-cons xs i 0, drop-cons ys i 0, ne_eqb (get_or xs i 0) (get_or ys i 0) e)
