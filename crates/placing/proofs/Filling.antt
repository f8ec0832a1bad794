-- The laws of filling buckets: nothing is lost or doubled, no bucket holds too many or what does not pass, and no other choice leaves fewer over. Assumes nothing.
use mathlib.Core.Path.{◌≡◌, refl}
use mathlib.Core.Bool.{Bool, true}
use mathlib.Core.List.{List, [], ◌∷◌, ◌++◌, append_assoc}
use Prim.Native.Nat.{ℕ, zero, suc, ◌+◌, ◌-◌, ◌≤◌, min}
use native.Mathlib.Omega.{arith}
use lib.ListN.{length, get_or, length-append}
use Rattle.words.proofs.Tests.{by_cases}
use Rattle.bags.specs.Bags.{cnt, flat, Same, All}
use Rattle.bags.proofs.Bags.{cnt-append, cnt-true, cnt-all, all-imp, same_length}
use Rattle.placing.specs.Filling.{taken, left, buckets, rest, Within}

module _ {A : Type 0} where
  -- ---- one bucket: what it takes and what stays

  pub split : (t : A → Bool) (z : ℕ) (xs : List A) (s : A → Bool) → cnt s (taken t z xs) + cnt s (left t z xs) ≡ cnt s xs
  unfolding taken left
  split t zero xs s = omega arith
  split t (suc z) [] s = refl
  split t (suc z) (x ∷ xs) s = by_cases (t x) (λ e. rw e (omega (arith, split t z xs s))) (λ e. rw e (omega (arith, split t (suc z) xs s)))

  split-length : (t : A → Bool) (z : ℕ) (xs : List A) → length (taken t z xs) + length (left t z xs) ≡ length xs
  split-length t z xs = omega (arith, split t z xs (λ x. true), cnt-true (taken t z xs), cnt-true (left t z xs), cnt-true xs)

  pub taken-all : (t : A → Bool) (z : ℕ) (xs : List A) → All t (taken t z xs)
  unfolding taken
  taken-all t zero xs = tt
  taken-all t (suc z) [] = tt
  taken-all t (suc z) (x ∷ xs) = by_cases (t x) (λ e. rw e (e, taken-all t z xs)) (λ e. rw e (taken-all t (suc z) xs))

  -- it takes as many as there are, up to z
  pub taken-length : (t : A → Bool) (z : ℕ) (xs : List A) → length (taken t z xs) ≡ min z (cnt t xs)
  unfolding taken
  taken-length t zero xs = omega arith
  taken-length t (suc z) [] = omega arith
  taken-length t (suc z) (x ∷ xs) =
      by_cases (t x) (λ e. rw e (omega (arith, taken-length t z xs))) (λ e. rw e (omega (arith, taken-length t (suc z) xs)))

  -- ---- one bucket after another

  -- nothing is lost, nothing is doubled
  pub buckets-same : (z : ℕ) (ts : List (A → Bool)) (xs : List A) → Same (flat (buckets z ts xs) ++ rest z ts xs) xs
  unfolding buckets rest
  buckets-same z [] xs s = refl
  buckets-same z (t ∷ ts) xs s =
      let ih = buckets-same z ts (left t z xs) s in
      rw (append_assoc, cnt-append) (omega (arith, split t z xs s))

  pub buckets-within : (z : ℕ) (ts : List (A → Bool)) (xs : List A) → Within z ts (buckets z ts xs)
  unfolding buckets
  buckets-within z [] xs = tt
  buckets-within z (t ∷ ts) xs = (omega (arith, taken-length t z xs), taken-all t z xs, buckets-within z ts (left t z xs))

  pub bucket-small : (z : ℕ) (ts : List (A → Bool)) (xs : List A) (i : ℕ) → length (get_or (buckets z ts xs) i []) ≤ z
  unfolding buckets
  bucket-small z [] xs i = omega arith
  bucket-small z (t ∷ ts) xs zero = omega (arith, taken-length t z xs)
  bucket-small z (t ∷ ts) xs (suc i) = bucket-small z ts (left t z xs) i

  -- ---- no other choice leaves fewer over, if what passes a bucket's test passes those of the later ones

  abbrev pub Implies : (A → Bool) → List (A → Bool) → Type 0
  Implies t [] = Unit {0}
  Implies t (s ∷ ss) = ((x : A) → t x ≡ true → s x ≡ true) × Implies t ss

  abbrev pub Nested : List (A → Bool) → Type 0
  Nested [] = Unit {0}
  Nested (t ∷ ts) = Implies t ts × Nested ts

  -- under each test there are d more in ys than in xs
  abbrev Gap : List (A → Bool) → List A → List A → ℕ → Type 0
  Gap [] ys xs d = Unit {0}
  Gap (t ∷ ts) ys xs d = (cnt t ys ≡ cnt t xs + d) × Gap ts ys xs d

  -- taking b from ys and some of xs, all of which pass every test, moves each gap alike
  gap_step : (ts : List (A → Bool)) (t : A → Bool) (z : ℕ) (b ys xs : List A) (d : ℕ) → Implies t ts → All t b → length b ≤ length (taken t z xs) + d
      → Gap ts (b ++ ys) xs d → Gap ts ys (left t z xs) (length (taken t z xs) + d - length b)
  gap_step [] t z b ys xs d i a h g = tt
  gap_step (s ∷ ts) t z b ys xs d i a h g = (
    omega (arith, h, simp cnt-append at g.0, split t z xs s, cnt-all s b (all-imp t s i.0 b a), cnt-all s (taken t z xs) (all-imp t s i.0 (taken t z xs) (taken-all t z xs))),
    gap_step ts t z b ys xs d i.1 a h g.1,
  )

  optimal-from : (z : ℕ) (ts : List (A → Bool)) → Nested ts → (xs : List A) (bs : List (List A)) (over : List A) (d : ℕ) → Within z ts bs
      → Gap ts (flat bs ++ over) xs d → length (flat bs ++ over) ≡ length xs + d → length (rest z ts xs) ≤ length over
  unfolding rest
  optimal-from z [] n xs [] over d w g l = omega arith
  optimal-from z [] n xs (b ∷ bs) over d w g l = absurd w
  optimal-from z (t ∷ ts) n xs [] over d w g l = absurd w
  optimal-from z (t ∷ ts) n xs (b ∷ bs) over d w g l =
      let g' : Gap (t ∷ ts) (b ++ (flat bs ++ over)) xs d = rw append_assoc at g in
      let h : length b ≤ length (taken t z xs) + d = omega (arith, taken-length t z xs, w.0, cnt-all t b w.1, simp cnt-append at g'.0) in
      optimal-from z ts n.1 (left t z xs) bs over (length (taken t z xs) + d - length b) w.2
      (gap_step ts t z b (flat bs ++ over) xs d n.0 w.1 h g'.1)
      (simp length-append (omega (arith, simp length-append at l, split-length t z xs, h)))

  gap_same : (ts : List (A → Bool)) (xs ys : List A) → Same ys xs → Gap ts ys xs 0
  gap_same [] xs ys s = tt
  gap_same (t ∷ ts) xs ys s = (omega (arith, s t), gap_same ts xs ys s)

  pub buckets-optimal : (z : ℕ) (ts : List (A → Bool)) → Nested ts → (xs : List A) (choice : List (List A)) (over : List A) → Within z ts choice
      → Same (flat choice ++ over) xs → length (rest z ts xs) ≤ length over
  buckets-optimal z ts n xs choice over w s =
      optimal-from z ts n xs choice over 0 w (gap_same ts xs (flat choice ++ over) s) (omega (arith, same_length (flat choice ++ over) xs s))
