-- How counting the spaces goes on by one byte, at the front and at the end. Assumes nothing.
use Prim.Native.Nat.{ℕ, zero, suc, ◌+◌, ◌-◌, ◌≤◌, ◌<◌}
use mathlib.Core.Path.{◌≡◌, refl, sym, ap, ◌∙◌}
use mathlib.Core.Bool.{not}
use mathlib.Core.List.{List, [], ◌∷◌}
use native.Mathlib.Numerals.{add-one}
use native.Mathlib.Omega.{arith}
use borrow.Author.Tests.{eq-eqb, ne_eqb, eqb-true, eqb-false, lt-ltb, le-ltb}
use lib.ListN.{length, drop, get_or}
use lib.Seq.{drop-cons}
use lib.Dec.{eqb}
use Rattle.words.proofs.Tests.{below_or, by_cases}
use Rattle.std.specs.Prelude.{position, unwrap_or}
use Rattle.std.specs.List.{position_or_len}
use Rattle.text.specs.Text.{space}
use Rattle.lines.specs.Line.{leading, trimmed}

-- ---- at the front

module _ (xs : List ℕ) (i : ℕ) (h : i < length xs) where
  pub leading_step : get_or xs i 0 ≡ space → leading (drop i xs) ≡ suc (leading (drop (i + 1) xs))
  unfolding leading
  leading_step e = rw (drop-cons xs i 0, eq-eqb (get_or xs i 0) space e, add-one)

  pub leading-stop : (get_or xs i 0 ≡ space → ⊥) → leading (drop i xs) ≡ 0
  unfolding leading
  leading-stop e = rw (drop-cons xs i 0, ne_eqb (get_or xs i 0) space e)

pub leading_end : leading [] ≡ 0
unfolding leading
leading_end = refl

leading_first : (xs : List ℕ) → position_or_len (λ x. not (eqb x space)) xs ≡ leading xs
unfolding leading
leading_first [] = refl
leading_first (x ∷ xs) = by_cases (eqb x space) (λ e. rw e (omega (arith, leading_first xs))) (λ e. rw e)

pub leading-most : (xs : List ℕ) → leading xs ≤ length xs
unfolding leading
leading-most [] = omega arith
leading-most (x ∷ xs) =
    by_cases (eqb x space)
    (λ e. rw e (omega (arith, leading-most xs)))
    (λ e. rw e (omega arith))

-- as many as the library says where the first byte is that is none, or all
pub leading_position : (xs : List ℕ) → unwrap_or (position (λ x. not (eqb x space)) xs) (length xs) ≡ leading xs
leading_position xs =
    rw (leading_first xs)
    (below_or (leading xs) (length xs) (λ h. rw (lt-ltb (leading xs) (length xs) h)) (λ h. rw (le-ltb (leading xs) (length xs) h) (omega (arith, leading-most xs))))

-- ---- at the end of the first bytes, i or n of them

module _ (xs : List ℕ) (i : ℕ) (h : 0 < i) where
  last_of : i ≡ suc (i - 1)
  last_of = omega arith

  pub trimmed-step : get_or xs (i - 1) 0 ≡ space → trimmed i xs ≡ trimmed (i - 1) xs
  unfolding trimmed
  trimmed-step e = ap (λ (k : ℕ). trimmed k xs) last_of ∙ rw (eq-eqb (get_or xs (i - 1) 0) space e)

  pub trimmed-stop : (get_or xs (i - 1) 0 ≡ space → ⊥) → trimmed i xs ≡ i
  unfolding trimmed
  trimmed-stop e = ap (λ (k : ℕ). trimmed k xs) last_of ∙ rw (ne_eqb (get_or xs (i - 1) 0) space e) (sym last_of)

pub trimmed-end : (xs : List ℕ) → trimmed 0 xs ≡ 0
unfolding trimmed
trimmed-end xs = refl

pub trimmed_none : (n : ℕ) (xs : List ℕ) → ((k : ℕ) → k < n → get_or xs k 0 ≡ space) → trimmed n xs ≡ 0
unfolding trimmed
trimmed_none zero xs h = refl
trimmed_none (suc n) xs h = rw (eq-eqb (get_or xs n 0) space (h n (omega arith))) (trimmed_none n xs (λ k l. h k (omega arith)))

-- the byte at i is the last that is none
pub trimmed_last : (n i : ℕ) (xs : List ℕ) → i < n → (get_or xs i 0 ≡ space → ⊥) → ((k : ℕ) → i < k → k < n → get_or xs k 0 ≡ space) → trimmed n xs ≡ i + 1
unfolding trimmed
trimmed_last zero i xs h e r = absurd (omega arith)
trimmed_last (suc n) i xs h e r =
    by_cases (eqb i n)
    (λ t. let z = eqb-true i n t in rw (← z, ne_eqb (get_or xs i 0) space e) (omega arith))
    (λ f.
    let d : i < n = let z = eqb-false i n f in omega arith in
    rw (eq-eqb (get_or xs n 0) space (r n d (omega arith))) (trimmed_last n i xs d e (λ k l m. r k l (omega arith))))

-- ---- a byte that is there does not depend on what stands for one that is not

pub get_d-inside : (xs : List ℕ) (i a b : ℕ) → i < length xs → get_or xs i a ≡ get_or xs i b
get_d-inside [] i a b h = absurd (omega arith)
get_d-inside (x ∷ xs) zero a b h = refl
get_d-inside (x ∷ xs) (suc i) a b h = get_d-inside xs i a b (omega arith)
