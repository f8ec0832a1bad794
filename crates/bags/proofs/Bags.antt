-- The laws of bags. Assumes nothing.
use mathlib.Core.Path.{◌≡◌, refl, sym, ap₂, ◌∙◌}
use mathlib.Core.Bool.{Bool, true, false, not, ◌&&◌}
use mathlib.Core.List.{List, [], ◌∷◌, ◌++◌, Permᴰ}
use Prim.Native.Nat.{ℕ, ◌+◌, ◌≤◌}
use native.Mathlib.Nat.{zero-add}
use native.Mathlib.Omega.{arith}
use lib.ListN.{length}
use Rattle.words.proofs.Tests.{by_cases}
use Rattle.bags.specs.Bags.{bit, cnt, those, Same, All}

pub bit_le : (b : Bool) → bit b ≤ 1
bit_le true = omega arith
bit_le false = omega arith

module _ {A : Type 0} where
  -- ---- counting

  pub cnt-append : (t : A → Bool) (xs ys : List A) → cnt t (xs ++ ys) ≡ cnt t xs + cnt t ys
  cnt-append t [] ys = sym (zero-add _)
  cnt-append t (x ∷ xs) ys = omega (arith, cnt-append t xs ys)

  pub cnt-true : (xs : List A) → cnt (λ x. true) xs ≡ length xs
  cnt-true [] = refl
  cnt-true (x ∷ xs) = omega (arith, cnt-true xs)

  pub cnt-le : (t : A → Bool) (xs : List A) → cnt t xs ≤ length xs
  cnt-le t [] = omega arith
  cnt-le t (x ∷ xs) = omega (arith, cnt-le t xs, bit_le (t x))

  pub cnt-all : (t : A → Bool) (xs : List A) → All t xs → cnt t xs ≡ length xs
  cnt-all t [] a = refl
  cnt-all t (x ∷ xs) a = rw a.0 (omega (arith, cnt-all t xs a.1))

  pub cnt-those : (s t : A → Bool) (xs : List A) → ((x : A) → s x ≡ true → t x ≡ true) → cnt s (those t xs) ≡ cnt s xs
  unfolding those
  cnt-those s t [] h = refl
  cnt-those s t (x ∷ xs) h =
      by_cases (t x) (λ e. rw e (omega (arith, cnt-those s t xs h)))
      (λ e.
      let f : s x ≡ false = by_cases (s x) (λ g. absurd (let z : ◌≡◌ {A = ℕ} 0 1 = cc (h x g) in omega arith)) (λ g. g) in
      rw (e, f) (omega (arith, cnt-those s t xs h)))

  -- each passes or fails
  pub cnt-both : (q : A → Bool) (xs : List A) → cnt (λ x. true) xs ≡ cnt q xs + cnt (λ x. not (q x)) xs
  cnt-both q [] = refl
  cnt-both q (x ∷ xs) = by_cases (q x) (λ e. rw e (omega (arith, cnt-both q xs))) (λ e. rw e (omega (arith, cnt-both q xs)))

  -- two tests together
  pub cnt-and : (q t : A → Bool) (xs : List A) → cnt (λ x. q x && t x) xs ≤ cnt q xs
  cnt-and q t [] = omega arith
  cnt-and q t (x ∷ xs) =
      by_cases (q x)
      (λ e. by_cases (t x) (λ f. rw (e, f) (omega (arith, cnt-and q t xs))) (λ f. rw (e, f) (omega (arith, cnt-and q t xs))))
      (λ e. rw e (omega (arith, cnt-and q t xs)))

  pub either : (p q : A → Bool) (xs : List A) → cnt p xs ≤ cnt q xs + cnt (λ x. p x && not (q x)) xs
  either p q [] = omega arith
  either p q (x ∷ xs) =
      by_cases (p x)
      (λ e. by_cases (q x) (λ f. rw (e, f) (omega (arith, either p q xs))) (λ f. rw (e, f) (omega (arith, either p q xs))))
      (λ e. rw e (omega (arith, either p q xs)))

  -- ---- all of a list

  pub all-imp : (s t : A → Bool) → ((x : A) → s x ≡ true → t x ≡ true) → (xs : List A) → All s xs → All t xs
  all-imp s t f [] a = tt
  all-imp s t f (x ∷ xs) a = (f x a.0, all-imp s t f xs a.1)

  -- ---- the same bag

  pub same_length : (xs ys : List A) → Same xs ys → length xs ≡ length ys
  same_length xs ys h = omega (arith, h (λ x. true), cnt-true xs, cnt-true ys)

  -- a derivation by swaps gives equal counts
  pub perm_same : {xs ys : List A} → Permᴰ xs ys → Same xs ys
  perm_same Permᴰ.nil t = refl
  perm_same (Permᴰ.cons e d) t = ap₂ (λ a n. bit (t a) + n) e (perm_same d t)
  perm_same (Permᴰ.swap e₁ e₂) t = rw (← e₁, ← e₂) (omega arith)
  perm_same (Permᴰ.trans d₁ d₂) t = perm_same d₁ t ∙ perm_same d₂ t
