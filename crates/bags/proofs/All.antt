-- What holds of all of a list: of two lists, of those that pass a test, and by counting. Assumes nothing.
use mathlib.Core.Path.{◌≡◌, refl}
use mathlib.Core.Bool.{Bool, true, not}
use mathlib.Core.List.{List, [], ◌∷◌, ◌++◌}
use native.Mathlib.Omega.{arith}
use Rattle.words.proofs.Tests.{by_cases}
use Rattle.bags.specs.Bags.{cnt, those, AllOf}

module _ {A : Type 0} where
  pub all_map : (P Q : A → Type 0) → ((x : A) → P x → Q x) → (xs : List A) → AllOf P xs → AllOf Q xs
  all_map P Q f [] a = tt
  all_map P Q f (x ∷ xs) a = (f x a.0, all_map P Q f xs a.1)

  pub all_both : (P Q : A → Type 0) (xs : List A) → AllOf P xs → AllOf Q xs → AllOf (λ x. P x × Q x) xs
  all_both P Q [] a b = tt
  all_both P Q (x ∷ xs) a b = ((a.0, b.0), all_both P Q xs a.1 b.1)

  -- ---- of two lists, one behind the other

  pub all_append : (P : A → Type 0) (xs ys : List A) → AllOf P xs → AllOf P ys → AllOf P (xs ++ ys)
  all_append P [] ys a b = b
  all_append P (x ∷ xs) ys a b = (a.0, all_append P xs ys a.1 b)

  pub all_back : (P : A → Type 0) (xs ys : List A) → AllOf P (xs ++ ys) → AllOf P ys
  all_back P [] ys a = a
  all_back P (x ∷ xs) ys a = all_back P xs ys a.1

  -- ---- of those that pass a test, and that they pass it

  pub all-those : (t : A → Bool) (P : A → Type 0) (xs : List A) → AllOf P xs → AllOf P (those t xs)
  unfolding those
  all-those t P [] a = tt
  all-those t P (x ∷ xs) a = by_cases (t x) (λ e. rw e (a.0, all-those t P xs a.1)) (λ e. rw e (all-those t P xs a.1))

  pub those-pass : (t : A → Bool) (xs : List A) → AllOf (λ x. t x ≡ true) (those t xs)
  unfolding those
  those-pass t [] = tt
  those-pass t (x ∷ xs) = by_cases (t x) (λ e. rw e (e, those-pass t xs)) (λ e. rw e (those-pass t xs))

  -- ---- by counting: none fails exactly if each passes

  pub all_pass : (p : A → Bool) (xs : List A) → cnt (λ x. not (p x)) xs ≡ 0 → AllOf (λ x. p x ≡ true) xs
  all_pass p [] h = tt
  all_pass p (x ∷ xs) h = by_cases (p x) (λ e. (e, all_pass p xs (omega (arith, rw e at h)))) (λ e. absurd (omega (arith, rw e at h)))

  pub none-fails : (p : A → Bool) (xs : List A) → AllOf (λ x. p x ≡ true) xs → cnt (λ x. not (p x)) xs ≡ 0
  none-fails p [] a = refl
  none-fails p (x ∷ xs) a = rw a.0 (omega (arith, none-fails p xs a.1))
