-- What a line was found to have: a word at its front, and numbers from a place on, with what stands after them. Assumes nothing.
use Prim.Native.Nat.{ℕ, ◌+◌, ◌-◌, ◌≤◌}
use mathlib.Core.Path.{◌≡◌, refl, sym, ap, subst, ◌∙◌}
use mathlib.Core.Bool.{Bool, true, false, cond}
use mathlib.Core.List.{List, [], ◌∷◌}
use native.Mathlib.Omega.{arith}
use borrow.Author.Tests.{eq-eqb, ne_eqb, eqb-true}
use lib.ListN.{length, take, drop, length-take, length-drop}
use lib.Seq.{drop-drop}
use lib.Dec.{eqb}
use Rattle.std.proofs.lemmas.Cmp.{nat_eq_equiv}
use Rattle.std.specs.List.{starts_with}
use lib.Pointwise.{pointwise}
use Rattle.words.specs.Bytes.{part, splice, same}
use Rattle.words.proofs.Splice.{part-tail, splice-whole}
use Rattle.words.proofs.Tests.{same-eq}
use Rattle.std.specs.Prelude.{Option, Some, None}
use Rattle.text.specs.Fronts.{begins, values, values_len, are_there, taken_of, Inside}

-- ---- the word

-- what the library's starts_with says of two lists of numbers
same-pointwise : (ws xs : List ℕ) → pointwise eqb ws xs ≡ same xs ws
unfolding same
same-pointwise [] [] = refl
same-pointwise [] (x ∷ xs) = refl
same-pointwise (w ∷ ws) [] = refl
same-pointwise (w ∷ ws) (x ∷ xs) = rw (nat_eq_equiv.symm w x, same-pointwise ws xs)

pub starts-begins : (xs word : List ℕ) → starts_with eqb xs word ≡ begins xs word
starts-begins xs word = same-pointwise word (take (length word) xs)

-- and its strip_prefix, and ==
pub same-lists : (xs ys : List ℕ) → pointwise eqb xs ys ≡ same xs ys
unfolding same
same-lists [] [] = refl
same-lists [] (y ∷ ys) = refl
same-lists (x ∷ xs) [] = refl
same-lists (x ∷ xs) (y ∷ ys) = rw (same-lists xs ys)

pub strips-begins : (xs word : List ℕ) → pointwise eqb (take (length word) xs) word ≡ begins xs word
strips-begins xs word = same-lists (take (length word) xs) word

pub same-as : (xs word ys : List ℕ) → ys ≡ word → same xs word ≡ pointwise eqb xs ys
same-as xs word ys e = rw e (sym (same-lists xs word))

pub begins-length : (xs word : List ℕ) → begins xs word ≡ true → length word ≤ length xs
begins-length xs word e = omega (arith, length-take (length word) xs, ap length (same-eq (take (length word) xs) word e))

-- ---- the numbers

all-is : (t : Bool) (m k : ℕ) → cond t (Some m) None ≡ Some k → (t ≡ true) × (m ≡ k)
all-is true m k e = (refl, cc)
all-is false m k e = absurd (let z : ◌≡◌ {A = ℕ} 0 1 = cc in omega arith)

bad-is : (t : Bool) (m : ℕ) → cond t (Some m) None ≡ None → t ≡ false
bad-is true m e = absurd (let z : ◌≡◌ {A = ℕ} 0 1 = cc in omega arith)
bad-is false m e = refl

-- all n numbers of a line from `at` on, in k bytes
pub record Found (n : ℕ) (xs : List ℕ) (at k : ℕ) : Type 0 where
  pub there : are_there n (drop at xs) ≡ true
  pub len : values_len n (drop at xs) ≡ k
  pub fits : at + k ≤ length xs

module _ (n : ℕ) (xs : List ℕ) (at : ℕ) (h : at ≤ length xs) where
  pub whole : part xs at (length xs - at) ≡ drop at xs
  whole = part-tail xs at (length xs - at) (omega arith)

  pub found : (r : Option ℕ) (k : ℕ) → (r ≡ taken_of n (part xs at (length xs - at))) × Inside r (length (part xs at (length xs - at))) → r ≡ Some k → Found n xs at k
  found r k e f =
      let p = all-is (are_there n (drop at xs)) (values_len n (drop at xs)) k (ap (taken_of n) (sym whole) ∙ sym e.0 ∙ f) in
      let i : k ≤ length (part xs at (length xs - at)) = subst (λ (x : Option ℕ). Inside x (length (part xs at (length xs - at)))) f e.1 in
      record { there = p.0; len = p.1; fits = omega (arith, ap length whole, length-drop at xs) }

  pub lost : (r : Option ℕ) → r ≡ taken_of n (part xs at (length xs - at)) → r ≡ None → are_there n (drop at xs) ≡ false
  lost r e f = bad-is (are_there n (drop at xs)) (values_len n (drop at xs)) (ap (taken_of n) (sym whole) ∙ sym e ∙ f)

  -- they fill a list of n
  pub found-are : (k : ℕ) → Found n xs at k → (zs out : List ℕ) → length zs ≡ n → out ≡ splice zs 0 (values n (part xs at (length xs - at))) → out ≡ values n (drop at xs)
  found-are k f zs out l e =
      e ∙ ap (λ (x : List ℕ). splice zs 0 (values n x)) whole
      ∙ splice-whole zs (values n (drop at xs)) (eqb-true _ n f.there ∙ sym l)

-- ---- what stands after them, as the code and as the definition take it

module _ (n : ℕ) (xs : List ℕ) (at k : ℕ) (f : Found n xs at k) where
  pub rest-is : part xs (at + k) (length xs - (at + k)) ≡ drop (values_len n (drop at xs)) (drop at xs)
  rest-is = part-tail xs (at + k) (length xs - (at + k)) (omega arith) ∙ sym (drop-drop k at xs) ∙ ap (λ (j : ℕ). drop j (drop at xs)) (sym f.len)

  rest-length : length (drop (values_len n (drop at xs)) (drop at xs)) ≡ length xs - (at + k)
  rest-length = omega (arith, length-drop (values_len n (drop at xs)) (drop at xs), length-drop at xs, f.len, f.fits)

  pub text-place : length xs - (length xs - (at + k) - 1) ≡ length xs - length (drop 1 (drop (values_len n (drop at xs)) (drop at xs)))
  text-place = omega (arith, length-drop 1 (drop (values_len n (drop at xs)) (drop at xs)), rest-length)

  abbrev rest_length : ℕ
  rest_length = length (drop (values_len n (drop at xs)) (drop at xs))

  pub nothing_left : at + k ≡ length xs → eqb rest_length 0 ≡ true
  nothing_left e = let z : rest_length ≡ 0 = omega (arith, rest-length) in eq-eqb rest_length 0 z

  pub something-left : (at + k ≡ length xs → ⊥) → eqb rest_length 0 ≡ false
  something-left e = ne_eqb rest_length 0 (λ (z : rest_length ≡ 0). e (omega (arith, rest-length, f.fits)))
