-- How looking for the first directive goes on by one byte. Assumes nothing.
use Prim.Native.Nat.{ℕ, suc, ◌+◌, ◌-◌, ◌≤◌, ◌<◌}
use mathlib.Core.Path.{◌≡◌, refl, sym, ap, ◌∙◌}
use mathlib.Core.Bool.{true, false}
use mathlib.Core.List.{List, [], ◌∷◌}
use native.Mathlib.Numerals.{add-one}
use native.Mathlib.Omega.{arith}
use lib.ListN.{length, drop, get_or, drop_of_length-le}
use lib.Seq.{drop-cons}
use Rattle.words.specs.Bytes.{part}
use Rattle.lines.specs.declared.Directive.{Directive}
use Rattle.std.specs.Prelude.{Option, Some, None}
use Rattle.std.specs.Option.{is_some}
use borrow.Author.Tests.{ne_eqb}
use Rattle.lines.specs.Words.{hash}
use Rattle.lines.specs.Line.{directive_at, is_directive, until_directive, cut, cut_of}
use Rattle.lines.proofs.Tails.{tail-is}

pub some-is : (d : Option Directive) → is_directive d ≡ is_some d
some-is None = refl
some-is (Some d) = refl

module _ (xs : List ℕ) (i : ℕ) (h : i < length xs) where
  until-step : is_directive (directive_at (drop i xs)) ≡ false → until_directive (drop i xs) ≡ suc (until_directive (drop (i + 1) xs))
  unfolding until_directive
  until-step e =
      let d = drop-cons xs i 0 h in
      let f : is_directive (directive_at (get_or xs i 0 ∷ drop (suc i) xs)) ≡ false = ap (λ (l : List ℕ). is_directive (directive_at l)) (sym d) ∙ e in
      ap until_directive d ∙ rw (f, add-one)

  until_stop : is_directive (directive_at (drop i xs)) ≡ true → until_directive (drop i xs) ≡ 0
  unfolding until_directive
  until_stop e =
      let d = drop-cons xs i 0 h in
      let f : is_directive (directive_at (get_or xs i 0 ∷ drop (suc i) xs)) ≡ true = ap (λ (l : List ℕ). is_directive (directive_at l)) (sym d) ∙ e in
      ap until_directive d ∙ rw f

until_end : until_directive [] ≡ 0
unfolding until_directive
until_end = refl

-- ---- the loop: i bytes are passed

pub record Passed (xs : List ℕ) (i : ℕ) : Type 0 where
  pub inside : i ≤ length xs
  pub so_far : until_directive xs ≡ i + until_directive (drop i xs)

pub begun : (xs : List ℕ) → Passed xs 0
begun xs = record { inside = omega arith; so_far = omega arith }

here : (xs : List ℕ) (i : ℕ) → until_directive xs ≡ i → cut i (directive_at (drop i xs)) ≡ cut_of xs
here xs i e = ap (λ (n : ℕ). cut n (directive_at (drop n xs))) (sym e)

-- the directive at place i is d
module _ (xs : List ℕ) (i : ℕ) (p : Passed xs i) (h : i < length xs) (d : Option Directive) (e : d ≡ directive_at (part xs i (length xs - i))) where
  at_place : d ≡ directive_at (drop i xs)
  at_place = e ∙ ap directive_at (tail-is xs i (omega arith))

  pub turn : is_directive d ≡ false → Passed xs (i + 1)
  turn f =
      record {
        inside = omega arith;
        so_far = p.so_far ∙ ap (λ (n : ℕ). i + n) (until-step xs i h (ap is_directive (sym at_place) ∙ f)) ∙ omega arith;
      }

  pub found : is_directive d ≡ true → cut i d ≡ cut_of xs
  found f =
      let u : until_directive xs ≡ i = p.so_far ∙ ap (λ (n : ℕ). i + n) (until_stop xs i h (ap is_directive (sym at_place) ∙ f)) ∙ omega arith in
      ap (cut i) at_place ∙ here xs i u

-- a byte that is no hash begins none
pub pass : (xs : List ℕ) (i : ℕ) → Passed xs i → i < length xs → (get_or xs i 0 ≡ hash → ⊥) → Passed xs (i + 1)
pass xs i p h e =
    let none : directive_at (get_or xs i 0 ∷ drop (suc i) xs) ≡ None = rw (ne_eqb (get_or xs i 0) hash e) refl in
    turn xs i p h None (sym (ap directive_at (tail-is xs i (omega arith)) ∙ ap directive_at (drop-cons xs i 0 h) ∙ none)) refl

pub end : (xs : List ℕ) (i : ℕ) → Passed xs i → length xs ≤ i → cut i None ≡ cut_of xs
end xs i p h =
    let d : drop i xs ≡ [] = drop_of_length-le xs {i = i} h in
    let u : until_directive xs ≡ i = p.so_far ∙ ap (λ (l : List ℕ). i + until_directive l) d ∙ ap (λ (n : ℕ). i + n) until_end ∙ omega arith in
    ap (λ (l : List ℕ). cut i (directive_at l)) (sym d) ∙ here xs i u
