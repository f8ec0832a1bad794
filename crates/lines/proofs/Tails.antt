-- What calls find in a text from a place on, as the definitions say it. Assumes nothing.
use Prim.Native.Nat.{ℕ, ◌+◌, ◌-◌, ◌≤◌, min}
use mathlib.Core.Path.{◌≡◌, sym, ap, ◌∙◌}
use mathlib.Core.Bool.{Bool, true, and-true}
use mathlib.Core.List.{List, [], ◌∷◌}
use native.Mathlib.Omega.{arith}
use borrow.Author.Tests.{eqb-true, ne_eqb, lt-ltb, le-ltb}
use lib.ListN.{length, take, drop, get_or}
use lib.Seq.{drop-drop}
use lib.Dec.{eqb}
use lib.Pointwise.{pointwise}
use Rattle.std.specs.Prelude.{Option}
use Rattle.std.specs.List.{starts_with}
use Rattle.std.proofs.lemmas.Cmp.{nat_eq_equiv}
use Rattle.words.proofs.Tests.{below_or}
use Rattle.words.specs.Bytes.{part}
use Rattle.words.proofs.Splice.{length_part, part-tail}
use Rattle.verdicts.specs.declared.Verdict.{Verdict}
use Rattle.lines.specs.declared.Directive.{Directive}
use Rattle.lines.specs.declared.Cut.{Cut}
use Rattle.lines.specs.Line.{leading, after_spaces, trimmed, directive_word, cut_of, verdict_by, hyphen_len, front_len, past_space, description_at, description_len, test, test_from}

abbrev tail : List ℕ → ℕ → List ℕ
tail xs a = part xs a (length xs - a)

pub tail-is : (xs : List ℕ) (a : ℕ) → a ≤ length xs → tail xs a ≡ drop a xs
tail-is xs a h = part-tail xs a (length xs - a) (omega arith)

pub tail-length : (xs : List ℕ) (a : ℕ) → a ≤ length xs → length (tail xs a) ≡ length xs - a
tail-length xs a h = length_part xs a (length xs - a) (omega arith)

-- a first byte that is not zero is there
pub first-there : (xs : List ℕ) (b : ℕ) → 1 ≤ b → eqb (get_or xs 0 0) b ≡ true → 1 ≤ length xs
first-there [] b h e = absurd (omega (arith, eqb-true 0 b e))
first-there (x ∷ xs) b h e = omega arith

-- whether the first byte is b, which is not zero, as the library says it of the one before b's own text and of the one behind it
pub first-is : (xs : List ℕ) (b : ℕ) → 1 ≤ b → pointwise eqb (take 1 xs) (b ∷ []) ≡ eqb (get_or xs 0 0) b
first-is [] b h = sym (ne_eqb 0 b (λ e. omega arith))
first-is (x ∷ xs) b h = and-true (eqb x b)

pub first-as : (xs : List ℕ) (b : ℕ) → 1 ≤ b → starts_with eqb xs (b ∷ []) ≡ eqb (get_or xs 0 0) b
first-as [] b h = sym (ne_eqb 0 b (λ e. omega arith))
first-as (x ∷ xs) b h = and-true (eqb b x) ∙ nat_eq_equiv.symm b x

-- ---- the word of a directive, after the # and its spaces

pub word_at : (xs : List ℕ) (n : ℕ) (d : Option Directive) → 1 ≤ length xs → (n ≡ leading (tail xs 1)) × (n ≤ length (tail xs 1)) → d ≡ directive_word (tail xs (1 + n))
    → d ≡ directive_word (after_spaces (drop 1 xs))
word_at xs n d h s w =
    let p : n ≡ leading (drop 1 xs) = s.0 ∙ ap leading (tail-is xs 1 h) in
    w ∙ ap directive_word (tail-is xs (1 + n) (omega (arith, s.1, tail-length xs 1 h)) ∙ sym (drop-drop n 1 xs))
    ∙ ap (λ (k : ℕ). directive_word (drop k (drop 1 xs))) p

-- ---- a description

-- the place behind the space, as the smaller of two
pub past-min : (at len past : ℕ) → past ≡ min (at + 1) len → at ≤ len → (past ≡ past_space at len) × (past ≤ len)
past-min at len past e h =
    below_or at len
    (λ k. (rw (lt-ltb at len k) (omega arith), omega arith))
    (λ k. (rw (le-ltb at len k) (omega arith), omega arith))

pub front-is : (xs : List ℕ) (n m : ℕ) → (n ≡ leading xs) × (n ≤ length xs) → (m ≡ hyphen_len (tail xs n)) × (m ≤ length (tail xs n))
    → (n + m ≡ front_len xs) × (n + m ≤ length xs)
front-is xs n m s g =
    let e : m ≡ hyphen_len (drop n xs) = g.0 ∙ ap hyphen_len (tail-is xs n s.1) in
    (ap (λ (k : ℕ). n + k) e ∙ ap (λ (k : ℕ). k + hyphen_len (drop k xs)) s.0, omega (arith, s.1, g.1, tail-length xs n s.1))

module _ (ok : Bool) (number at : ℕ) (xs : List ℕ) (past m : ℕ) (cut : Cut) (v : Verdict) (len : ℕ) where
  pub test-is : (past ≡ past_space at (length xs)) × (past ≤ length xs)
      → (m ≡ front_len (tail xs past)) × (m ≤ length (tail xs past))
      → (cut ≡ cut_of (tail xs (past + m))) × (cut.at ≤ length (tail xs (past + m)))
      → v ≡ verdict_by ok cut.directive
      → (len ≡ trimmed cut.at (tail xs (past + m))) × (len ≤ cut.at)
      → (test v number (past + m) len ≡ test_from ok number xs (description_at at xs)) × (past + m + len ≤ length xs)
  test-is p f d e t =
      let i : past + m ≤ length xs = omega (arith, p.1, f.1, tail-length xs past p.1) in
      let from : past + m ≡ description_at at xs =
      ap (λ (k : ℕ). past + k) (f.0 ∙ ap front_len (tail-is xs past p.1)) ∙ ap (λ (k : ℕ). k + front_len (drop k xs)) p.0 in
      let rest = tail-is xs (past + m) i in
      let c : cut ≡ cut_of (drop (past + m) xs) = d.0 ∙ ap cut_of rest in
      let w : v ≡ verdict_by ok (cut_of (drop (past + m) xs)).directive = e ∙ ap (λ (k : Cut). verdict_by ok k.directive) c in
      let l : len ≡ description_len (past + m) xs =
      t.0 ∙ ap (trimmed cut.at) rest ∙ ap (λ (k : Cut). trimmed k.at (drop (past + m) xs)) c in (
        ap (λ (k : Verdict). test k number (past + m) len) w
            ∙ ap (λ (k : ℕ). test (verdict_by ok (cut_of (drop (past + m) xs)).directive) number (past + m) k) l
            ∙ ap (test_from ok number xs) from,
        omega (arith, t.1, d.1, tail-length xs (past + m) i),
      )
