-- Spaces at the ends of a description, and the directive behind it. Assumes nothing.
use Prim.Native.Nat.{ℕ, zero, suc, ◌+◌, ◌≤◌}
use mathlib.Core.Path.{◌≡◌, sym, ap}
use mathlib.Core.Bool.{true}
use mathlib.Core.List.{List, [], ◌∷◌, ◌++◌}
use native.Mathlib.Nat.{zero-add, suc-add}
use native.Mathlib.Omega.{arith}
use lib.ListN.{length, drop, get_or}
use lib.Dec.{eqb}
use borrow.Author.Tests.{eq-eqb, ne_eqb}
use Rattle.words.proofs.Tests.{by_cases}
use Rattle.text.specs.Text.{space}
use Rattle.lines.specs.Words.{hash}
use Rattle.lines.specs.Line.{leading, trimmed, directive_at, is_directive, until_directive}
use Rattle.returning.proofs.Free.{Free, free-head}

-- ---- spaces at the front

-- they end where something begins that has none there
pub leading-ends : (xs ys : List ℕ) → leading ys ≡ 0 → leading (xs ++ ys) ≤ length xs
unfolding leading
leading-ends [] ys h = omega arith
leading-ends (x ∷ xs) ys h =
    by_cases (eqb x space)
    (λ e. rw e (omega (arith, leading-ends xs ys h)))
    (λ e. rw e (omega arith))

pub leading-none : (x : ℕ) (xs : List ℕ) → (x ≡ space → ⊥) → leading (x ∷ xs) ≡ 0
unfolding leading
leading-none x xs h = rw (ne_eqb x space h)

-- ---- spaces at the end

pub trimmed-le : (n : ℕ) (xs : List ℕ) → trimmed n xs ≤ n
unfolding trimmed
trimmed-le zero xs = omega arith
trimmed-le (suc n) xs =
    by_cases (eqb (get_or xs n 0) space)
    (λ e. rw e (omega (arith, trimmed-le n xs)))
    (λ e. rw e (omega arith))

pub trimmed-space : (n : ℕ) (xs : List ℕ) → get_or xs n 0 ≡ space → trimmed (suc n) xs ≡ trimmed n xs
unfolding trimmed
trimmed-space n xs h = rw (eq-eqb (get_or xs n 0) space h)

pub trimmed-none : (n : ℕ) (xs : List ℕ) → (get_or xs n 0 ≡ space → ⊥) → trimmed (suc n) xs ≡ suc n
unfolding trimmed
trimmed-none n xs h = rw (ne_eqb (get_or xs n 0) space h)

-- ---- a directive that stands behind xs is found, or one before it

pub record Found (m : ℕ) (ys : List ℕ) : Type 0 where
  pub low : until_directive ys ≤ m
  pub there : is_directive (directive_at (drop (until_directive ys) ys)) ≡ true

found_here : (ds : List ℕ) → is_directive (directive_at ds) ≡ true → Found 0 ds
unfolding until_directive
found_here [] h = absurd (let z : ◌≡◌ {A = ℕ} 0 1 = cc in omega arith)
found_here (d ∷ ds) h = record { low = rw h (omega arith); there = rw h h }

pub found : (xs ds : List ℕ) → is_directive (directive_at ds) ≡ true → Found (length xs) (xs ++ ds)
unfolding until_directive
found [] ds h = found_here ds h
found (x ∷ xs) ds h =
    let r = found xs ds h in
    by_cases (is_directive (directive_at (x ∷ (xs ++ ds))))
    (λ e. record { low = rw e (omega arith); there = rw e e })
    (λ e. record { low = rw e (omega (arith, r.low)); there = rw e r.there })

-- where there is no # there is none
pub until-free : (xs ys : List ℕ) → Free hash xs → until_directive (xs ++ ys) ≡ length xs + until_directive ys
unfolding until_directive
until-free [] ys h = sym (zero-add (until_directive ys))
until-free (x ∷ xs) ys h =
    let t = free-head hash x xs h in
    rw (t.0, suc-add) (ap suc (until-free xs ys t.1))

pub until-le : (ys : List ℕ) → until_directive ys ≤ length ys
unfolding until_directive
until-le [] = omega arith
until-le (y ∷ ys) =
    by_cases (is_directive (directive_at (y ∷ ys)))
    (λ e. rw e (omega arith))
    (λ e. rw e (omega (arith, until-le ys)))
