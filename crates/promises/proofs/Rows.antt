-- Rows of refusals: the outcome is refused exactly by the first row that applies, and done exactly where none does. Assumes nothing.
use Rattle.std.specs.Prelude.{Err, Ok, Result}
use Prim.Native.Nat.{ℕ, zero, suc, ◌<◌}
use mathlib.Core.Path.{◌≡◌, refl, sym, ap, ◌∙◌}
use mathlib.Core.Bool.{Bool, true, false}
use mathlib.Core.List.{List, [], ◌∷◌}
use native.Mathlib.Omega.{arith}
use lib.ListN.{length, get_or}
use Rattle.words.proofs.Tests.{by_cases}
use Rattle.sizes.specs.declared.Refusal.{Refusal}
use Rattle.sizes.specs.declared.Refusal.TheVariants.{BadDesk}
use Rattle.sizes.specs.Refusals.{number_of, first_of}
use Rattle.sizes.proofs.Rows.{not-refused}
use Rattle.promises.specs.DemandOne.{First, ByRows}

abbrev at : List (Bool × Refusal) → ℕ → Bool × Refusal
at rows i = get_or rows i (false, BadDesk)

same-refusal : (p q : Refusal) → ◌≡◌ {A = Result Unit Refusal} (Err p) (Err q) → p ≡ q
same-refusal p q e = cc

first-of : (rows : List (Bool × Refusal)) (q : Refusal) → first_of rows ≡ Err q → First rows q
first-of [] q h = absurd (not-refused q (sym h))
first-of (row ∷ rows) q h =
    by_cases row.0
    (λ e.
    let f : row.1 ≡ q = same-refusal row.1 q (rw e at h) in
    record { row = 0; inside = omega arith; applies = λ i. (e i, f i); none_before = λ i l. absurd (omega arith) })
    (λ e.
    let f = first-of rows q (rw e at h) in
    record { row = suc f.row; inside = omega (arith, f.inside); applies = f.applies; none_before = before e f.row f.none_before })
  where
    before : row.0 ≡ false → (n : ℕ) → ((i : ℕ) → i < n → (at rows i).0 ≡ false) → (i : ℕ) → i < suc n → (at (row ∷ rows) i).0 ≡ false
    before e n f zero l = e
    before e n f (suc i) l = f i (omega arith)

of-first : (rows : List (Bool × Refusal)) (q : Refusal) (n : ℕ) → n < length rows → at rows n ≡ (true, q) → ((i : ℕ) → i < n → (at rows i).0 ≡ false) → first_of rows ≡ Err q
of-first [] q n l a b = absurd (omega arith)
of-first (row ∷ rows) q zero l a b = rw (ap (λ (p : Bool × Refusal). p.0) a, ap (λ (p : Bool × Refusal). p.1) a) refl
of-first (row ∷ rows) q (suc n) l a b = rw (b 0 (omega arith)) (of-first rows q n (omega arith) a (λ i h. b (suc i) (omega arith)))

none_of : (rows : List (Bool × Refusal)) → first_of rows ≡ Ok tt → (i : ℕ) → i < length rows → (at rows i).0 ≡ false
none_of [] h i l = absurd (omega arith)
none_of (row ∷ rows) h i l =
    by_cases row.0
    (λ e. absurd (not-refused row.1 (rw e at h)))
    (λ e. by e i l (none_of rows (rw e at h)))
  where
    by : row.0 ≡ false → (i : ℕ) → i < suc (length rows) → ((i : ℕ) → i < length rows → (at rows i).0 ≡ false) → (at (row ∷ rows) i).0 ≡ false
    by e zero l f = e
    by e (suc i) l f = f i (omega arith)

of_none : (rows : List (Bool × Refusal)) → ((i : ℕ) → i < length rows → (at rows i).0 ≡ false) → first_of rows ≡ Ok tt
of_none [] f = refl
of_none (row ∷ rows) f = rw (f 0 (omega arith)) (of_none rows (λ i l. f (suc i) (omega arith)))

-- rows none of which stops the store: their refusals have numbers below 9
abbrev pub LowRows : List (Bool × Refusal) → Type 0
LowRows [] = Unit {0}
LowRows (row ∷ rows) = (number_of row.1 < 9) × LowRows rows

pub low-refusal : (rows : List (Bool × Refusal)) → LowRows rows → (q : Refusal) → first_of rows ≡ Err q → number_of q < 9
low-refusal [] l q h = absurd (not-refused q (sym h))
low-refusal (row ∷ rows) l q h =
    by_cases row.0
    (λ e. let f : row.1 ≡ q = same-refusal row.1 q (rw e at h) in rw f at l.0)
    (λ e. low-refusal rows l.1 q (rw e at h))

-- an answer that is refused exactly as the outcome of the rows is, and has its number
pub reads : {A : Type 0} (rows : List (Bool × Refusal)) (answer : A) (refused : Refusal → A) (number : A → ℕ) (o : Result Unit Refusal) → o ≡ first_of rows
    → ((q : Refusal) → answer ≡ refused q → o ≡ Err q) → ((q : Refusal) → o ≡ Err q → answer ≡ refused q)
    → ((q : Refusal) → number (refused q) ≡ number_of q) → (o ≡ Ok tt → number answer ≡ 0) → ByRows rows answer refused number
reads rows answer refused number o e f g n z =
    record {
      first = λ q. ((λ h. first-of rows q (sym e ∙ f q h)), back q);
      none = ((λ h. none_of rows (sym e ∙ done o (λ q k. h q (g q k)))), λ h q k. not-refused q (sym (f q k) ∙ e ∙ of_none rows h));
      numbered = λ q k. ap number (back q k) ∙ n q;
      no_number = λ h. z (e ∙ of_none rows h);
    }
  where
    done : (o : Result Unit Refusal) → ((q : Refusal) → o ≡ Err q → ⊥) → o ≡ Ok tt
    done (Ok tt) h = refl
    done (Err q) h = absurd (h q refl)

    back : (q : Refusal) → First rows q → answer ≡ refused q
    back q k = g q (e ∙ of-first rows q k.row k.inside k.applies k.none_before)
