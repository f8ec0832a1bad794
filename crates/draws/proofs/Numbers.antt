-- Lists of numbers, each at most once: the numbers from a on, what is absent, and the table that takes one list to another. Assumes nothing.
use mathlib.Core.Path.{◌≡◌, refl, sym, ap, ◌∙◌}
use mathlib.Core.Bool.{Bool, not}
use mathlib.Core.Logic.{◌≢◌}
use mathlib.Core.List.Permᴰ
use mathlib.Core.List.{List, [], ◌∷◌, ◌++◌, map, Permᴰ}
use Prim.Native.Nat.{ℕ, zero, suc, ◌+◌, ◌≤◌, ◌<◌}
use native.Mathlib.Nat.{le_of_suc-le-suc, not-suc-le-zero, suc_inj, suc-ne-zero, zero-add, add-zero, suc-add, add-suc}
use native.Mathlib.Omega.{arith}
use lib.ListN.{length, get_or}
use lib.Dec.{eqb, ltb}
use borrow.Author.Tests.{eqb-true, eq-eqb, ne_eqb, lt-ltb}
use Rattle.words.proofs.Tests.{by_cases}
use Rattle.bags.specs.Bags.{cnt, those}
use Rattle.bags.proofs.Bags.{perm_same}
use Rattle.draws.specs.Draws.{from, times, absent, look}

-- ---- a, a + 1, ..

pub length_from : (a n : ℕ) → length (from a n) ≡ n
length_from a zero = refl
length_from a (suc n) = ap suc (length_from (suc a) n)

pub from-append : (a n m : ℕ) → from a (n + m) ≡ from a n ++ from (a + n) m
from-append a zero m = rw (zero-add, add-zero)
from-append a (suc n) m = rw (suc-add, add-suc, ← suc-add) (ap (λ (r : List ℕ). a ∷ r) (from-append (suc a) n m))

pub get_d-from : (a n i : ℕ) → i < n → get_or (from a n) i 0 ≡ a + i
get_d-from a zero i h = absurd (not-suc-le-zero h)
get_d-from a (suc n) zero h = omega arith
get_d-from a (suc n) (suc i) h = get_d-from (suc a) n i (omega arith) ∙ omega arith

-- none of them reaches a + n
pub from-below : (a n top : ℕ) → a + n ≤ top → cnt (λ k. not (ltb k top)) (from a n) ≡ 0
from-below a zero top h = refl
from-below a (suc n) top h = rw (lt-ltb a top (omega arith)) (omega (arith, from-below (suc a) n top (omega arith)))

below-absent : (k a n : ℕ) → k < a → times k (from a n) ≡ 0
below-absent k a zero h = refl
below-absent k a (suc n) h = rw (ne_eqb k a (λ e. omega arith)) (omega (arith, below-absent k (suc a) n (omega arith)))

-- ---- each number at most once

abbrev pub Once : List ℕ → Type 0
Once xs = (k : ℕ) → times k xs ≤ 1

pub from-once : (a n : ℕ) → Once (from a n)
from-once a zero k = omega arith
from-once a (suc n) k =
    by_cases (eqb k a)
    (λ e. rw e (omega (arith, below-absent k (suc a) n (omega (arith, eqb-true k a e)))))
    (λ e. rw e (omega (arith, from-once (suc a) n k)))

pub once-perm : {xs ys : List ℕ} → Permᴰ xs ys → Once ys → Once xs
once-perm d o k = rw (perm_same d (eqb k)) (o k)

times-pos : (xs : List ℕ) (j : ℕ) → j < length xs → 0 < times (get_or xs j 0) xs
times-pos [] j h = absurd (not-suc-le-zero h)
times-pos (x ∷ xs) zero h = rw (eq-eqb x x refl) (omega arith)
times-pos (x ∷ xs) (suc j) h = omega (arith, times-pos xs j (le_of_suc-le-suc h))

once-tail : (x : ℕ) (xs : List ℕ) → Once (x ∷ xs) → Once xs
once-tail x xs o k = omega (arith, o k)

once-head : (x : ℕ) (xs : List ℕ) → Once (x ∷ xs) → times x xs ≡ 0
once-head x xs o = omega (arith, rw (eq-eqb x x refl) at (o x))

-- no two places hold one number
pub once-distinct : (xs : List ℕ) → Once xs → (i j : ℕ) → i < j → j < length xs → get_or xs i 0 ≢ get_or xs j 0
once-distinct [] o i j h l = absurd (not-suc-le-zero l)
once-distinct (x ∷ xs) o i zero h l = absurd (not-suc-le-zero h)
once-distinct (x ∷ xs) o zero (suc j) h l = λ e. let p : 0 < times x xs = rw e (times-pos xs j (le_of_suc-le-suc l)) in omega (arith, once-head x xs o)
once-distinct (x ∷ xs) o (suc i) (suc j) h l = once-distinct xs (once-tail x xs o) i j (le_of_suc-le-suc h) (le_of_suc-le-suc l)

-- ---- those that pass a test, of a rearranged list

pub those-perm : (t : ℕ → Bool) {xs ys : List ℕ} → Permᴰ xs ys → Permᴰ (those t xs) (those t ys)
unfolding those
those-perm t Permᴰ.nil = Permᴰ.nil
those-perm t (Permᴰ.cons {a = x} e d) = rw (← e) (by_cases (t x) (λ q. rw q (Permᴰ.cons refl (those-perm t d))) (λ q. rw q (those-perm t d)))
those-perm t (Permᴰ.swap {a = x} {b = y} e₁ e₂) =
    rw (← e₁, ← e₂)
    (by_cases (t x)
    (λ q. by_cases (t y) (λ w. rw (q, w) (Permᴰ.swap refl refl)) (λ w. rw (q, w) (Permᴰ.refl _)))
    (λ q. by_cases (t y) (λ w. rw (q, w) (Permᴰ.refl _)) (λ w. rw (q, w) (Permᴰ.refl _))))
those-perm t (Permᴰ.trans d₁ d₂) = Permᴰ.trans (those-perm t d₁) (those-perm t d₂)

-- none are absent, all are absent
pub those-in : (ks ys : List ℕ) → ((k : ℕ) → 0 < times k ys → 0 < times k ks) → those (absent ks) ys ≡ []
unfolding those
those-in ks [] h = refl
those-in ks (y ∷ ys) h =
    let p : 0 < times y ks = h y (rw (eq-eqb y y refl) (omega arith)) in
    rw (ne_eqb (times y ks) 0 (λ e. omega arith)) (those-in ks ys (λ k g. h k (omega arith)))

pub those-out : (ks ys : List ℕ) → ((k : ℕ) → 0 < times k ys → times k ks ≡ 0) → those (absent ks) ys ≡ ys
unfolding those
those-out ks [] h = refl
those-out ks (y ∷ ys) h =
    let p : times y ks ≡ 0 = h y (rw (eq-eqb y y refl) (omega arith)) in
    rw p (ap (λ (l : List ℕ). y ∷ l) (those-out ks ys (λ k g. h k (omega arith))))

-- ---- the table that takes each of ks to what stands at its place in vs

absent-look : (k v : ℕ) (ks vs ns : List ℕ) → times k ns ≡ 0 → map (look (k ∷ ks) (v ∷ vs)) ns ≡ map (look ks vs) ns
absent-look k v ks vs [] e = refl
absent-look k v ks vs (n ∷ ns) e =
    by_cases (eqb k n)
    (λ q. absurd (omega (arith, rw q at e)))
    (λ q. rw (q, absent-look k v ks vs ns (omega (arith, rw q at e))))

pub look-map : (ks vs : List ℕ) → length ks ≡ length vs → Once ks → map (look ks vs) ks ≡ vs
look-map [] [] e o = refl
look-map [] (v ∷ vs) e o = absurd (suc-ne-zero _ (sym e))
look-map (k ∷ ks) [] e o = absurd (suc-ne-zero _ e)
look-map (k ∷ ks) (v ∷ vs) e o =
    rw (eq-eqb k k refl, absent-look k v ks vs ks (once-head k ks o), look-map ks vs (suc_inj e) (once-tail k ks o))

-- ---- mapped lists

pub map-append : (f : ℕ → ℕ) (xs ys : List ℕ) → map f (xs ++ ys) ≡ map f xs ++ map f ys
map-append f [] ys = refl
map-append f (x ∷ xs) ys = ap (λ (r : List ℕ). f x ∷ r) (map-append f xs ys)

pub get_d_map : (f : ℕ → ℕ) (xs : List ℕ) (i : ℕ) → i < length xs → get_or (map f xs) i 0 ≡ f (get_or xs i 0)
get_d_map f [] i h = absurd (not-suc-le-zero h)
get_d_map f (x ∷ xs) zero h = refl
get_d_map f (x ∷ xs) (suc i) h = get_d_map f xs i (le_of_suc-le-suc h)

map-from-suc : (f : ℕ → ℕ) (a n : ℕ) → map f (from (suc a) n) ≡ map (λ i. f (suc i)) (from a n)
map-from-suc f a zero = refl
map-from-suc f a (suc n) = ap (λ (r : List ℕ). f (suc a) ∷ r) (map-from-suc f (suc a) n)

-- a list by its numbers
pub self-map : (ds : List ℕ) → map (λ i. get_or ds i 0) (from 0 (length ds)) ≡ ds
self-map [] = refl
self-map (d ∷ ds) = ap (λ (r : List ℕ). d ∷ r) (map-from-suc (λ i. get_or (d ∷ ds) i 0) 0 (length ds) ∙ self-map ds)
