-- Lists without a byte b in them: what stands before the first b is all of them. Assumes nothing.
use Prim.Native.Nat.{ℕ, zero, suc}
use mathlib.Core.Path.{◌≡◌, refl, ap}
use mathlib.Core.Bool.{Bool, true, false, cond}
use mathlib.Core.List.{List, [], ◌∷◌, ◌++◌}
use native.Mathlib.Omega.{arith}
use lib.ListN.{length, take, drop}
use lib.Dec.{eqb}
use Rattle.text.specs.Fronts.{before}

abbrev pub Free : ℕ → List ℕ → Type 0
Free b xs = length (before b xs) ≡ length xs

-- ---- a byte, and what follows it

pub free-head : (b x : ℕ) (xs : List ℕ) → Free b (x ∷ xs) → (eqb x b ≡ false) × Free b xs
unfolding before
free-head b x xs = go (eqb x b)
  where
    go : (t : Bool) → length (cond t [] (x ∷ before b xs)) ≡ suc (length xs) → (t ≡ false) × Free b xs
    go true h = absurd (omega (arith, h))
    go false h = (refl, omega (arith, h))

pub free-cons : (b x : ℕ) (xs : List ℕ) → eqb x b ≡ false → Free b xs → Free b (x ∷ xs)
unfolding before
free-cons b x xs e h = rw e (ap suc h)

pub free-nil : (b : ℕ) → Free b []
unfolding before
free-nil b = refl

-- ---- two lists, a front, and what follows a front

pub free-append : (b : ℕ) (xs ys : List ℕ) → Free b xs → Free b ys → Free b (xs ++ ys)
free-append b [] ys h k = k
free-append b (x ∷ xs) ys h k =
    let t = free-head b x xs h in
    free-cons b x (xs ++ ys) t.0 (free-append b xs ys t.1 k)

pub free-take : (b n : ℕ) (xs : List ℕ) → Free b xs → Free b (take n xs)
free-take b zero xs h = free-nil b
free-take b (suc n) [] h = h
free-take b (suc n) (x ∷ xs) h =
    let t = free-head b x xs h in
    free-cons b x (take n xs) t.0 (free-take b n xs t.1)

pub free-drop : (b n : ℕ) (xs : List ℕ) → Free b xs → Free b (drop n xs)
free-drop b zero xs h = h
free-drop b (suc n) [] h = h
free-drop b (suc n) (x ∷ xs) h = free-drop b n xs (free-head b x xs h).1

-- ---- what stands before the first b

pub before-free : (b : ℕ) (xs ys : List ℕ) → Free b xs → before b (xs ++ ys) ≡ xs ++ before b ys
unfolding before
before-free b [] ys h = refl
before-free b (x ∷ xs) ys h =
    let t = free-head b x xs h in
    rw t.0 (ap (λ (l : List ℕ). x ∷ l) (before-free b xs ys t.1))
