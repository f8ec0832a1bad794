-- What is shown: with what the ids hold in the end it is all that was drawn, and it does not depend on what the draws are. Assumes nothing.
use mathlib.Core.Path.{◌≡◌, refl, sym, ap, ◌∙◌}
use mathlib.Core.List.Permᴰ
use mathlib.Core.List.{List, [], ◌∷◌, ◌++◌, map, Permᴰ}
use Prim.Native.Nat.{ℕ, zero, suc, pred, ◌+◌, ◌<◌}
use native.Mathlib.Nat.{le_of_suc-le-suc, not-suc-le-zero, suc_inj, suc-ne-zero, zero-add}
use native.Mathlib.Omega.{arith}
use lib.ListN.{length, get_or, set, length-set, length-map}
use lib.Seq.{take_at, drop_at}
use Rattle.draws.specs.Draws.{AllGood, shown, leaves_shown, from, indices}
use Rattle.draws.proofs.Numbers.{length_from, from-append, map-append, get_d_map, self-map}

-- the positions in the end
unfoldable pub held : List ℕ → List ℕ → List ℕ → List ℕ
held p [] xs = p
held p (u ∷ us) [] = p
held p (u ∷ us) (x ∷ xs) = held (set p (pred u) x) us xs

-- ---- nothing is lost

swap-in : (p : List ℕ) (i x : ℕ) (xs : List ℕ) → i < length p → Permᴰ (get_or p i 0 ∷ (set p i x ++ xs)) (p ++ (x ∷ xs))
swap-in [] i x xs h = absurd (not-suc-le-zero h)
swap-in (y ∷ p) zero x xs h = Permᴰ.cons refl (Permᴰ.symm (Permᴰ.middle x p xs))
swap-in (y ∷ p) (suc i) x xs h = Permᴰ.trans (Permᴰ.swap refl refl) (Permᴰ.cons refl (swap-in p i x xs (le_of_suc-le-suc h)))

pub conserve : (p us xs : List ℕ) → length xs ≡ length us → AllGood (length p) us → Permᴰ (shown p us xs ++ held p us xs) (p ++ xs)
unfolding shown held
conserve p [] [] e g = Permᴰ.symm (Permᴰ.append-nil p)
conserve p [] (x ∷ xs) e g = absurd (suc-ne-zero _ e)
conserve p (u ∷ us) [] e g = absurd (suc-ne-zero _ (sym e))
conserve p (u ∷ us) (x ∷ xs) e g =
    Permᴰ.trans (Permᴰ.cons refl (conserve (set p (pred u) x) us xs (suc_inj e) (rw (length-set) g.2)))
    (swap-in p (pred u) x xs (omega arith))

pub length-shown : (p us xs : List ℕ) → length xs ≡ length us → length (shown p us xs) ≡ length us
unfolding shown
length-shown p [] xs e = refl
length-shown p (u ∷ us) [] e = absurd (suc-ne-zero _ (sym e))
length-shown p (u ∷ us) (x ∷ xs) e = ap suc (length-shown (set p (pred u) x) us xs (suc_inj e))

-- ---- other draws in the same places are shown in the same places

set-map : (f : ℕ → ℕ) (p : List ℕ) (i x : ℕ) → set (map f p) i (f x) ≡ map f (set p i x)
set-map f [] i x = refl
set-map f (y ∷ p) zero x = refl
set-map f (y ∷ p) (suc i) x = ap (λ (r : List ℕ). f y ∷ r) (set-map f p i x)

shown-map : (f : ℕ → ℕ) (p us xs : List ℕ) → AllGood (length p) us → shown (map f p) us (map f xs) ≡ map f (shown p us xs)
unfolding shown
shown-map f p [] xs g = refl
shown-map f p (u ∷ us) [] g = refl
shown-map f p (u ∷ us) (x ∷ xs) g =
    rw (get_d_map f p (pred u) (omega arith), set-map f p (pred u) x, shown-map f (set p (pred u) x) us xs (rw length-set g.2))

-- ---- with all draws in one list

pub indices-are : (n : ℕ) (us : List ℕ) → indices n us ≡ shown (from 0 n) us (from n (length us))
unfolding indices leaves_shown
indices-are n us =
    rw (from-append 0 n (length us), zero-add n, take_at (from 0 n) (from n (length us)) n (length_from 0 n), drop_at (from 0 n) (from n (length us)) n (length_from 0 n))

pub length-indices : (n : ℕ) (us : List ℕ) → length (indices n us) ≡ length us
length-indices n us = ap length (indices-are n us) ∙ length-shown (from 0 n) us (from n (length us)) (length_from n (length us))

pub leaves_map : (f : ℕ → ℕ) (n : ℕ) (us : List ℕ) → AllGood n us → leaves_shown n us (map f (from 0 (n + length us))) ≡ map f (indices n us)
unfolding leaves_shown
leaves_map f n us g =
    let l : length (map f (from 0 n)) ≡ n = length-map (from 0 n) f ∙ length_from 0 n in
    rw (indices-are n us, from-append 0 n (length us), zero-add n, map-append f (from 0 n), take_at (map f (from 0 n)) _ n l, drop_at (map f (from 0 n)) _ n l)
    (shown-map f (from 0 n) us (from n (length us)) (rw length_from g))

-- leaf j shown is the draw whose number stands at j of `indices`
pub leaves-are : (n : ℕ) (us : List ℕ) (ds : List ℕ) → AllGood n us → length ds ≡ n + length us → leaves_shown n us ds ≡ map (λ i. get_or ds i 0) (indices n us)
leaves-are n us ds g l =
    let D : ℕ → ℕ = λ i. get_or ds i 0 in
    let self : ds ≡ map D (from 0 (n + length us)) = rw (← l) (sym (self-map ds)) in
    ap (leaves_shown n us) self ∙ leaves_map D n us g
