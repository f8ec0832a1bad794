-- The laws of `zipped`: lengths, elements, two lists one after the other, and the loop that computes it in place. Assumes nothing.
use Rattle.std.proofs.Common.{◌≡◌, ℕ, zero, suc, ◌+◌, ◌<◌, ◌≤◌, List, [], ◌∷◌, ◌++◌, length, get_or, take, drop, set, sym, refl, ap, ◌∙◌, le_of_suc-le-suc, not-suc-le-zero, arith}
use Rattle.chacha20.specs.ChaCha.{zipped}
use Rattle.chacha20.proofs.Front.{front, front_read, front-turn, front-all}

module _ (f : ℕ → ℕ → ℕ) where
  pub zipped-at : (s t : List ℕ) (i : ℕ) → i < length s → i < length t → get_or (zipped f s t) i 0 ≡ f (get_or s i 0) (get_or t i 0)
  unfolding zipped
  zipped-at [] t i h k = absurd (not-suc-le-zero h)
  zipped-at (x ∷ s) [] i h k = absurd (not-suc-le-zero k)
  zipped-at (x ∷ s) (y ∷ t) zero h k = refl
  zipped-at (x ∷ s) (y ∷ t) (suc i) h k = zipped-at s t i (le_of_suc-le-suc h) (le_of_suc-le-suc k)

  pub length-zipped : (s t : List ℕ) → length s ≤ length t → length (zipped f s t) ≡ length s
  unfolding zipped
  length-zipped [] t h = refl
  length-zipped (x ∷ s) [] h = absurd (not-suc-le-zero h)
  length-zipped (x ∷ s) (y ∷ t) h = ap suc (length-zipped s t (le_of_suc-le-suc h))

  -- what stands beyond the first list does not count
  pub zipped-enough : (s t u : List ℕ) → length s ≤ length t → zipped f s (t ++ u) ≡ zipped f s t
  unfolding zipped
  zipped-enough [] t u h = refl
  zipped-enough (x ∷ s) [] u h = absurd (not-suc-le-zero h)
  zipped-enough (x ∷ s) (y ∷ t) u h = ap (λ (l : List ℕ). f x y ∷ l) (zipped-enough s t u (le_of_suc-le-suc h))

  -- the first n, and what follows them
  pub take-zipped : (n : ℕ) (s t : List ℕ) → take n (zipped f s t) ≡ zipped f (take n s) t
  unfolding zipped
  take-zipped zero s t = refl
  take-zipped (suc n) [] t = refl
  take-zipped (suc n) (x ∷ s) [] = refl
  take-zipped (suc n) (x ∷ s) (y ∷ t) = ap (λ (l : List ℕ). f x y ∷ l) (take-zipped n s t)

  pub drop-zipped : (n : ℕ) (s t : List ℕ) → drop n (zipped f s t) ≡ zipped f (drop n s) (drop n t)
  unfolding zipped
  drop-zipped zero s t = refl
  drop-zipped (suc n) [] t = refl
  drop-zipped (suc n) (x ∷ s) [] = none (drop n s)
    where
      none : (s : List ℕ) → [] ≡ zipped f s []
      none [] = refl
      none (x ∷ s) = refl
  drop-zipped (suc n) (x ∷ s) (y ∷ t) = drop-zipped n s t

  -- the loop that computes it in place: a turn, and the end
  module _ (s t now : List ℕ) (i : ℕ) (fits : length s ≤ length t) (so : now ≡ front i (zipped f s t) s) where
    pub zipped-turn : i < length s → set now i (f (get_or now i 0) (get_or t i 0)) ≡ front (i + 1) (zipped f s t) s
    zipped-turn h =
        let z : length (zipped f s t) ≡ length s = length-zipped s t fits in
        front-turn i _ (zipped f s t) s now (omega arith) (omega arith)
        (ap (λ (v : ℕ). f v (get_or t i 0)) (front_read i (zipped f s t) s now (omega arith) so) ∙ sym (zipped-at s t i h (omega arith))) so

    pub zipped-end : length s ≤ i → now ≡ zipped f s t
    zipped-end h =
        let z : length (zipped f s t) ≡ length s = length-zipped s t fits in
        front-all i (zipped f s t) s now (omega arith) z so
