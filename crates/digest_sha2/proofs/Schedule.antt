-- The laws of the schedule (6.2.2 step 1): words read from a block, the next word, and what the whole schedule is word by word.
-- Assumes nothing.
use Rattle.std.proofs.Common.{◌≡◌, ℕ, zero, suc, ◌+◌, ◌-◌, ◌*◌, ◌<◌, ◌≤◌, List, [], ◌∷◌, ◌++◌, length, get_or, take, set, sym, ap, ◌∙◌, add-zero, add-suc, zero-add, add-one, arith, length-append, length-take-le, take_all, get_or-take, take-suc-set}
use lib.Seq.{get_or_at, take-append-le}
use Rattle.words.specs.Numbers.{big_number}
use Rattle.digest_sha2.specs.Sha2.{Sha2, words_of, next, extend, plus}
use Rattle.digest_sha2.specs.Turns.{Follows}

-- ---- lists that agree on their first words

-- a store right behind the first t words
take_put : (w : List ℕ) (t x : ℕ) → t < length w → take (t + 1) (set w t x) ≡ take t w ++ (x ∷ [])
take_put w t x h = rw (add-one, take-suc-set)

pub same_word : (xs ys : List ℕ) (n i : ℕ) → i < n → take n xs ≡ take n ys → get_or xs i 0 ≡ get_or ys i 0
same_word xs ys n i h p = sym (get_or-take n xs i 0 h) ∙ ap (λ (l : List ℕ). get_or l i 0) p ∙ get_or-take n ys i 0 h

-- ---- the words of a block

pub words_more : (n : ℕ) (b w : List ℕ) (t x : ℕ) → t < length w → take t w ≡ words_of n t b → x ≡ big_number n b (n * t) → take (t + 1) (set w t x) ≡ words_of n (t + 1) b
unfolding words_of
words_more n b w t x h p q = rw (take_put w t x h, add-one, p, q)

-- ---- the next word

next_is : (v : Sha2) (ws : List ℕ) (t : ℕ) → 16 ≤ t → t ≤ length ws → plus v.bits
    (plus v.bits (plus v.bits (v.σ₁ (get_or ws (t - 2) 0)) (get_or ws (t - 7) 0)) (v.σ₀ (get_or ws (t - 15) 0)))
    (get_or ws (t - 16) 0) ≡ next v (take t ws)
unfolding next
next_is v ws t h l =
    rw (length-take-le t ws l, get_or-take t ws (t - 2) 0 (omega arith), get_or-take t ws (t - 7) 0 (omega arith), get_or-take t ws (t - 15) 0 (omega arith), get_or-take t ws (t - 16) 0 (omega arith))

-- step by step, as the code adds it up
pub next-by : (v : Sha2) (ws : List ℕ) (t : ℕ) → 16 ≤ t → t ≤ length ws → {s₁ x₁ s₀ x₂ x₃ : ℕ} → s₁ ≡ v.σ₁ (get_or ws (t - 2) 0)
    → x₁ ≡ plus v.bits s₁ (get_or ws (t - 7) 0) → s₀ ≡ v.σ₀ (get_or ws (t - 15) 0) → x₂ ≡ plus v.bits x₁ s₀
    → x₃ ≡ plus v.bits x₂ (get_or ws (t - 16) 0) → x₃ ≡ next v (take t ws)
next-by v ws t h l p₁ p₂ p₃ p₄ p₅ = cc (next_is v ws t h l)

-- ---- the whole schedule

pub length-extend : (v : Sha2) (k : ℕ) (m : List ℕ) → length (extend v k m) ≡ length m + k
unfolding extend
length-extend v zero m = sym (add-zero (length m))
length-extend v (suc k) m = length-append (extend v k m) (next v (extend v k m) ∷ []) ∙ rw (length-extend v k m, add-one, add-suc)

-- its beginning
extend-take : (v : Sha2) (m : List ℕ) (i d : ℕ) → take (length m + i) (extend v (i + d) m) ≡ extend v i m
unfolding extend
extend-take v m i zero = rw add-zero (take_all (length m + i) (extend v i m) (omega (arith, length-extend v i m)))
extend-take v m i (suc d) =
    let l : length m + i ≤ length (extend v (i + d) m) = omega (arith, length-extend v (i + d) m) in
    rw add-suc (take-append-le (length m + i) (extend v (i + d) m) (next v (extend v (i + d) m) ∷ []) l ∙ extend-take v m i d)

pub extend-first : (v : Sha2) (k : ℕ) (m : List ℕ) → take (length m) (extend v k m) ≡ m
unfolding extend
extend-first v k m = rw (add-zero, zero-add) at (extend-take v m 0 k)

extend-at : (v : Sha2) (m : List ℕ) (i d : ℕ) → get_or (extend v (suc i + d) m) (length m + i) 0 ≡ next v (extend v i m)
unfolding extend
extend-at v m i d =
    let j = length m + i in
    let ws = extend v (suc i + d) m in
    let e : length m + suc i ≡ suc j = omega arith in
    sym (get_or-take (suc j) ws j 0 (omega arith)) ∙ ap (λ (l : List ℕ). get_or l j 0) (rw e at (extend-take v m (suc i) d))
    ∙ get_or_at (extend v i m) (next v (extend v i m)) [] 0 j (length-extend v i m)

pub follows : (v : Sha2) (k : ℕ) (m : List ℕ) → length m ≡ 16 → 16 + k ≡ v.rounds → Follows v (extend v k m)
follows v k m l r = record { long = length-extend v k m ∙ rw l r; word = λ i h b. word i h b }
  where
    word : (i : ℕ) → 16 ≤ i → i < v.rounds → get_or (extend v k m) i 0 ≡ next v (take i (extend v k m))
    word i h b =
        let j = i - 16 in
        let d = k - suc j in
        let e₁ : suc j + d ≡ k = omega arith in
        let e₂ : j + suc d ≡ k = omega arith in
        let e₃ : length m + j ≡ i = omega arith in
        (rw (e₁, e₃) at (extend-at v m j d)) ∙ ap (next v) (sym (rw (e₂, e₃) at (extend-take v m j (suc d))))
