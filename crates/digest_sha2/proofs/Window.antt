-- The laws of a schedule that is kept in sixteen words, each overwritten by the one sixteen further on. Assumes nothing.
use Rattle.std.proofs.Common.{◌≡◌, ℕ, ◌+◌, ◌-◌, ◌%◌, ◌<◌, eqb, ◌≢◌, List, length, get_or, take, set, sym, ap, ◌∙◌, arith, take_all, get_or-set_other, get_or-set_same, eqb-true}
use borrow.Author.Tests.{eqb-false}
use Rattle.words.proofs.Tests.{by_cases}
use Rattle.digest_sha2.specs.Sha2.{Sha2, plus, extend}
use Rattle.digest_sha2.specs.Turns.{Follows, Window}
use Rattle.digest_sha2.proofs.Schedule.{next-by, extend-first, same_word}

-- the words of the block
pub window-start : (v : Sha2) (k : ℕ) (m : List ℕ) → length m ≡ 16 → Window (extend v k m) m 0 0
unfolding Window
window-start v k m l j h =
    let e : (0 + j) % 16 ≡ j = omega arith in
    let f : 0 + 0 + j ≡ j = omega arith in
    let p : take 16 m ≡ take 16 (extend v k m) = take_all 16 m (omega arith) ∙ sym (rw l at (extend-first v k m)) in
    rw (e, f) (same_word m (extend v k m) 16 j h p)

-- the word in its turn
pub window-word : (ws w : List ℕ) (t i : ℕ) → i < 16 → Window ws w t i → get_or w i 0 ≡ get_or ws (t + i) 0
unfolding Window
window-word ws w t i h p =
    let e : (i + 0) % 16 ≡ i = omega arith in
    let f : t + i + 0 ≡ t + i = omega arith in
    rw (e, f) at (p 0 (omega arith))

-- and the words of a turn that is not begun
pub window-begun : (ws w : List ℕ) (t : ℕ) → Window ws w t 0 → (j : ℕ) → j < 16 → get_or w j 0 ≡ get_or ws (t + j) 0
unfolding Window
window-begun ws w t p j h =
    let e : (0 + j) % 16 ≡ j = omega arith in
    let f : t + 0 + j ≡ t + j = omega arith in
    rw (e, f) at (p j h)

-- the word sixteen further on, sum by sum
pub window-next : (v : Sha2) (ws w : List ℕ) (t i : ℕ) → Follows v ws → t + i + 16 < v.rounds → i < 16 → Window ws w t i → {s₁ s₀ x₁ x₂ x₃ : ℕ}
    → s₁ ≡ v.σ₁ (get_or w ((i + 14) % 16) 0) → s₀ ≡ v.σ₀ (get_or w ((i + 1) % 16) 0) → x₁ ≡ plus v.bits s₁ (get_or w ((i + 9) % 16) 0)
    → x₂ ≡ plus v.bits x₁ s₀ → x₃ ≡ plus v.bits x₂ (get_or w i 0) → x₃ ≡ get_or ws (t + i + 16) 0
unfolding Window
window-next v ws w t i f l h p q₁ q₂ q₃ q₄ q₅ =
    let n = t + i + 16 in
    let at : (j : ℕ) → j < 16 → get_or w ((i + j) % 16) 0 ≡ get_or ws (n - (16 - j)) 0 = λ j k.
    p j k ∙ ap (λ (m : ℕ). get_or ws m 0) (omega arith) in
    let here : get_or w i 0 ≡ get_or ws (n - 16) 0 = window-word ws w t i h p ∙ ap (λ (m : ℕ). get_or ws m 0) (omega arith) in
    next-by v ws n (omega arith) (omega (arith, f.long)) (rw (at 14 (omega arith)) at q₁) (rw (at 9 (omega arith)) at q₃) (rw (at 1 (omega arith)) at q₂) q₄ (rw here at q₅)
    ∙ sym (f.word n (omega arith) l)

-- it is laid at place i
pub window-renew : (ws w : List ℕ) (t i x : ℕ) → length w ≡ 16 → i < 16 → Window ws w t i → x ≡ get_or ws (t + i + 16) 0 → Window ws (set w i x) t (i + 1)
unfolding Window
window-renew ws w t i x l h p q j k = by_cases (eqb j 15) (λ b. over (eqb-true j 15 b)) (λ b. kept (eqb-false j 15 b))
  where
    kept : j ≢ 15 → get_or (set w i x) ((i + 1 + j) % 16) 0 ≡ get_or ws (t + (i + 1) + j) 0
    kept r =
        let e : i + 1 + j ≡ i + (j + 1) = omega arith in
        let f : t + i + (j + 1) ≡ t + (i + 1) + j = omega arith in
        get_or-set_other w i ((i + 1 + j) % 16) x 0 (λ g. absurd (omega arith)) ∙ rw e (p (j + 1) (omega arith)) ∙ ap (λ (m : ℕ). get_or ws m 0) f

    over : j ≡ 15 → get_or (set w i x) ((i + 1 + j) % 16) 0 ≡ get_or ws (t + (i + 1) + j) 0
    over r =
        let e : (i + 1 + j) % 16 ≡ i = omega arith in
        let f : t + i + 16 ≡ t + (i + 1) + j = omega arith in
        rw e (get_or-set_same w i x 0 (omega arith)) ∙ q ∙ ap (λ (m : ℕ). get_or ws m 0) f

-- after sixteen the next turn begins
pub window-turn : (ws w : List ℕ) (t : ℕ) → Window ws w t 16 → Window ws w (t + 16) 0
unfolding Window
window-turn ws w t p j h =
    let e : (16 + j) % 16 ≡ (0 + j) % 16 = omega arith in
    let f : t + 16 + j ≡ t + 16 + 0 + j = omega arith in
    rw (e, f) at (p j h)
