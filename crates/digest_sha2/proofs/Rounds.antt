-- The laws of the rounds (6.2.2 steps 2 to 4). Each says of plain variables what a function's calls say of their results.
-- Assumes nothing.
use Rattle.std.proofs.Common.{◌≡◌, ℕ, zero, suc, ◌+◌, ◌-◌, ◌<◌, List, [], ◌∷◌, length, get_or, refl, ap, ◌∙◌, arith}
use Rattle.std.proofs.lemmas.List.{ext_get_or}
use Rattle.words.specs.Bytes.{part}
use Rattle.words.proofs.Splice.{get_d_part}
use Rattle.digest_sha2.specs.Sha2.{Sha2, plus, ch, maj, round, run, add_all, words_of, extend, schedule, compress}
use Rattle.digest_sha2.specs.Turns.{Reached}
use Rattle.digest_sha2.proofs.Window.{window-start, window-turn}

-- one round, sum by sum
module _ (v : Sha2) (s : List ℕ) (k w : ℕ) where
  pub round_is : {b₁ x₁ c x₂ x₃ t₁ b₀ m t₂ a e : ℕ} → b₁ ≡ v.Σ₁ (get_or s 4 0) → x₁ ≡ plus v.bits (get_or s 7 0) b₁
      → c ≡ ch v.bits (get_or s 4 0) (get_or s 5 0) (get_or s 6 0) → x₂ ≡ plus v.bits x₁ c → x₃ ≡ plus v.bits x₂ k → t₁ ≡ plus v.bits x₃ w
      → b₀ ≡ v.Σ₀ (get_or s 0 0) → m ≡ maj (get_or s 0 0) (get_or s 1 0) (get_or s 2 0) → t₂ ≡ plus v.bits b₀ m
      → a ≡ plus v.bits t₁ t₂ → e ≡ plus v.bits (get_or s 3 0) t₁
      → a ∷ get_or s 0 0 ∷ get_or s 1 0 ∷ get_or s 2 0 ∷ e ∷ get_or s 4 0 ∷ get_or s 5 0 ∷ get_or s 6 0 ∷ [] ≡ round v s k w
  unfolding round
  round_is p₁ p₂ p₃ p₄ p₅ p₆ p₇ p₈ p₉ q₁ q₂ = cc

-- one round more: round i of a turn, with the turn's constants in ks and its words in w
pub run_more : (v : Sha2) (ks w ws s₀ s r : List ℕ) (t i : ℕ) → i < 16 → r ≡ round v s (get_or ks i 0) (get_or w i 0) → ks ≡ part v.K t 16
    → get_or w i 0 ≡ get_or ws (t + i) 0 → s ≡ run v ws (t + i) s₀ → r ≡ run v ws (t + (i + 1)) s₀
unfolding run
run_more v ks w ws s₀ s r t i h q k e p =
    let f : get_or ks i 0 ≡ get_or v.K (t + i) 0 = ap (λ (l : List ℕ). get_or l i 0) k ∙ get_d_part v.K t 16 i h in
    let g : t + (i + 1) ≡ suc (t + i) = omega arith in
    rw g (cc)

-- the first turn, and each after the one before it
pub reached-start : (v : Sha2) (k : ℕ) (s m : List ℕ) → length m ≡ 16 → Reached v (extend v k m) s 0 0 s m
unfolding run
reached-start v k s m l = record { state = refl; words = window-start v k m l }

pub reached-turn : (v : Sha2) (ws s₀ s w : List ℕ) (t : ℕ) → Reached v ws s₀ t 16 s w → Reached v ws s₀ (t + 16) 0 s w
reached-turn v ws s₀ s w t p =
    let e : t + 16 + 0 ≡ t + 16 = omega arith in
    record { state = rw e p.state; words = window-turn ws w t p.words }

-- the sums at the end
pub add-all-is : (w : ℕ) (s t r : List ℕ) → length r ≡ 8 → ((i : ℕ) → i < 8 → get_or r i 0 ≡ plus w (get_or s i 0) (get_or t i 0)) → r ≡ add_all w s t
unfolding add_all
add-all-is w s t r l each = ext_get_or 0 r (add_all w s t) l (λ i h. at i (omega arith))
  where
    at : (i : ℕ) → i < 8 → get_or r i 0 ≡ get_or (add_all w s t) i 0
    at zero h = each 0 h
    at (suc zero) h = each 1 h
    at (suc (suc zero)) h = each 2 h
    at (suc (suc (suc zero))) h = each 3 h
    at (suc (suc (suc (suc zero)))) h = each 4 h
    at (suc (suc (suc (suc (suc zero))))) h = each 5 h
    at (suc (suc (suc (suc (suc (suc zero)))))) h = each 6 h
    at (suc (suc (suc (suc (suc (suc (suc zero))))))) h = each 7 h
    at (suc (suc (suc (suc (suc (suc (suc (suc i)))))))) h = absurd (omega arith)

pub compress-is : (v : Sha2) (s b w r t : List ℕ) → w ≡ words_of v.bytes 16 b → r ≡ run v (extend v (v.rounds - 16) w) v.rounds s
    → t ≡ add_all v.bits s r → t ≡ compress v s b
unfolding compress schedule
compress-is v s b w r t p q e = cc
