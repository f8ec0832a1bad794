-- Four blocks side by side: each of the four comes out as it would by itself. Assumes nothing.
use Rattle.std.proofs.Common.{◌≡◌, ℕ, zero, suc, ◌+◌, ◌*◌, ◌/◌, ◌<◌, List, length, get_or, sym, refl, ap, ◌∙◌, arith, length-set}
use Rattle.chacha20.specs.ChaCha.{add32, pick, put, quarter_at, columns, diagonals, inner, rounds, initial, zipped}
use Rattle.chacha20.specs.Lanes.{table, lane, swept, turned, turns, inner_four, rounds_four, spread, initial_four}
use Rattle.chacha20.proofs.Zipped.{zipped-at}
use Rattle.chacha20.proofs.Table.{length-table, table-ext, table-get_d, zipped-table}
use Rattle.chacha20.proofs.Blocks.{length-quarter_at}

-- ---- lengths

length-swept : (n : ℕ) (s : List ℕ) → length (swept n s) ≡ length s
unfolding swept
length-swept zero s = refl
length-swept (suc n) s = length-quarter_at (swept n s) n (16 + n) (32 + n) (48 + n) ∙ length-swept n s

length-turned : (n : ℕ) (t : List ℕ) (row by : ℕ) (s : List ℕ) → length (turned n t row by s) ≡ length s
unfolding turned
length-turned zero t row by s = refl
length-turned (suc n) t row by s = length-set (turned n t row by s) _ _ ∙ length-turned n t row by s

length-turns : (b d : ℕ) (s : List ℕ) → length (turns b d s) ≡ length s
unfolding turns
length-turns b d s = simp length-turned

pub length-rounds_four : (n : ℕ) (s : List ℕ) → length (rounds_four n s) ≡ length s
unfolding rounds_four inner_four
length-rounds_four zero s = refl
length-rounds_four (suc n) s = simp (length-turns, length-swept) (length-rounds_four n s)

pub length-initial_four : (key nonce : List ℕ) (n : ℕ) → length (initial_four key nonce n) ≡ 64
unfolding initial_four spread
length-initial_four key nonce n = simp length-set (length-table 64 (λ i. get_or (initial key nonce n) (i / 4) 0))

-- ---- rounds

-- on words that are written out both sides compute
inner-table : (g : ℕ → ℕ) (k : ℕ) → k < 4 → lane 4 k (inner_four (table 64 g)) ≡ inner (lane 4 k (table 64 g))
unfolding table swept turned turns inner_four inner columns diagonals quarter_at put pick
inner-table g zero h = refl
inner-table g (suc zero) h = refl
inner-table g (suc (suc zero)) h = refl
inner-table g (suc (suc (suc zero))) h = refl
inner-table g (suc (suc (suc (suc k)))) h = absurd (omega arith)

inner-lane : (s : List ℕ) (k : ℕ) → length s ≡ 64 → k < 4 → lane 4 k (inner_four s) ≡ inner (lane 4 k s)
inner-lane s k l h =
    let e : s ≡ table 64 (λ i. get_or s i 0) = table-get_d s 64 l in
    ap (λ (x : List ℕ). lane 4 k (inner_four x)) e ∙ inner-table (λ i. get_or s i 0) k h ∙ ap (λ (x : List ℕ). inner (lane 4 k x)) (sym e)

pub rounds-lane : (n : ℕ) (s : List ℕ) (k : ℕ) → length s ≡ 64 → k < 4 → lane 4 k (rounds_four n s) ≡ rounds n (lane 4 k s)
unfolding rounds rounds_four
rounds-lane zero s k l h = refl
rounds-lane (suc n) s k l h = inner-lane (rounds_four n s) k (length-rounds_four n s ∙ l) h ∙ ap inner (rounds-lane n s k l h)

-- ---- sums

pub zipped-lane : (f : ℕ → ℕ → ℕ) (s t : List ℕ) (k : ℕ) → length s ≡ 64 → length t ≡ 64 → k < 4
    → lane 4 k (zipped f s t) ≡ zipped f (lane 4 k s) (lane 4 k t)
zipped-lane f s t k l m h =
    table-ext 16 (λ w. get_or (zipped f s t) (w * 4 + k) 0) (λ w. f (get_or s (w * 4 + k) 0) (get_or t (w * 4 + k) 0))
    (λ w i. zipped-at f s t (w * 4 + k) (omega arith) (omega arith))
    ∙ sym (zipped-table f 16 (λ w. get_or s (w * 4 + k) 0) (λ w. get_or t (w * 4 + k) 0))

-- ---- the start

-- the counter of block k
abbrev pub counter : ℕ → ℕ → ℕ
counter n zero = n
counter n (suc k) = add32 n (suc k)

pub initial-lane : (key nonce : List ℕ) (n k : ℕ) → k < 4 → lane 4 k (initial_four key nonce n) ≡ initial key nonce (counter n k)
unfolding table initial_four spread initial
initial-lane key nonce n zero h = refl
initial-lane key nonce n (suc zero) h = refl
initial-lane key nonce n (suc (suc zero)) h = refl
initial-lane key nonce n (suc (suc (suc zero))) h = refl
initial-lane key nonce n (suc (suc (suc (suc k)))) h = absurd (omega arith)
