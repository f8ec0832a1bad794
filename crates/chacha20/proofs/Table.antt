-- The laws of `table`. Assumes nothing.
use Rattle.std.proofs.Common.{◌≡◌, ℕ, zero, suc, ◌<◌, List, [], ◌∷◌, ◌++◌, length, get_or, refl, ap, le_of_suc-le-suc, not-suc-le-zero, arith}
use Rattle.chacha20.specs.ChaCha.{zipped}
use Rattle.chacha20.specs.Lanes.{table}

pub length-table : (n : ℕ) (f : ℕ → ℕ) → length (table n f) ≡ n
unfolding table
length-table zero f = refl
length-table (suc n) f = ap suc (length-table n (λ i. f (suc i)))

pub table_at : (n : ℕ) (f : ℕ → ℕ) (i : ℕ) → i < n → get_or (table n f) i 0 ≡ f i
unfolding table
table_at zero f i h = absurd (not-suc-le-zero h)
table_at (suc n) f zero h = refl
table_at (suc n) f (suc i) h = table_at n (λ i. f (suc i)) i (le_of_suc-le-suc h)

pub table-ext : (n : ℕ) (f g : ℕ → ℕ) → ((i : ℕ) → i < n → f i ≡ g i) → table n f ≡ table n g
unfolding table
table-ext zero f g h = refl
table-ext (suc n) f g h =
    let e : f 0 ≡ g 0 = h 0 (omega arith) in
    rw (e, table-ext n (λ i. f (suc i)) (λ i. g (suc i)) (λ i k. h (suc i) (omega arith)))

-- every list is the table of its elements
pub table-get_d : (s : List ℕ) (n : ℕ) → length s ≡ n → s ≡ table n (λ i. get_or s i 0)
unfolding table
table-get_d [] zero e = refl
table-get_d [] (suc n) e = absurd (omega arith)
table-get_d (x ∷ s) zero e = absurd (omega arith)
table-get_d (x ∷ s) (suc n) e = ap (λ (l : List ℕ). x ∷ l) (table-get_d s n (omega arith))

-- one more at the end
pub table_more : (n : ℕ) (f : ℕ → ℕ) → table (suc n) f ≡ table n f ++ (f n ∷ [])
unfolding table
table_more zero f = refl
table_more (suc n) f = ap (λ (l : List ℕ). f 0 ∷ l) (table_more n (λ i. f (suc i)))

pub zipped-table : (h : ℕ → ℕ → ℕ) (n : ℕ) (f g : ℕ → ℕ) → zipped h (table n f) (table n g) ≡ table n (λ i. h (f i) (g i))
unfolding table zipped
zipped-table h zero f g = refl
zipped-table h (suc n) f g = ap (λ (l : List ℕ). h (f 0) (g 0) ∷ l) (zipped-table h n (λ i. f (suc i)) (λ i. g (suc i)))
