-- The laws of `serialize`: its length, words one after another, and the loop that writes the words of a table. Assumes nothing.
use Rattle.std.proofs.Common.{◌≡◌, ℕ, zero, suc, ◌+◌, ◌*◌, ◌<◌, ◌≤◌, List, [], ◌∷◌, ◌++◌, length, get_or, sym, refl, ap, ◌∙◌, append_assoc, append-nil, zero-add, mul-le-mul_right, add-one, arith, length-append}
use Rattle.words.specs.Bytes.{splice}
use Rattle.words.specs.Numbers.{bytes_of}
use Rattle.words.proofs.Splice.{splice-nil, splice-next, splice-whole}
use Rattle.words.proofs.Numbers.{length-bytes_of}
use Rattle.chacha20.specs.ChaCha.{serialize}
use Rattle.chacha20.specs.Lanes.{table, lane, bytes_of_five}
use Rattle.chacha20.proofs.Table.{length-table, table-ext, table-get_d, table_more}

pub length-serialize : (s : List ℕ) → length (serialize s) ≡ length s * 4
unfolding serialize
length-serialize [] = refl
length-serialize (w ∷ s) = length-append (bytes_of 4 w) (serialize s) ∙ rw (length-bytes_of 4 w, length-serialize s) (omega arith)

pub serialize-append : (s t : List ℕ) → serialize (s ++ t) ≡ serialize s ++ serialize t
unfolding serialize
serialize-append [] t = refl
serialize-append (w ∷ s) t = rw (serialize-append s t, append_assoc)

pub length-lane : (step k : ℕ) (s : List ℕ) → length (serialize (lane step k s)) ≡ 64
length-lane step k s = length-serialize (lane step k s) ∙ ap (λ (n : ℕ). n * 4) (length-table 16 (λ w. get_or s (w * step + k) 0))

-- one block by itself is its words as they stand
pub lane-one : (s : List ℕ) → length s ≡ 16 → lane 1 0 s ≡ s
lane-one s h =
    table-ext 16 (λ w. get_or s (w * 1 + 0) 0) (λ w. get_or s w 0) (λ i k. let e : i * 1 + 0 ≡ i = omega arith in rw e) ∙ sym (table-get_d s 16 h)

-- where the word w of a block stands, products apart
pub in_lane : (w step k : ℕ) → w < 16 → k < step → (w * step + k < 16 * step) × (w * step ≤ 15 * step)
in_lane w step k h l = let e : w * step ≤ 15 * step = mul-le-mul_right {m = w} {n = 15} step (omega arith) in (omega arith, e)

-- the loop's turn: the word w of the table is written
pub serial-turn : (f : ℕ → ℕ) (w at : ℕ) (old now : List ℕ) → at + w * 4 ≤ length old → now ≡ splice old at (serialize (table w f))
    → splice now (at + w * 4) (bytes_of 4 (f w)) ≡ splice old at (serialize (table (w + 1) f))
unfolding serialize
serial-turn f w at old now h e =
    let l : length (serialize (table w f)) ≡ w * 4 = length-serialize (table w f) ∙ ap (λ (n : ℕ). n * 4) (length-table w f) in
    let m : serialize (table (suc w) f) ≡ serialize (table w f) ++ bytes_of 4 (f w) =
    ap serialize (table_more w f) ∙ serialize-append (table w f) (f w ∷ []) ∙ rw (append-nil (bytes_of 4 (f w))) in
    ap (λ (x : List ℕ). splice x (at + w * 4) (bytes_of 4 (f w))) e
    ∙ splice-next old at (serialize (table w f)) (bytes_of 4 (f w)) (w * 4) l h ∙ rw (add-one, m)

-- the bytes of the first k of four blocks side by side, and one more laid behind them
pub laid : ℕ → List ℕ → List ℕ
laid zero u = []
laid (suc k) u = laid k u ++ serialize (lane 4 k u)

length-laid : (k : ℕ) (u : List ℕ) → length (laid k u) ≡ 64 * k
unfolding laid
length-laid zero u = refl
length-laid (suc k) u = length-append (laid k u) (serialize (lane 4 k u)) ∙ rw (length-laid k u, length-lane 4 k u) (omega arith)

pub laid-none : (z u : List ℕ) → z ≡ splice z 0 (laid 0 u)
unfolding laid
laid-none z u = sym (splice-nil z 0)

pub laid-turn : (k : ℕ) (u z now : List ℕ) → 64 * k + 64 ≤ length z → now ≡ splice z 0 (laid k u)
    → splice now (64 * k) (serialize (lane 4 k u)) ≡ splice z 0 (laid (k + 1) u)
unfolding laid
laid-turn k u z now h e =
    ap (λ (x : List ℕ). splice x (64 * k) (serialize (lane 4 k u))) e
    ∙ rw add-one (rw zero-add at (splice-next z 0 (laid k u) (serialize (lane 4 k u)) (64 * k) (length-laid k u) (omega (arith, length-lane 4 k u))))

-- and one beside them, into as much room
pub five-laid : (u p z now r : List ℕ) → length z ≡ 320 → now ≡ splice z 0 (laid 4 u) → r ≡ splice now 256 (serialize (lane 1 0 p)) → r ≡ bytes_of_five u p
unfolding laid bytes_of_five
five-laid u p z now r l e f =
    let four = laid 4 u in
    let one = serialize (lane 1 0 p) in
    let n : length four ≡ 256 = length-laid 4 u in
    let m : length one ≡ 64 = length-lane 1 0 p in
    f ∙ ap (λ (x : List ℕ). splice x 256 one) e ∙ splice-next z 0 four one 256 n (omega arith)
    ∙ splice-whole z (four ++ one) (length-append four one ∙ omega arith) ∙ simp append_assoc

-- one block laid into as much room
pub one-laid : (z s o : List ℕ) → length z ≡ 64 → length s ≡ 16 → o ≡ splice z 0 (serialize (lane 1 0 s)) → o ≡ serialize s
one-laid z s o l m e = e ∙ splice-whole z (serialize (lane 1 0 s)) (length-lane 1 0 s ∙ sym l) ∙ ap serialize (lane-one s m)
