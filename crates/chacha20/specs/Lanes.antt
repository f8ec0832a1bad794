-- Four blocks side by side: sixty-four words, word w of block k at 4w + k, so that the same step on all four stands together. The rows
-- of the state, four words of each block, are sixteen words long. Assumes nothing.
use Rattle.std.specs.Prelude.{ℕ, zero, suc, ◌+◌, ◌*◌, ◌/◌, ◌%◌, List, [], ◌∷◌, ◌++◌, slice_index, slice_set}
use Rattle.chacha20.specs.ChaCha.{add32, quarter_at, initial, serialize}

-- f 0, f 1, and on to f (n - 1)
unfoldable pub table : ℕ → (ℕ → ℕ) → List ℕ
table zero f = []
table (suc n) f = f 0 ∷ table n (λ i. f (suc i))

-- the sixteen words of block k, where `step` blocks stand side by side
abbrev pub lane : ℕ → ℕ → List ℕ → List ℕ
lane step k s = table 16 (λ w. slice_index s (w * step + k))

-- quarter rounds down the first n places of the four rows
unfoldable pub swept : ℕ → List ℕ → List ℕ
swept zero s = s
swept (suc i) s = quarter_at (swept i s) i (16 + i) (32 + i) (48 + i)

-- the first n words of the row that begins at `row` taken from `by` places further round it, as t has them
unfoldable pub turned : ℕ → List ℕ → ℕ → ℕ → List ℕ → List ℕ
turned zero t row by s = s
turned (suc i) t row by s = slice_set (turned i t row by s) (row + i) (slice_index t (row + (i + by) % 16))

abbrev pub turn : ℕ → ℕ → List ℕ → List ℕ
turn row by s = turned 16 s row by s

-- the rows turned, so that what stood on a diagonal stands in a column; with b and d changed round, turned back
unfoldable pub turns : ℕ → ℕ → List ℕ → List ℕ
turns b d s = turn 48 d (turn 32 8 (turn 16 b s))

-- a column round and a diagonal round of all four, and n times both
unfoldable pub inner_four : List ℕ → List ℕ
inner_four s = turns 12 4 (swept 16 (turns 4 12 (swept 16 s)))

unfoldable pub rounds_four : ℕ → List ℕ → List ℕ
rounds_four zero s = s
rounds_four (suc n) s = inner_four (rounds_four n s)

-- the four at the start: they differ in the block counter alone
unfoldable pub spread : List ℕ → List ℕ
spread s = table 64 (λ i. slice_index s (i / 4))

unfoldable pub initial_four : List ℕ → List ℕ → ℕ → List ℕ
initial_four key nonce n = slice_set (slice_set (slice_set (spread (initial key nonce n)) 49 (add32 n 1)) 50 (add32 n 2)) 51 (add32 n 3)

-- the bytes of the four, one after another, and of one more
unfoldable pub bytes_of_five : List ℕ → List ℕ → List ℕ
bytes_of_five u p =
    serialize (lane 4 0 u) ++ (serialize (lane 4 1 u) ++ (serialize (lane 4 2 u) ++ (serialize (lane 4 3 u) ++ serialize (lane 1 0 p))))
