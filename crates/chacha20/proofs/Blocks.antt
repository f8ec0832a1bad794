-- The laws of `block` and `blocks`: lengths, and a run of blocks in two. Assumes nothing.
use Rattle.std.proofs.Common.{◌≡◌, ℕ, zero, suc, ◌+◌, ◌-◌, ◌*◌, ◌/◌, ◌%◌, ◌^◌, ◌<◌, ◌≤◌, List, [], ◌∷◌, ◌++◌, length, drop, sym, refl, ap, ◌∙◌, append_assoc, append-nil, add-zero, add-suc, suc-add, zero-add, arith, length-append, length-set, drop_at}
use Rattle.words.specs.Numbers.{number}
use Rattle.chacha20.specs.ChaCha.{add32, pick, put, quarter, quarter_at, columns, diagonals, inner, rounds, initial, zipped, block, blocks}
use Rattle.chacha20.specs.declared.Quad.{Quad}
use Rattle.chacha20.proofs.Zipped.{length-zipped}
use Rattle.chacha20.proofs.Serial.{length-serialize}

-- ---- lengths

length-put : (s : List ℕ) (a b c d : ℕ) (q : Quad) → length (put s a b c d q) ≡ length s
unfolding put
length-put s a b c d q = simp length-set

pub length-quarter_at : (s : List ℕ) (a b c d : ℕ) → length (quarter_at s a b c d) ≡ length s
unfolding quarter_at
length-quarter_at s a b c d = length-put s a b c d (quarter (pick s a b c d))

pub length-rounds : (n : ℕ) (s : List ℕ) → length (rounds n s) ≡ length s
unfolding rounds inner columns diagonals
length-rounds zero s = refl
length-rounds (suc n) s = simp length-quarter_at (length-rounds n s)

-- word by word
pub initial-is : (key nonce : List ℕ) {n a b c d e f g h i j k : ℕ} → a ≡ number 4 key 0 → b ≡ number 4 key 4 → c ≡ number 4 key 8 → d ≡ number 4 key 12
    → e ≡ number 4 key 16 → f ≡ number 4 key 20 → g ≡ number 4 key 24 → h ≡ number 4 key 28
    → i ≡ number 4 nonce 0 → j ≡ number 4 nonce 4 → k ≡ number 4 nonce 8
    → 0x61707865 ∷ 0x3320646e ∷ 0x79622d32 ∷ 0x6b206574 ∷ a ∷ b ∷ c ∷ d ∷ e ∷ f ∷ g ∷ h ∷ n ∷ i ∷ j ∷ k ∷ [] ≡ initial key nonce n
unfolding initial
initial-is key nonce a b c d e f g h i j k = rw (a, b, c, d, e, f, g, h, i, j, k)

pub length-initial : (key nonce : List ℕ) (n : ℕ) → length (initial key nonce n) ≡ 16
unfolding initial
length-initial key nonce n = refl

pub length-block : (key nonce : List ℕ) (n : ℕ) → length (block key nonce n) ≡ 64
unfolding block
length-block key nonce n =
    let s = initial key nonce n in
    let r : length (rounds 10 s) ≡ length s = length-rounds 10 s in
    length-serialize (zipped add32 (rounds 10 s) s)
    ∙ ap (λ (m : ℕ). m * 4) (length-zipped add32 (rounds 10 s) s (omega arith) ∙ r ∙ length-initial key nonce n)

module _ (key nonce : List ℕ) where
  pub length-blocks : (n c : ℕ) → length (blocks key nonce n c) ≡ c * 64
  unfolding blocks
  length-blocks n zero = refl
  length-blocks n (suc c) =
      length-append (block key nonce (n % 2 ^ 32)) (blocks key nonce (suc n) c) ∙ rw (length-block key nonce (n % 2 ^ 32), length-blocks (suc n) c) (omega arith)

  -- ---- runs of blocks

  -- numbers count modulo 2^32
  pub blocks-wrap : (n m c : ℕ) → n % 2 ^ 32 ≡ m % 2 ^ 32 → blocks key nonce n c ≡ blocks key nonce m c
  unfolding blocks
  blocks-wrap n m zero e = refl
  blocks-wrap n m (suc c) e = rw (e, blocks-wrap (suc n) (suc m) c (omega arith))

  pub blocks-add : (n c d : ℕ) → blocks key nonce n (c + d) ≡ blocks key nonce n c ++ blocks key nonce (n + c) d
  unfolding blocks
  blocks-add n zero d = rw (zero-add, add-zero)
  blocks-add n (suc c) d = rw (suc-add, blocks-add (suc n) c d, append_assoc, suc-add, add-suc)

  -- the run that follows the first c blocks
  pub blocks-drop : (n c d : ℕ) → drop (c * 64) (blocks key nonce n (c + d)) ≡ blocks key nonce (n + c) d
  blocks-drop n c d = rw (blocks-add n c d) (drop_at (blocks key nonce n c) (blocks key nonce (n + c) d) (c * 64) (length-blocks n c))

  -- one block is a run of one
  pub blocks-one : (n : ℕ) → n < 2 ^ 32 → blocks key nonce n 1 ≡ block key nonce n
  unfolding blocks
  blocks-one n h = let e : n % 2 ^ 32 ≡ n = omega arith in rw e (append-nil (block key nonce n))

  -- from byte `at` on a run of c blocks and five goes on with five from n on, where n is the number of the block there
  pub blocks_from : (at n c : ℕ) → at % 64 ≡ 0 → at / 64 ≤ c → n % 2 ^ 32 ≡ at / 64 % 2 ^ 32
      → drop at (blocks key nonce 0 (c + 5)) ≡ blocks key nonce n 5 ++ blocks key nonce (at / 64 + 5) (c - at / 64)
  blocks_from at n c w h e =
      let b = at / 64 in
      let d = c - at / 64 in
      let f : c + 5 ≡ b + (5 + d) = omega arith in
      let g : b * 64 ≡ at = omega arith in
      ap (λ (i : ℕ). drop at (blocks key nonce 0 i)) f ∙ ap (λ (i : ℕ). drop i (blocks key nonce 0 (b + (5 + d)))) (sym g)
      ∙ blocks-drop 0 b (5 + d) ∙ rw zero-add (blocks-add b 5 d ∙ ap (λ (l : List ℕ). l ++ blocks key nonce (b + 5) d) (blocks-wrap b n 5 (sym e)))
