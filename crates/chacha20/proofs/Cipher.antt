-- The laws of `cipher`: it keeps the length and undoes itself, and what was combined so far. Assumes nothing.
use Rattle.std.proofs.Common.{◌≡◌, ℕ, zero, suc, ◌+◌, ◌-◌, ◌*◌, ◌/◌, ◌%◌, ◌^◌, ◌<◌, ◌≤◌, List, [], ◌∷◌, ◌++◌, length, take, drop, sym, refl, ap, ◌∙◌, append_assoc, append-nil, le_of_suc-le-suc, not-suc-le-zero, arith, drop_of_length-le, length-take, length-take-le, take_all, drop-drop, take_at, take-add, drop_at}
use lib.Bits.{bit_xor, differ, xor_step, xor_self, xor_zero_l}
use lib.Arith.{bin_ind}
use Rattle.chacha20.specs.ChaCha.{zipped, block, blocks, cipher}
use Rattle.chacha20.proofs.Zipped.{length-zipped, zipped-enough, take-zipped, drop-zipped}
use Rattle.chacha20.proofs.Blocks.{length-block, length-blocks, blocks-add, blocks-drop, blocks_from}

-- ---- what a caller needs: the length stays, and twice is nothing

pub length-cipher : (key nonce xs : List ℕ) → length (cipher key nonce xs) ≡ length xs
unfolding cipher
length-cipher key nonce xs =
    length-zipped bit_xor xs (blocks key nonce 0 (length xs / 64 + 1)) (omega (arith, length-blocks key nonce 0 (length xs / 64 + 1)))

-- a bit combined twice with the same bit
differ-twice : (p q : ℕ) → p < 2 → q < 2 → (differ p q < 2) × (differ (differ p q) q ≡ p)
differ-twice zero zero h k = (omega arith, refl)
differ-twice zero (suc zero) h k = (omega arith, refl)
differ-twice zero (suc (suc q)) h k = absurd (omega arith)
differ-twice (suc zero) zero h k = (omega arith, refl)
differ-twice (suc zero) (suc zero) h k = (omega arith, refl)
differ-twice (suc zero) (suc (suc q)) h k = absurd (omega arith)
differ-twice (suc (suc p)) q h k = absurd (omega arith)

xor-twice : (x k : ℕ) → bit_xor (bit_xor x k) k ≡ x
xor-twice = bin_ind (λ (x : ℕ). (k : ℕ) → bit_xor (bit_xor x k) k ≡ x) (λ k. rw xor_zero_l (xor_self k)) step
  where
    step : (n : ℕ) → ((k : ℕ) → bit_xor (bit_xor (n / 2) k) k ≡ n / 2) → (k : ℕ) → bit_xor (bit_xor n k) k ≡ n
    step n ih k =
        let d = differ-twice (n % 2) (k % 2) (omega arith) (omega arith) in
        let s : bit_xor n k ≡ bit_xor (n / 2) (k / 2) * 2 + differ (n % 2) (k % 2) = xor_step n k in
        let h : bit_xor n k / 2 ≡ bit_xor (n / 2) (k / 2) = omega (arith, d.0) in
        let o : bit_xor n k % 2 ≡ differ (n % 2) (k % 2) = omega (arith, d.0) in
        xor_step (bit_xor n k) k ∙ rw (h, o, ih (k / 2), d.1) (omega arith)

zipped-twice : (xs ks : List ℕ) → length xs ≤ length ks → zipped bit_xor (zipped bit_xor xs ks) ks ≡ xs
unfolding zipped
zipped-twice [] ks h = refl
zipped-twice (x ∷ xs) [] h = absurd (not-suc-le-zero h)
zipped-twice (x ∷ xs) (k ∷ ks) h = rw (xor-twice x k, zipped-twice xs ks (le_of_suc-le-suc h))

pub cipher_twice : (key nonce xs : List ℕ) → cipher key nonce (cipher key nonce xs) ≡ xs
unfolding cipher
cipher_twice key nonce xs =
    rw (length-cipher key nonce xs)
    (zipped-twice xs (blocks key nonce 0 (length xs / 64 + 1)) (omega (arith, length-blocks key nonce 0 (length xs / 64 + 1))))

-- ---- what `apply` needs

-- more blocks than the text is long change nothing
pub mix-enough : (key nonce xs : List ℕ) (n c d : ℕ) → length xs ≤ c * 64 → zipped bit_xor xs (blocks key nonce n (c + d)) ≡ zipped bit_xor xs (blocks key nonce n c)
mix-enough key nonce xs n c d h =
    rw (blocks-add key nonce n c d)
    (zipped-enough bit_xor xs (blocks key nonce n c) (blocks key nonce (n + c) d) (omega (arith, length-blocks key nonce n c)))

-- the first `at` bytes of xs are combined, the rest is as it was
abbrev pub mixed : List ℕ → List ℕ → ℕ → List ℕ
mixed xs ks at = take at (zipped bit_xor xs ks) ++ drop at xs

pub mixed-all : (xs ks : List ℕ) (at : ℕ) → length xs ≤ at → length xs ≤ length ks → mixed xs ks at ≡ zipped bit_xor xs ks
mixed-all xs ks at h k =
    let l : length (zipped bit_xor xs ks) ≡ length xs = length-zipped bit_xor xs ks k in
    rw (take_all at (zipped bit_xor xs ks) (omega arith), drop_of_length-le xs {i = at} h) (append-nil (zipped bit_xor xs ks))

-- m bytes more, by the part of the keystream that begins there
pub mixed-step : (xs ks now ys k r : List ℕ) (at m e : ℕ) → at + m ≡ e → e ≤ length xs → length xs ≤ length ks → m ≤ length k
    → drop at ks ≡ k ++ r → now ≡ mixed xs ks at → ys ≡ zipped bit_xor (take m (drop at now)) k
    → take at now ++ (ys ++ drop m (drop at now)) ≡ mixed xs ks e
mixed-step xs ks now ys k r at m e end fits enough small from so now-ys =
    let z = zipped bit_xor xs ks in
    let l : length z ≡ length xs = length-zipped bit_xor xs ks enough in
    let n : length (take at z) ≡ at = length-take-le at z (omega arith) in
    let t : take at now ≡ take at z = rw so (take_at (take at z) (drop at xs) at n) in
    let d : drop at now ≡ drop at xs = rw so (drop_at (take at z) (drop at xs) at n) in
    let p : length (take m (drop at xs)) ≤ length k = simp length-take (omega arith) in
    let y : ys ≡ take m (drop at z) =
    now-ys ∙ rw d (sym (zipped-enough bit_xor (take m (drop at xs)) k r p) ∙ rw (← from) (sym (take-zipped bit_xor m (drop at xs) (drop at ks)) ∙ rw (← drop-zipped bit_xor at xs ks))) in
    rw (t, d, y, ← end, take-add at m z, drop-drop m at xs) (simp append_assoc)

-- ---- the whole text, five blocks at a time

-- the first `at` bytes are enciphered
abbrev pub ciphered : List ℕ → List ℕ → List ℕ → ℕ → List ℕ
ciphered key nonce xs at = take at (cipher key nonce xs) ++ drop at xs

pub cipher-step : (key nonce xs now ys : List ℕ) (at m e n : ℕ) → at + m ≡ e → e ≤ length xs → m ≤ 320 → at % 64 ≡ 0 → n % 2 ^ 32 ≡ at / 64 % 2 ^ 32
    → now ≡ ciphered key nonce xs at → ys ≡ zipped bit_xor (take m (drop at now)) (blocks key nonce n 5)
    → take at now ++ (ys ++ drop m (drop at now)) ≡ ciphered key nonce xs e
unfolding cipher
cipher-step key nonce xs now ys at m e n end fits small whole number so now-ys =
    let c = length xs / 64 + 1 in
    let ks = blocks key nonce 0 (c + 5) in
    let l : length ks ≡ (c + 5) * 64 = length-blocks key nonce 0 (c + 5) in
    let f : zipped bit_xor xs ks ≡ zipped bit_xor xs (blocks key nonce 0 c) = mix-enough key nonce xs 0 c 5 (omega arith) in
    mixed-step xs ks now ys (blocks key nonce n 5) (blocks key nonce (at / 64 + 5) (c - at / 64)) at m e end fits (omega arith)
    (omega (arith, length-blocks key nonce n 5)) (blocks_from key nonce at n c whole (omega arith) number) (rw f so) now-ys
    ∙ ap (λ (z : List ℕ). take e z ++ drop e xs) f

pub cipher-end : (key nonce xs : List ℕ) (at : ℕ) → length xs ≤ at → ciphered key nonce xs at ≡ cipher key nonce xs
unfolding cipher
cipher-end key nonce xs at h =
    mixed-all xs (blocks key nonce 0 (length xs / 64 + 1)) at h (omega (arith, length-blocks key nonce 0 (length xs / 64 + 1)))

-- ---- one block of a few, from block n on

pub block-step : (key nonce xs now ys : List ℕ) (at m e n i : ℕ) → at + m ≡ e → e ≤ length xs → length xs ≤ 128 → m ≤ 64 → at % 64 ≡ 0 → at < length xs
    → i ≡ (n + at / 64) % 2 ^ 32 → now ≡ mixed xs (blocks key nonce n 5) at → ys ≡ zipped bit_xor (take m (drop at now)) (block key nonce i)
    → take at now ++ (ys ++ drop m (drop at now)) ≡ mixed xs (blocks key nonce n 5) e
unfolding blocks
block-step key nonce xs now ys at m e n i end fits short small whole before number so now-ys =
    let b = at / 64 in
    let d = 4 - b in
    let ks = blocks key nonce n 5 in
    let f : 5 ≡ b + suc d = omega arith in
    let g : at ≡ b * 64 = omega arith in
    let from : drop at ks ≡ block key nonce i ++ blocks key nonce (suc (n + b)) d =
    ap (λ (c : ℕ). drop at (blocks key nonce n c)) f ∙ ap (λ (j : ℕ). drop j (blocks key nonce n (b + suc d))) g
    ∙ blocks-drop key nonce n b (suc d) ∙ ap (λ (j : ℕ). block key nonce j ++ blocks key nonce (suc (n + b)) d) (sym number) in
    mixed-step xs ks now ys (block key nonce i) (blocks key nonce (suc (n + b)) d) at m e end fits (omega (arith, length-blocks key nonce n 5))
    (omega (arith, length-block key nonce i)) from so now-ys
