-- The slots of an item under the cipher, as a part of the path that is lent and given back. Assumes nothing.
use mathlib.Core.Path.{◌≡◌, sym, ap, ap₂, ◌∙◌}
use mathlib.Core.List.{List, ◌++◌}
use Prim.Native.Nat.{ℕ, ◌+◌, ◌≤◌}
use native.Mathlib.Omega.{arith}
use lib.ListN.{length, take, drop, length-append}
use Rattle.words.specs.Bytes.{part, splice, zeros}
use Rattle.words.specs.Numbers.{bytes_of}
use Rattle.words.proofs.Splice.{spliced, length_part, length-zeros, splice-next, splice-whole}
use Rattle.words.proofs.Numbers.{length-bytes_of}
use Rattle.sizes.specs.declared.Sizes.{Sizes}
use Rattle.sizes.specs.Sizes.{leaf_len, item_at, item_of, counter_len, slots_len}
use Rattle.sizes.proofs.Lengths.{item_fits}
use Rattle.items.specs.Items.{Carries, bucket_bytes, nonce_of, counter_bytes, slots_of, slots_opened}
use Rattle.items.specs.Real.{real}
use Rattle.items.proofs.Fields.{item-long, counter-bytes, slots-of}
use Rattle.items.proofs.Sound.{real-sound}

-- the nonce, in two parts
pub nonce-given : (xs ns ms : List ℕ) (at n b : ℕ) → n ≡ counter_len → at + n ≤ length xs → ns ≡ splice (zeros 12) 0 (part xs at n)
    → ms ≡ splice ns counter_len (bytes_of bucket_bytes b) → ms ≡ nonce_of (part xs at counter_len) b
nonce-given xs ns ms at n b e h p q =
    let c : List ℕ = part xs at counter_len in
    let l : length c ≡ counter_len = length_part xs at counter_len (omega arith) in
    let f : ns ≡ splice (zeros 12) 0 c = p ∙ ap (λ (i : ℕ). splice (zeros 12) 0 (part xs at i)) e in
    let z : length (zeros 12) ≡ 12 = length-zeros 12 in
    q ∙ ap (λ (i : List ℕ). splice i counter_len (bytes_of bucket_bytes b)) f ∙ splice-next (zeros 12) 0 c (bytes_of bucket_bytes b) counter_len l (omega arith)
    ∙ splice-whole (zeros 12) (c ++ bytes_of bucket_bytes b) (length-append c (bytes_of bucket_bytes b) ∙ omega (arith, length-bytes_of bucket_bytes b))

pub slots-given : (s : Sizes) (key nonce xs ys : List ℕ) (k b at a n : ℕ) → at ≡ item_at s k → a ≡ item_at s k + counter_len → n ≡ slots_len s → a + n ≤ length xs
    → nonce ≡ nonce_of (part xs at counter_len) b → ys ≡ real.cipher key nonce (part xs a n)
    → take a xs ++ (ys ++ drop n (drop a xs)) ≡ splice xs (item_at s k + counter_len) (slots_opened real s key b (item_of s xs k))
slots-given s key nonce xs ys k b at a n e₁ e₂ e₃ h f g =
    let l : length ys ≡ n = ap length g ∙ real-sound.cipher_length key nonce (part xs a n) ∙ length_part xs a n h in
    let c : counter_bytes (item_of s xs k) ≡ part xs at counter_len = counter-bytes s xs k ∙ ap (λ (i : ℕ). part xs i counter_len) (sym e₁) in
    let p : slots_of s (item_of s xs k) ≡ part xs a n = slots-of s xs k ∙ ap₂ (λ (i j : ℕ). part xs i j) (sym e₂) (sym e₃) in
    let is : slots_opened real s key b (item_of s xs k) ≡ ys =
    ap₂ (λ (i j : List ℕ). real.cipher key (nonce_of i b) j) c p ∙ ap (λ (i : List ℕ). real.cipher key i (part xs a n)) (sym f) ∙ sym g in
    spliced xs a n ys l ∙ rw (e₂, is)

-- their lengths
pub length-slots : (s : Sizes) (xs : List ℕ) (k : ℕ) → item_at s k + leaf_len s ≤ length xs → length (slots_of s (item_of s xs k)) ≡ slots_len s
length-slots s xs k h = ap length (slots-of s xs k) ∙ length_part xs (item_at s k + counter_len) (slots_len s) (omega arith)

pub length-opened : (s : Sizes) (key xs : List ℕ) (k b : ℕ) → item_at s k + leaf_len s ≤ length xs → length (slots_opened real s key b (item_of s xs k)) ≡ slots_len s
length-opened s key xs k b h =
    real-sound.cipher_length key (nonce_of (counter_bytes (item_of s xs k)) b) (slots_of s (item_of s xs k)) ∙ length-slots s xs k h

pub carried-slots : (s : Sizes) (xs : List ℕ) (k : ℕ) → Carries s xs → k ≤ s.height → length (slots_of s (item_of s xs k)) ≡ slots_len s
carried-slots s xs k c h = length-slots s xs k (omega (arith, c.room, item_fits s k h, item-long s xs k))
