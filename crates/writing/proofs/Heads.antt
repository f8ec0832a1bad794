-- Counter and slots of an item: written plain, then under the cipher, they are the head that step 6 says. Assumes nothing.
use Rattle.std.proofs.Common.{◌≡◌, ℕ, ◌+◌, ◌*◌, ◌/◌, ◌%◌, ◌^◌, ◌≤◌, List, ◌++◌, length, sym, ap, ◌∙◌, ap₂, div-add-mod', arith, length-append}
use Rattle.words.specs.Bytes.{part, splice}
use Rattle.words.specs.Numbers.{bytes_of}
use Rattle.words.proofs.Splice.{length_part, length-splice, part-splice, part-splice-before, splice-splice, splice-next}
use Rattle.words.proofs.Numbers.{length-bytes_of, bytes_of-wrap}
use Rattle.sizes.specs.declared.Sizes.{Sizes}
use Rattle.sizes.specs.Sizes.{counter_len, leaf_len, slots_len, item_at, path_len}
use Rattle.sizes.proofs.Lengths.{level-fits}
use Rattle.items.specs.declared.View.{View}
use Rattle.items.specs.Items.{nonce_of, counter_bytes, slots_of, slots_opened}
use Rattle.items.specs.Way.{item, bucket}
use Rattle.items.specs.Real.{real}
use Rattle.items.proofs.Fields.{counter-bytes, slots-of}
use Rattle.items.proofs.Sound.{real-sound}
use Rattle.writing.specs.Pieces.{head_of}

-- what does not fit is left out
pub bytes_of-rest : (n x : ℕ) → bytes_of n (x % 256 ^ n) ≡ bytes_of n x
bytes_of-rest n x =
    let e : x % 256 ^ n + x / 256 ^ n * 256 ^ n ≡ x = omega (arith, div-add-mod' x (256 ^ n)) in
    sym (bytes_of-wrap n (x % 256 ^ n) (x / 256 ^ n)) ∙ ap (bytes_of n) e

pub length-head : (v : View) (counter k : ℕ) (slots : List ℕ) → length (head_of real v counter k slots) ≡ counter_len + length slots
unfolding head_of
length-head v counter k slots =
    length-append (bytes_of counter_len counter) (real.cipher v.key (nonce_of (bytes_of counter_len counter) (bucket v k)) slots)
    ∙ omega (arith, length-bytes_of counter_len counter, real-sound.cipher_length v.key (nonce_of (bytes_of counter_len counter) (bucket v k)) slots)

pub length-slots-of : (v : View) (new : List ℕ) (k : ℕ) → k ≤ v.sizes.height → path_len v.sizes ≤ length new → length (slots_of v.sizes (item v new k)) ≡ slots_len v.sizes
length-slots-of v new k h f =
    ap length (slots-of v.sizes new k)
    ∙ length_part new (item_at v.sizes k + counter_len) (slots_len v.sizes) (omega (arith, level-fits v.sizes k v.sizes.height h))

-- the counter laid in, the slots after it, and these under the cipher
module _ (v : View) (path new : List ℕ) (k : ℕ) (h : k ≤ v.sizes.height) (f : path_len v.sizes ≤ length path) (g : path_len v.sizes ≤ length new) where
  abbrev s : Sizes
  s = v.sizes

  pub head-given : (counter counter' at a n : ℕ) → bytes_of counter_len counter ≡ bytes_of counter_len counter' → at ≡ item_at s k → a ≡ at + counter_len → n ≡ slots_len s
      → (one two after : List ℕ) → one ≡ splice path at (bytes_of counter_len counter) → two ≡ splice one a (part new a n)
      → after ≡ splice two (item_at s k + counter_len) (slots_opened real s v.key (bucket v k) (item v two k))
      → after ≡ splice path (item_at s k) (head_of real v counter' k (slots_of s (item v new k)))
  unfolding head_of
  head-given counter counter' at a n e e₁ e₂ e₃ one two after p q r =
      let cs : List ℕ = bytes_of counter_len counter in
      let fit : item_at s k + leaf_len s ≤ path_len s = omega (arith, level-fits s k s.height h) in
      let lc : length cs ≡ counter_len = length-bytes_of counter_len counter in
      let l₁ : length one ≡ length path = ap length p ∙ length-splice path at cs (omega arith) in
      let slots : List ℕ = part new a n in
      let ls : length slots ≡ n = length_part new a n (omega arith) in
      let l₂ : length two ≡ length one = ap length q ∙ length-splice one a slots (omega arith) in
      let place : item_at s k + counter_len ≡ a = omega arith in
      -- the slots of both are the plain ones, and the counter is the new one
      let new-slots : slots_of s (item v new k) ≡ slots = slots-of s new k ∙ ap₂ (λ (i j : ℕ). part new i j) place (sym e₃) in
      let two-slots : slots_of s (item v two k) ≡ slots =
      slots-of s two k ∙ ap₂ (λ (i j : ℕ). part two i j) place (sym e₃ ∙ sym ls) ∙ ap (λ (l : List ℕ). part l a (length slots)) q ∙ part-splice one a slots (omega arith) in
      let one-counter : part one at counter_len ≡ cs =
      ap (λ (l : List ℕ). part l at counter_len) p ∙ ap (part (splice path at cs) at) (sym lc) ∙ part-splice path at cs (omega arith) in
      let two-counter : counter_bytes (item v two k) ≡ cs =
      counter-bytes s two k ∙ ap (λ (i : ℕ). part two i counter_len) (sym e₁) ∙ ap (λ (l : List ℕ). part l at counter_len) q
      ∙ part-splice-before one a slots at counter_len (omega arith) (omega arith) ∙ one-counter in
      let text : List ℕ = real.cipher v.key (nonce_of cs (bucket v k)) slots in
      let lt : length text ≡ length slots = real-sound.cipher_length v.key (nonce_of cs (bucket v k)) slots in
      let opened : slots_opened real s v.key (bucket v k) (item v two k) ≡ text =
      ap₂ (λ (i j : List ℕ). real.cipher v.key (nonce_of i (bucket v k)) j) two-counter two-slots in
      r ∙ ap₂ (λ (i : ℕ) (t : List ℕ). splice two i t) place opened ∙ ap (λ (l : List ℕ). splice l a text) q
      ∙ splice-splice one a slots text (sym lt) (omega arith) ∙ ap₂ (λ (l : List ℕ) (i : ℕ). splice l i text) p e₂
      ∙ splice-next path at cs text counter_len lc (omega arith)
      ∙ ap₂ (λ (i : ℕ) (c : List ℕ). splice path i (c ++ real.cipher v.key (nonce_of c (bucket v k)) slots)) e₁ e
      ∙ ap (λ (t : List ℕ). splice path (item_at s k) (bytes_of counter_len counter' ++ real.cipher v.key (nonce_of (bytes_of counter_len counter') (bucket v k)) t)) (sym new-slots)
