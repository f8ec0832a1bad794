-- The blocks in a sealed item are those that were laid into it, and its counter is the one given. Assumes nothing but what is asked of a cipher.
use Prim.Native.Nat.{ℕ, zero, suc, ◌+◌, ◌-◌, ◌*◌, ◌^◌, ◌<◌, ◌≤◌}
use mathlib.Core.Path.{◌≡◌, refl, ap, ap₂, ◌∙◌}
use mathlib.Core.Logic.{◌≢◌}
use mathlib.Core.Bool.{Bool, not}
use mathlib.Core.List.{List, [], ◌∷◌, ◌++◌}
use native.Mathlib.Omega.{arith}
use mathlib.Core.List.{append_assoc}
use native.Mathlib.Nat.{zero-add, suc-add}
use lib.ListN.{length, drop, length-append, length-replicate}
use lib.Seq.{take_at, drop_at}
use borrow.Author.Tests.{ne_eqb}
use Rattle.words.specs.Bytes.{zeros}
use Rattle.words.specs.Numbers.{number, bytes_of}
use Rattle.words.proofs.Numbers.{length-bytes_of, number-bytes_of}
use Rattle.sizes.specs.declared.Sizes.{Sizes}
use Rattle.sizes.specs.Sizes.{record_len, slot_len, counter_len, slots_len, leaf_len}
use Rattle.bags.specs.Bags.{choose, those, AllOf}
use Rattle.slots.specs.Slots.{Block, blocks_by, blocks_of, is_used, slot_bytes, slots_bytes, AllFit, slots_with}
use Rattle.slots.proofs.Numbers.{number-left}
use Rattle.slots.proofs.Blocks.{length-slot, length-slots, block-slot}
use Rattle.items.specs.Items.{Means, Sound, counter_of, counter_bytes, slots_of, nonce_of, blocks_in, sealed, slots_opened}

zeros-add : (a b : ℕ) → zeros (a + b) ≡ zeros a ++ zeros b
zeros-add zero b = rw (zero-add b) refl
zeros-add (suc a) b = rw (suc-add a b) (ap (λ (l : List ℕ). 0 ∷ l) (zeros-add a b))

-- empty slots hold nothing
empty-slots : (e : ℕ) → those is_used (blocks_of e (zeros (slot_len * e))) ≡ []
unfolding blocks_by those number
empty-slots zero = refl
empty-slots (suc e) =
    let q : slot_len * suc e ≡ slot_len + slot_len * e = omega arith in
    let z : zeros (slot_len * suc e) ≡ zeros slot_len ++ zeros (slot_len * e) = ap zeros q ∙ zeros-add slot_len (slot_len * e) in
    rw z (empty-slots e)

-- used blocks come back, in order
slots-hold : (bs : List Block) (e : ℕ) → AllFit record_len bs → AllOf (λ b. b.id ≢ 0) bs
    → those is_used (blocks_of (length bs + e) (slots_bytes bs ++ zeros (slot_len * e))) ≡ bs
unfolding blocks_by slots_bytes those
slots-hold [] e f u = rw (zero-add e) (empty-slots e)
slots-hold (b ∷ bs) e f u =
    let rest = slots_bytes bs ++ zeros (slot_len * e) in
    let d : drop slot_len (slot_bytes b ++ rest) ≡ rest = drop_at (slot_bytes b) rest slot_len (length-slot record_len b f.0) in
    let i = slots-hold bs e f.1 u.1 in
    let xs : List Block = those is_used (blocks_of (length bs + e) rest) in
    ap₂ (λ (n : ℕ) (x : List ℕ). those is_used (blocks_of n x)) (suc-add (length bs) e) (append_assoc (slot_bytes b) (slots_bytes bs) (zeros (slot_len * e)))
    ∙ ap₂ (λ (c : Block) (x : List ℕ). choose (is_used c) (c ∷ those is_used (blocks_of (length bs + e) x)) (those is_used (blocks_of (length bs + e) x)))
    (block-slot record_len b rest f.0) d
    ∙ ap (λ (t : Bool). choose (not t) (b ∷ xs) xs) (ne_eqb b.id 0 u.0)
    ∙ ap (λ (l : List Block). b ∷ l) i

with-length : (room : ℕ) (bs : List Block) → AllFit record_len bs → length bs ≤ room → length (slots_with room bs) ≡ slot_len * room
with-length room bs f h =
    length-append (slots_bytes bs) (zeros (slot_len * (room - length bs)))
    ∙ ap₂ (λ (a b : ℕ). a + b) (length-slots record_len bs f) (length-replicate (slot_len * (room - length bs)) 0) ∙ omega arith

module _ (m : Means) (o : Sound m) (s : Sizes) (key : List ℕ) (counter bucket : ℕ) (bs : List Block) (f : AllFit record_len bs)
    (u : AllOf (λ b. b.id ≢ 0) bs) (h : length bs ≤ s.slots) where
  abbrev text : List ℕ
  text = m.cipher key (nonce_of (bytes_of counter_len counter) bucket) (slots_with s.slots bs)

  text-length : length text ≡ slots_len s
  text-length = o.cipher_length key (nonce_of (bytes_of counter_len counter) bucket) (slots_with s.slots bs) ∙ with-length s.slots bs f h

  pub sealed-length : length (sealed m s key counter bucket bs) ≡ leaf_len s
  unfolding sealed
  sealed-length = length-append (bytes_of counter_len counter) text ∙ ap₂ (λ (a b : ℕ). a + b) (length-bytes_of counter_len counter) text-length

  -- what follows the slots does not matter
  module _ (more : List ℕ) where
    sealed-bytes : counter_bytes (sealed m s key counter bucket bs ++ more) ≡ bytes_of counter_len counter
    unfolding sealed
    sealed-bytes =
        rw (append_assoc (bytes_of counter_len counter) text more) (take_at (bytes_of counter_len counter) (text ++ more) counter_len (length-bytes_of counter_len counter))

    pub sealed-counter : counter < 2 ^ 64 → counter_of (sealed m s key counter bucket bs ++ more) ≡ counter
    unfolding sealed
    sealed-counter c =
        rw (append_assoc (bytes_of counter_len counter) text more)
        (number-left counter_len (bytes_of counter_len counter) (text ++ more) 0 (omega (arith, length-bytes_of counter_len counter)) ∙ number-bytes_of counter_len counter c)

    sealed-slots : slots_of s (sealed m s key counter bucket bs ++ more) ≡ text
    unfolding sealed
    sealed-slots =
        rw (append_assoc (bytes_of counter_len counter) text more, drop_at (bytes_of counter_len counter) (text ++ more) counter_len (length-bytes_of counter_len counter))
        (take_at text more (slots_len s) text-length)

    -- opened again, they are what was laid in
    pub sealed-opened : slots_opened m s key bucket (sealed m s key counter bucket bs ++ more) ≡ slots_with s.slots bs
    sealed-opened =
        ap₂ (λ (c t : List ℕ). m.cipher key (nonce_of c bucket) t) sealed-bytes sealed-slots
        ∙ o.cipher_twice key (nonce_of (bytes_of counter_len counter) bucket) (slots_with s.slots bs)

    pub sealed-holds : blocks_in m s key bucket (sealed m s key counter bucket bs ++ more) ≡ bs
    unfolding blocks_in
    sealed-holds =
        let q : s.slots ≡ length bs + (s.slots - length bs) = omega arith in
        ap (λ (t : List ℕ). those is_used (blocks_of s.slots t)) sealed-opened
        ∙ ap (λ (n : ℕ). those is_used (blocks_of n (slots_with s.slots bs))) q ∙ slots-hold bs (s.slots - length bs) f u
