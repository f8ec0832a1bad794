-- Slots taken into a bank one behind another. Assumes nothing.
use Prim.Native.Nat.{ℕ, zero, suc, ◌+◌, ◌*◌, ◌-◌, ◌≤◌}
use mathlib.Core.Path.{◌≡◌, sym, ap, ap₂, subst, ◌∙◌}
use mathlib.Core.Bool.{Bool, true, false, not, ◌&&◌}
use mathlib.Core.List.{List, [], ◌∷◌, ◌++◌, append_assoc, append-nil}
use native.Mathlib.Omega.{arith}
use native.Mathlib.Numerals.{add-one}
use lib.ListN.{length, drop, length-append, length-drop}
use lib.Seq.{drop-drop, get_or-drop}
use lib.Dec.{eqb}
use Rattle.std.proofs.lemmas.List.{take_all}
use Rattle.words.specs.Bytes.{part, splice}
use Rattle.words.specs.Numbers.{number, bytes_of}
use Rattle.words.proofs.Numbers.{length-bytes_of}
use Rattle.words.proofs.Splice.{splice-next}
use Rattle.words.proofs.Tests.{by_cases, and_left, and_right}
use Rattle.sizes.specs.declared.Sizes.{Sizes}
use Rattle.sizes.specs.Sizes.{record_len, slot_len, counter_len, slots_len, leaf_len, item_at, path_len}
use Rattle.sizes.proofs.Lengths.{level-fits}
use Rattle.bags.specs.Bags.{those}
use Rattle.bags.proofs.Those.{those-append}
use Rattle.slots.specs.Slots.{Block, is_used, block_by, blocks_by, blocks_of, slots_bytes, Fits, AllFit, Bytes}
use Rattle.slots.proofs.Blocks.{block-fits, blocks-fit, blocks-part, fit_append, length-slots, slots-append}
use Rattle.placing.proofs.Laid.{slot-next}
use Rattle.gathering.specs.Gathering.{slots_at, used_to, is_other, others}

-- ---- the requested block

pub request-laid : (bank one two end bytes : List ℕ) (id leaf : ℕ) → slot_len ≤ length bank → length bytes ≡ record_len
    → one ≡ splice bank 0 (bytes_of 2 id) → two ≡ splice one 2 (bytes_of 2 leaf) → end ≡ splice two 4 bytes
    → end ≡ splice bank 0 (slots_bytes (record { id = id; leaf = leaf; bytes = bytes } ∷ []))
unfolding slots_bytes
request-laid bank one two end bytes id leaf h n p q r =
    let i : List ℕ = bytes_of 2 id in
    let l : List ℕ = bytes_of 2 leaf in
    let m : length (i ++ l) ≡ 4 = omega (arith, length-append i l, length-bytes_of 2 id, length-bytes_of 2 leaf) in
    r ∙ ap (λ (xs : List ℕ). splice xs 4 bytes) (q ∙ ap (λ (xs : List ℕ). splice xs 2 l) p ∙ splice-next bank 0 i l 2 (length-bytes_of 2 id) (omega arith))
    ∙ splice-next bank 0 (i ++ l) bytes 4 m (omega arith)
    ∙ ap (splice bank 0) (append_assoc i l bytes ∙ sym (append-nil (i ++ (l ++ bytes))))

-- ---- slots from place a on: what is left after j of z

abbrev pub left_from : ℕ → ℕ → List ℕ → ℕ → ℕ → List Block
left_from id z src a j = others id (blocks_of (z - j) (drop (a + slot_len * j) src))

abbrev pub block_from : List ℕ → ℕ → ℕ → Block
block_from src a j = block_by record_len (drop (a + slot_len * j) src)

pub take-start : (id z : ℕ) (src : List ℕ) (a : ℕ) → left_from id z src a 0 ≡ others id (blocks_of z (drop a src))
take-start id z src a =
    let e : z - 0 ≡ z = omega arith in
    let f : a + slot_len * 0 ≡ a = omega arith in
    rw (e, f)

pub fits-from : (src : List ℕ) (a j : ℕ) → Bytes src → a + slot_len * j + slot_len ≤ length src → Fits record_len (block_from src a j)
fits-from src a j b h =
    block-fits record_len (drop (a + slot_len * j) src) (λ i. rw get_or-drop (b (a + slot_len * j + i))) (omega (arith, length-drop (a + slot_len * j) src))

-- ---- the next of several slots, whose id is x

module _ (id x : ℕ) (xs slot rest : List ℕ) (cut : xs ≡ slot ++ rest) (long : length slot ≡ slot_len) (n m : ℕ) (one : m + 1 ≡ n) (e : x ≡ number 2 slot 0) where
  pub take-hit : (not (eqb x 0) && not (eqb x id)) ≡ true → others id (blocks_of n xs) ≡ block_by record_len slot ∷ others id (blocks_of m rest)
  unfolding those
  take-hit f =
      let p : not (eqb x 0) ≡ true = and_left _ _ f in
      let q : not (eqb x id) ≡ true = and_right _ _ f in
      rw (slot-next xs slot rest cut long n m one, ← e, p, q)

  pub take-miss : (not (eqb x 0) && not (eqb x id)) ≡ false → others id (blocks_of n xs) ≡ others id (blocks_of m rest)
  unfolding those
  take-miss f =
      by_cases (eqb x 0) (λ p. rw (slot-next xs slot rest cut long n m one, ← e, p))
      (λ p. let q : not (eqb x id) ≡ false = rw p at f in rw (slot-next xs slot rest cut long n m one, ← e, p, q))

pub take-end : (id : ℕ) (xs : List ℕ) (n : ℕ) → n ≡ 0 → others id (blocks_of n xs) ≡ []
unfolding blocks_by those
take-end id xs n h = rw h

-- ---- items of a path

-- blocks that are read from bytes fit, and so do some of them
those-fit : (t : Block → Bool) (bs : List Block) → AllFit record_len bs → AllFit record_len (those t bs)
unfolding those
those-fit t [] f = tt
those-fit t (b ∷ bs) f = by_cases (t b) (λ e. rw e (f.0, those-fit t bs f.1)) (λ e. rw e (those-fit t bs f.1))

pub others-fit : (id n : ℕ) (src : List ℕ) → Bytes src → slot_len * n ≤ length src → AllFit record_len (others id (blocks_of n src))
others-fit id n src b h =
    those-fit (is_other id) (those is_used (blocks_of n src)) (those-fit is_used (blocks_of n src) (blocks-fit record_len n src b h))

-- one item more
pub used-next : (id : ℕ) (s : Sizes) (opened : List ℕ) (k : ℕ)
    → those (is_other id) (used_to s opened (k + 1)) ≡ those (is_other id) (used_to s opened k) ++ others id (blocks_of s.slots (drop (item_at s k + counter_len) opened))
unfolding used_to
used-next id s opened k =
    rw (add-one k)
    (those-append (is_other id) (used_to s opened k) (those is_used (blocks_of s.slots (slots_at s opened k)))
    ∙ ap (λ (bs : List Block). those (is_other id) (used_to s opened k) ++ others id bs) (blocks-part record_len s.slots opened (item_at s k + counter_len) (slots_len s) (omega arith)))

-- what is taken of the first n items fits
pub used-fit : (id : ℕ) (s : Sizes) (opened : List ℕ) (n : ℕ) → Bytes opened → n ≤ s.height + 1 → path_len s ≤ length opened → AllFit record_len (those (is_other id) (used_to s opened n))
unfolding used_to those
used-fit id s opened zero b h l = tt
used-fit id s opened (suc k) b h l =
    let at : item_at s k + leaf_len s ≤ length opened = omega (arith, level-fits s k s.height (omega arith)) in
    subst (AllFit record_len) (sym (ap (λ (n : ℕ). those (is_other id) (used_to s opened n)) (sym (add-one k)) ∙ used-next id s opened k))
    (fit_append record_len (those (is_other id) (used_to s opened k)) (others id (blocks_of s.slots (drop (item_at s k + counter_len) opened)))
    (used-fit id s opened k b (omega arith) l) (others-fit id s.slots (drop (item_at s k + counter_len) opened) (λ i. rw get_or-drop (b (item_at s k + counter_len + i))) (omega (arith, length-drop (item_at s k + counter_len) opened))))

-- ---- lists of slots that follow each other in the bank

pub taken_next : (bank mid end : List ℕ) (m k : ℕ) (bs cs : List Block) → AllFit record_len bs → slot_len * k ≤ length bank → k ≡ m + length bs
    → mid ≡ splice bank (slot_len * m) (slots_bytes bs) → end ≡ splice mid (slot_len * k) (slots_bytes cs) → end ≡ splice bank (slot_len * m) (slots_bytes (bs ++ cs))
taken_next bank mid end m k bs cs f h e p q =
    let i : slot_len * k ≡ slot_len * m + slot_len * length bs = omega arith in
    q ∙ ap₂ (λ (xs : List ℕ) (n : ℕ). splice xs n (slots_bytes cs)) p i
    ∙ splice-next bank (slot_len * m) (slots_bytes bs) (slots_bytes cs) (slot_len * length bs) (length-slots record_len bs f) (omega arith)
    ∙ ap (splice bank (slot_len * m)) (sym (slots-append bs cs))

-- the turn of the loop over items: `slots` begins with the slots of item k
pub path-turn : (id : ℕ) (s : Sizes) (opened slots bank now next : List ℕ) (m k e r : ℕ) → Bytes opened → k ≤ s.height + 1 → path_len s ≤ length opened → slot_len * e ≤ length bank
    → slots ≡ drop (item_at s k + counter_len) opened → e ≡ m + length (those (is_other id) (used_to s opened k)) → r ≡ e + length (others id (blocks_of s.slots slots))
    → now ≡ splice bank (slot_len * m) (slots_bytes (those (is_other id) (used_to s opened k)))
    → next ≡ splice now (slot_len * e) (slots_bytes (others id (blocks_of s.slots slots)))
    → (r ≡ m + length (those (is_other id) (used_to s opened (k + 1)))) × (next ≡ splice bank (slot_len * m) (slots_bytes (those (is_other id) (used_to s opened (k + 1)))))
path-turn id s opened slots bank now next m k e r b h l fits is c d p q =
    let bs = those (is_other id) (used_to s opened k) in
    let cs = others id (blocks_of s.slots slots) in
    let w : those (is_other id) (used_to s opened (k + 1)) ≡ bs ++ cs =
    used-next id s opened k ∙ ap (λ (xs : List ℕ). bs ++ others id (blocks_of s.slots xs)) (sym is) in (
      omega (arith, ap length w, length-append bs cs),
      taken_next bank now next m e bs cs (used-fit id s opened k b h l) fits c p q ∙ ap (λ (ds : List Block). splice bank (slot_len * m) (slots_bytes ds)) (sym w),
    )

-- what lies from a place on, as the slice that begins there
pub slice-from : (xs : List ℕ) (a b : ℕ) → a ≡ b → part xs a (length xs - a) ≡ drop b xs
slice-from xs a b e = rw e (take_all (length xs - b) (drop b xs) (omega (arith, length-drop b xs)))
