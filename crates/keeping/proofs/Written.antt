-- The items of a path as step 6 writes it: where each lies, its length, and its fields. Assumes nothing but what is asked of digest and cipher.
use Prim.Native.Nat.{ℕ, zero, suc, ◌+◌, ◌-◌, ◌*◌, ◌^◌, ◌<◌, ◌≤◌}
use mathlib.Core.Path.{◌≡◌, refl, sym, ap, ◌∙◌}
use mathlib.Core.Logic.{◌≢◌}
use mathlib.Core.List.{List, [], ◌∷◌, ◌++◌}
use native.Mathlib.Omega.{arith}
use mathlib.Core.List.{append-nil}
use native.Mathlib.Nat.{zero-mul}
use lib.ListN.{length, get_or, take, length-append}
use lib.Seq.{take_at, drop_at, get_or-append-add}
use lib.Dec.{eqb}
use Rattle.words.specs.Bytes.{part}
use Rattle.words.proofs.Splice.{length_part, length-zeros, part_right, part-whole}
use Rattle.words.proofs.Tests.{by_cases, below_or}
use Rattle.sizes.specs.declared.Sizes.{Sizes}
use Rattle.sizes.specs.Sizes.{record_len, flags_len, digest_len, leaf_len, inner_len, item_len, item_at, item_of, path_len, place_in, flag_at, digest_at}
use Rattle.sizes.proofs.Lengths.{inner-item, leaf-item, next-item, item_fits}
use Rattle.bags.specs.Bags.{AllOf}
use Rattle.slots.specs.Slots.{Block, AllFit, slots_with}
use Rattle.items.specs.declared.View.{View}
use Rattle.items.specs.Items.{Means, Sound, counter_of, flag_of, digest_of, masked, item_digest, blocks_in, slots_opened}
use Rattle.items.specs.Way.{item, bucket, side}
use Rattle.writing.specs.Writing.{new_counter, new_head, is_kept, new_flag, new_digest, new_inner, written, path_written}
use Rattle.keeping.proofs.Sealed.{sealed-length, sealed-counter, sealed-holds, sealed-opened}

-- blocks that may lie in the bucket at level k of the path to a leaf
pub record Lies (s : Sizes) (leaf k : ℕ) (bs : List Block) : Type 0 where
  pub fits : AllFit record_len bs
  pub used : AllOf (λ b. b.id ≢ 0) bs
  pub few : length bs ≤ s.slots
  pub sits : AllOf (λ b. place_in s b.leaf k ≡ place_in s leaf k) bs

module _ (m : Means) (o : Sound m) (v : View) (path : List ℕ) (placed : List (List Block)) (size : length path ≡ path_len v.sizes)
    (laid : (k : ℕ) → k ≤ v.sizes.height → Lies v.sizes v.leaf k (get_or placed (v.sizes.height - k) [])) where
  abbrev s : Sizes
  s = v.sizes

  abbrev L : ℕ
  L = v.sizes.height

  abbrev pub blocks_laid : ℕ → List Block
  blocks_laid k = get_or placed (L - k) []

  -- ---- lengths

  head-length : (k : ℕ) → k ≤ L → length (new_head m v path placed k) ≡ leaf_len s
  head-length k h =
      let l = laid k h in
      sealed-length m o s v.key (new_counter m v path placed k) (bucket v k) (blocks_laid k) l.fits l.used l.few

  old-length : (k : ℕ) → k < L → length (item v path k) ≡ inner_len s
  old-length k h = length_part path (item_at s k) (item_len s k) (omega (arith, item_fits s k (omega arith))) ∙ inner-item s k h

  digest_length : (k : ℕ) (new : List ℕ) (on : ℕ) → k < L → on ≤ 1 → length new ≡ digest_len → length (new_digest m v path placed k new on) ≡ digest_len
  digest_length k new on h j l =
      by_cases (eqb on (side v k))
      (λ e. rw e l)
      (λ e.
      rw e
      (by_cases (is_kept m v path placed k on)
      (λ f. rw f (length_part (item v path k) (digest_at s on) digest_len (omega (arith, old-length k h))))
      (λ f. rw f (length-zeros digest_len))))

  inner-length : (k : ℕ) (new : List ℕ) → k < L → length new ≡ digest_len → length (new_inner m v path placed k new) ≡ inner_len s
  unfolding new_inner
  inner-length k new h l =
      let d0 = new_digest m v path placed k new 0 in
      let d1 = new_digest m v path placed k new 1 in
      length-append (new_head m v path placed k) (new_flag m v path placed k 0 ∷ new_flag m v path placed k 1 ∷ (d0 ++ d1))
      ∙ omega (
        arith,
        head-length k (omega arith),
        length-append d0 d1,
        digest_length k new 0 h (omega arith) l,
        digest_length k new 1 h (omega arith) l,
      )

  -- ---- the new item at level k

  unfoldable pub new_item : ℕ → List ℕ
  new_item k = (written m v path placed (L - k)).top

  unfoldable pub digest_below : ℕ → List ℕ
  digest_below k = item_digest m s (suc k) (new_item (suc k))

  pub leaf-is : new_item L ≡ new_head m v path placed L
  unfolding new_item written
  leaf-is = let e : L - L ≡ 0 = omega arith in ap (λ (n : ℕ). (written m v path placed n).top) e

  pub inner-is : (k : ℕ) → k < L → new_item k ≡ new_inner m v path placed k (digest_below k)
  unfolding new_item written digest_below
  inner-is k h =
      let e : L - k ≡ suc (L - suc k) = omega arith in
      let f : L - suc (L - suc k) ≡ k = omega arith in
      ap (λ (n : ℕ). (written m v path placed n).top) e
      ∙ ap (λ (j : ℕ). new_inner m v path placed j (item_digest m s (suc j) (written m v path placed (L - suc k)).top)) f

  below_length : (k : ℕ) → length (digest_below k) ≡ digest_len
  unfolding digest_below
  below_length k = o.digest_length (masked s (suc k) (new_item (suc k)))

  pub item-length : (k : ℕ) → k ≤ L → length (new_item k) ≡ item_len s k
  item-length k h =
      below_or k L
      (λ l. ap length (inner-is k l) ∙ inner-length k (digest_below k) l (below_length k) ∙ sym (inner-item s k l))
      (λ l.
      let e : k ≡ L = omega arith in
      rw e (ap length leaf-is ∙ head-length L (omega arith) ∙ sym (leaf-item s L (omega arith))))

  -- ---- where it lies

  top-length : (h : ℕ) → suc h ≤ L → length (written m v path placed (suc h)).top ≡ inner_len s
  unfolding new_item
  top-length h l =
      let e : L - (L - suc h) ≡ suc h = omega arith in
      ap (λ (n : ℕ). length (written m v path placed n).top) (sym e) ∙ item-length (L - suc h) (omega arith) ∙ inner-item s (L - suc h) (omega arith)

  abbrev whole : ℕ → List ℕ
  whole h = (written m v path placed h).top ++ (written m v path placed h).below

  lies_at : (h j : ℕ) → h ≤ L → j ≤ h → part (whole h) (item_at s j) (length (written m v path placed (h - j)).top) ≡ (written m v path placed (h - j)).top
  unfolding written
  lies_at zero zero l i = rw (zero-mul (inner_len s)) (ap (take (length (new_head m v path placed L))) (append-nil (new_head m v path placed L)) ∙ part-whole (new_head m v path placed L) (length (new_head m v path placed L)) (omega arith))
  lies_at zero (suc j) l i = absurd (omega arith)
  lies_at (suc h) zero l i =
      let top = (written m v path placed (suc h)).top in
      let e : suc h - 0 ≡ suc h = omega arith in
      rw (zero-mul (inner_len s), e) (take_at top (written m v path placed (suc h)).below (length top) refl)
  lies_at (suc h) (suc j) l i =
      let top = (written m v path placed (suc h)).top in
      let e : suc h - suc j ≡ h - j = omega arith in
      let n = length (written m v path placed (h - j)).top in
      rw e
      (part_right top (whole h) (item_at s j) (item_at s (suc j)) n (omega (arith, top-length h l, next-item s j)) ∙ lies_at h j (omega arith) (omega arith))

  pub item-new : (k : ℕ) → k ≤ L → item_of s (path_written m v path placed) k ≡ new_item k
  unfolding new_item
  item-new k h = ap (part (whole L) (item_at s k)) (sym (item-length k h)) ∙ lies_at L k (omega arith) h

  whole_length : (h : ℕ) → h ≤ L → length (whole h) ≡ item_at s h + leaf_len s
  unfolding written
  whole_length zero l = length-append (new_head m v path placed L) [] ∙ omega (arith, head-length L (omega arith), zero-mul (inner_len s))
  whole_length (suc h) l =
      length-append (written m v path placed (suc h)).top (whole h) ∙ omega (arith, top-length h l, whole_length h (omega arith), next-item s h)

  pub path_length : length (path_written m v path placed) ≡ path_len s
  path_length = whole_length L (omega arith)

  -- ---- its fields

  after-head : ℕ → List ℕ
  after-head k =
      new_flag m v path placed k 0 ∷ new_flag m v path placed k 1 ∷ (new_digest m v path placed k (digest_below k) 0 ++ new_digest m v path placed k (digest_below k) 1)

  split-is : (k : ℕ) → k < L → new_item k ≡ new_head m v path placed k ++ after-head k
  unfolding new_inner after-head
  split-is k h = inner-is k h

  pub flag-new : (k on : ℕ) → k < L → on ≤ 1 → flag_of s (new_item k) on ≡ new_flag m v path placed k on
  unfolding after-head
  flag-new k on h j =
      let e : flag_at s on ≡ length (new_head m v path placed k) + on = omega (arith, head-length k (omega arith)) in
      ap (λ (xs : List ℕ). get_or xs (flag_at s on) 0) (split-is k h) ∙ ap (λ (i : ℕ). get_or (new_head m v path placed k ++ after-head k) i 0) e
      ∙ get_or-append-add (new_head m v path placed k) (after-head k) on 0 ∙ two on j
    where
      two : (on : ℕ) → on ≤ 1 → get_or (after-head k) on 0 ≡ new_flag m v path placed k on
      two zero j = refl
      two (suc zero) j = refl
      two (suc (suc on)) j = absurd (omega arith)

  pub digest-new : (k on : ℕ) → k < L → on ≤ 1 → digest_of s (new_item k) on ≡ new_digest m v path placed k (digest_below k) on
  unfolding after-head
  digest-new k on h j =
      ap (λ (xs : List ℕ). part xs (digest_at s on) digest_len) (split-is k h)
      ∙ part_right (new_head m v path placed k) (after-head k) (flags_len + digest_len * on) (digest_at s on) digest_len (omega (arith, head-length k (omega arith)))
      ∙ two on j
    where
      d : ℕ → List ℕ
      d on = new_digest m v path placed k (digest_below k) on

      two : (on : ℕ) → on ≤ 1 → part (after-head k) (flags_len + digest_len * on) digest_len ≡ new_digest m v path placed k (digest_below k) on
      two zero j = take_at (d 0) (d 1) digest_len (digest_length k (digest_below k) 0 h (omega arith) (below_length k))
      two (suc zero) j =
          ap (take digest_len) (drop_at (d 0) (d 1) digest_len (digest_length k (digest_below k) 0 h (omega arith) (below_length k)))
          ∙ part-whole (d 1) digest_len (omega (arith, digest_length k (digest_below k) 1 h (omega arith) (below_length k)))
      two (suc (suc on)) j = absurd (omega arith)

  -- read from the new item: what is read from a head with anything behind it
  of-head : {A : Type 0} (k : ℕ) → k ≤ L → (read : List ℕ → A) (x : A) → ((more : List ℕ) → read (new_head m v path placed k ++ more) ≡ x) → read (new_item k) ≡ x
  of-head k h read x f =
      below_or k L
      (λ i. ap read (split-is k i) ∙ f (after-head k))
      (λ i.
      let e : k ≡ L = omega arith in
      ap read (ap new_item e ∙ leaf-is ∙ ap (new_head m v path placed) (sym e) ∙ sym (append-nil (new_head m v path placed k))) ∙ f [])

  pub slots-new : (k : ℕ) → k ≤ L → slots_opened m s v.key (bucket v k) (new_item k) ≡ slots_with s.slots (blocks_laid k)
  slots-new k h =
      let l = laid k h in
      of-head k h (slots_opened m s v.key (bucket v k)) (slots_with s.slots (blocks_laid k))
      (sealed-opened m o s v.key (new_counter m v path placed k) (bucket v k) (blocks_laid k) l.fits l.used l.few)

  pub blocks-new : (k : ℕ) → k ≤ L → blocks_in m s v.key (bucket v k) (new_item k) ≡ blocks_laid k
  blocks-new k h =
      let l = laid k h in
      of-head k h (blocks_in m s v.key (bucket v k)) (blocks_laid k)
      (sealed-holds m o s v.key (new_counter m v path placed k) (bucket v k) (blocks_laid k) l.fits l.used l.few)

  pub counter-new : (k : ℕ) → k ≤ L → new_counter m v path placed k < 2 ^ 64 → counter_of (new_item k) ≡ new_counter m v path placed k
  counter-new k h c =
      let l = laid k h in
      of-head k h counter_of (new_counter m v path placed k)
      (λ more. sealed-counter m o s v.key (new_counter m v path placed k) (bucket v k) (blocks_laid k) l.fits l.used l.few more c)

  -- a leaf's item is too short for flags
  pub leaf-flag : (on : ℕ) → flag_of s (new_item L) on ≡ 0
  leaf-flag on = beyond (new_item L) (flag_at s on) (omega (arith, item-length L (omega arith), leaf-item s L (omega arith)))
    where
      beyond : (xs : List ℕ) (i : ℕ) → length xs ≤ i → get_or xs i 0 ≡ 0
      beyond [] i h = refl
      beyond (x ∷ xs) zero h = absurd (omega arith)
      beyond (x ∷ xs) (suc i) h = beyond xs i (omega arith)
