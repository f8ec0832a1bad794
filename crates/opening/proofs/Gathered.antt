-- All that is gathered from a path that passes its checks can be placed, and every record there has its length. Assumes nothing.
use Prim.Native.Nat.{ℕ, zero, suc, ◌+◌, ◌-◌, ◌*◌, ◌≤◌, ◌<◌}
use mathlib.Core.Bool.{true}
use mathlib.Core.Path.{◌≡◌, sym, ap, ◌∙◌, subst}
use mathlib.Core.List.{List, [], ◌∷◌, append-nil}
use native.Mathlib.Nat.{mul-zero, zero-add, suc-add}
use native.Mathlib.Omega.{arith}
use lib.ListN.{length, drop}
use lib.Seq.{drop-drop}
use lib.Dec.{eqb}
use borrow.Author.Tests.{eqb-true, eqb-false, eq-eqb}
use Rattle.words.proofs.Tests.{by_cases, below_or}
use Rattle.bags.specs.Bags.{bit, cnt, those, AllOf}
use Rattle.bags.proofs.Bags.{cnt-append}
use Rattle.bags.proofs.All.{all_both, all_append, all-those}
use Rattle.sizes.specs.Sizes.{record_len, slots_len, path_len}
use Rattle.sizes.proofs.Lengths.{item_fits}
use Rattle.slots.specs.Slots.{Block, is_used, slot_by, block_by, blocks_by, blocks_of}
use Rattle.slots.proofs.Blocks.{slots-suc}
use Rattle.placing.specs.Ids.{Placeable}
use Rattle.desk.specs.Layout.{body_d, ids_of, shape_of}
use Rattle.desk.specs.Readers.{height_of, slots_in, sizes_of, key_of, id_asked, position_of, mark_of, is_marked, stash_count, stash_of}
use Rattle.desk.specs.Good.{good_desk}
use Rattle.desk.specs.Stash.{AllPlaced}
use Rattle.desk.proofs.Changed.{unchanged}
use Rattle.desk.proofs.Read.{read-position, read-mark}
use Rattle.items.specs.declared.View.{View}
use Rattle.items.specs.Items.{Means, Sound, counter_bytes, slots_of, nonce_of, slots_opened, blocks_in}
use Rattle.items.specs.Way.{item, bucket, reachable, Reached}
use Rattle.items.specs.Real.{real}
use Rattle.items.proofs.Fields.{item-long}
use Rattle.items.proofs.Way.{reached-below, reached-above}
use Rattle.items.proofs.Sealing.{length-slots}
use Rattle.opening.specs.Opening.{view_of, is_id, stash_slots, found_at, found_to, found, gathered, lookup, genuine, Reach, Genuine}
use Rattle.opening.specs.Walk.{OpenDesk, Unsealed}
use Rattle.opening.proofs.Walk.{slot-id}
use Rattle.opening.proofs.Found.{records-long, lookup-long}
use Rattle.opening.proofs.Genuine.{genuine-checks}
use Rattle.opening.proofs.Open.{stash_room, stash-id, good-stash}

-- ---- of all of a list

module _ (P : Block → Type 0) where
  -- by the slots that show them
  all_slots : (r n : ℕ) (xs : List ℕ) → ((i : ℕ) → i < n → P (block_by r (drop (slot_by r * i) xs))) → AllOf P (blocks_by r n xs)
  unfolding blocks_by
  all_slots r zero xs h = tt
  all_slots r (suc n) xs h = (
    subst (λ (i : ℕ). P (block_by r (drop i xs))) (mul-zero (slot_by r)) (h 0 (omega arith)),
    all_slots r n (drop (slot_by r) xs)
        (λ i l. subst (λ (ys : List ℕ). P (block_by r ys)) (ap (λ (k : ℕ). drop k xs) (slots-suc r i) ∙ sym (drop-drop (slot_by r * i) (slot_by r) xs)) (h (suc i) (omega arith))),
  )

all-used : (xs : List Block) → AllOf (λ b. 1 ≤ b.id) (those is_used xs)
unfolding those
all-used [] = tt
all-used (x ∷ xs) =
    by_cases (eqb x.id 0)
    (λ e. rw e (all-used xs))
    (λ e. let n = eqb-false x.id 0 e in rw e (omega (arith, n), all-used xs))

-- what holds of each id holds of one that is there
all-id : (Q : ℕ → Type 0) (id : ℕ) (bs : List Block) → AllOf (λ b. Q b.id) bs → 0 < cnt (is_id id) bs → Q id
all-id Q id [] a h = absurd (omega arith)
all-id Q id (b ∷ bs) a h =
    by_cases (eqb b.id id)
    (λ e. subst Q (eqb-true b.id id e) a.0)
    (λ e. let f : bit (eqb b.id id) ≡ 0 = ap bit e in all-id Q id bs a.1 (omega arith))

-- ---- what is gathered

module _ (m : Means) (desk path : List ℕ) where
  -- of the blocks of each reachable item, and of the stash
  all_found : (P : Block → Type 0) → ((k : ℕ) → Reach m desk path k → AllOf P (found m desk path k)) → (n : ℕ) → n ≤ suc (height_of desk) → AllOf P (found_to m (view_of desk) path n)
  unfolding found_to found_at
  all_found P f zero l = tt
  all_found P f (suc k) l =
      all_append P (found_to m (view_of desk) path k) (found m desk path k) (all_found P f k (omega arith))
      (by_cases (reachable (view_of desk) path k) (λ e. f k (omega arith, e)) (λ e. rw e tt))

  all-gathered : (P : Block → Type 0) → ((k : ℕ) → Reach m desk path k → AllOf P (found m desk path k)) → AllOf P (stash_of desk) → AllOf P (gathered m desk path)
  unfolding gathered
  all-gathered P f s = all_append P (found_to m (view_of desk) path (suc (height_of desk))) (stash_of desk) (all_found P f (suc (height_of desk)) (omega arith)) s

  module _ (o : OpenDesk desk) where
    stash-low : AllOf (λ b. 1 ≤ b.id) (stash_of desk)
    stash-low = all_slots (λ b. 1 ≤ b.id) record_len (stash_count desk) (stash_slots desk) (λ i l. omega (arith, slot-id record_len i (stash_slots desk), stash-id desk o i, o.used i l))

    stash-high : AllOf (λ b. b.id ≤ ids_of desk) (stash_of desk)
    stash-high = all_slots (λ b. b.id ≤ ids_of desk) record_len (stash_count desk) (stash_slots desk) (λ i l. omega (arith, slot-id record_len i (stash_slots desk), stash-id desk o i, o.known i l))

    found-low : (k : ℕ) → Reach m desk path k → AllOf (λ b. 1 ≤ b.id) (found m desk path k)
    unfolding found_at blocks_in
    found-low k r = rw r.1 (all-used (blocks_of (slots_in desk) (slots_opened m (sizes_of desk) (key_of desk) (bucket (view_of desk) k) (item (view_of desk) path k))))

    module _ (g : Genuine m desk path) where
      gathered-once : (id : ℕ) → cnt (is_id id) (gathered m desk path) ≤ 1
      unfolding gathered
      gathered-once id =
          let bs : List Block = found_to m (view_of desk) path (suc (height_of desk)) in
          let n : ℕ = cnt (is_id id) bs in
          let once : AllOf (λ b. cnt (is_id b.id) (gathered m desk path) ≡ 1) bs =
          all_found (λ b. cnt (is_id b.id) (gathered m desk path) ≡ 1) g.once (suc (height_of desk)) (omega arith) in
          below_or 0 n
          (λ h. let e : cnt (is_id id) (gathered m desk path) ≡ 1 = all-id (λ x. cnt (is_id x) (gathered m desk path) ≡ 1) id bs once h in omega (arith, e))
          (λ h. omega (arith, cnt-append (is_id id) bs (stash_of desk), o.once id))

      pub gathered-placeable : Placeable (ids_of desk) (gathered m desk path)
      gathered-placeable =
          record {
            low = all-gathered (λ b. 1 ≤ b.id) found-low stash-low;
            high = all-gathered (λ b. b.id ≤ ids_of desk) g.ids stash-high;
            once = gathered-once;
          }

      -- in a good desk each is marked, and carries its position's leaf
      pub gathered-stands : good_desk desk ≡ true → AllOf (λ b. (is_marked desk b.id ≡ true) × (b.leaf ≡ position_of desk b.id)) (gathered m desk path)
      gathered-stands good =
          all-gathered (λ b. (is_marked desk b.id ≡ true) × (b.leaf ≡ position_of desk b.id))
          (λ k r. all_both (λ b. is_marked desk b.id ≡ true) (λ b. b.leaf ≡ position_of desk b.id) (found m desk path k) (g.marks k r) (g.positions k r))
          (in-stash (stash_of desk) (good-stash desk good).placed stash-low)
        where
          in-stash : (bs : List Block) → AllPlaced (shape_of desk) (body_d (shape_of desk) desk) bs → AllOf (λ b. 1 ≤ b.id) bs
              → AllOf (λ b. (is_marked desk b.id ≡ true) × (b.leaf ≡ position_of desk b.id)) bs
          in-stash [] p l = tt
          in-stash (b ∷ bs) p l = (
            (
              eq-eqb (mark_of desk b.id) 1 (read-mark (unchanged desk) b.id l.0 p.0.high ∙ p.0.marked),
              p.0.carries ∙ sym (read-position (unchanged desk) b.id l.0 p.0.high),
            ),
            in-stash bs p.1 l.1,
          )

    -- ---- records

    module _ (sound : Sound m) (room : path_len (sizes_of desk) ≤ length path) where
      found-long : (k : ℕ) → Reach m desk path k → AllOf (λ b. length b.bytes ≡ record_len) (found m desk path k)
      unfolding found_at blocks_in
      found-long k r =
          let s = sizes_of desk in
          let it = item (view_of desk) path k in
          let xs = slots_opened m s (key_of desk) (bucket (view_of desk) k) it in
          let n : length xs ≡ slots_len s =
          sound.cipher_length (key_of desk) (nonce_of (counter_bytes it) (bucket (view_of desk) k)) (slots_of s it)
          ∙ length-slots s path k (omega (arith, item_fits s k r.0, item-long s path k)) in
          rw r.1 (all-those is_used (λ b. length b.bytes ≡ record_len) (blocks_of (slots_in desk) xs) (records-long record_len (slots_in desk) xs (omega arith)))

      pub gathered-long : AllOf (λ b. length b.bytes ≡ record_len) (gathered m desk path)
      gathered-long = all-gathered (λ b. length b.bytes ≡ record_len) found-long (records-long record_len (stash_count desk) (stash_slots desk) (stash_room desk o))

      -- the record of the requested id, where the path passes its checks and the id is marked
      pub record-length : genuine m desk path ≡ true → is_marked desk (id_asked desk) ≡ true → length (lookup (id_asked desk) (gathered m desk path)) ≡ record_len
      record-length g h = lookup-long (id_asked desk) record_len (gathered m desk path) gathered-long ((genuine-checks m desk path g).there h)

-- ---- the working copy: its slots in use are the blocks that were found

module _ (v : View) (path w : List ℕ) (n : ℕ) (r : Reached v path n) (u : Unsealed v path n w) where
  pub opened-found : (k : ℕ) → k < n → those is_used (blocks_of v.sizes.slots (slots_of v.sizes (item v w k))) ≡ found_at real v path k
  unfolding found_at blocks_in
  opened-found k h =
      let e = reached-below v path n r k (omega (arith, r.most)) h in
      rw e (ap (λ (xs : List ℕ). those is_used (blocks_of v.sizes.slots xs)) (u.slots k h))

  -- behind them nothing is found
  behind : (d : ℕ) → d + n ≤ suc v.sizes.height → found_to real v path (d + n) ≡ found_to real v path n
  unfolding found_to found_at
  behind zero l = rw zero-add
  behind (suc d) l =
      let e = reached-above v path n r (d + n) (omega arith) (omega arith) in
      rw (suc-add d n) (rw (e, append-nil) (behind d (omega arith)))

  pub found_first : found_to real v path (suc v.sizes.height) ≡ found_to real v path n
  found_first =
      let d = suc v.sizes.height - n in
      let e : d + n ≡ suc v.sizes.height = omega (arith, r.most) in
      ap (found_to real v path) (sym e) ∙ behind d (omega arith)
