-- What each field of a desk reads, from its parts. Assumes nothing.
use Prim.Native.Nat.{ℕ, ◌+◌, ◌-◌, ◌≤◌, ◌<◌}
use mathlib.Core.Path.{◌≡◌, sym, ap, ◌∙◌}
use mathlib.Core.List.{List}
use native.Mathlib.Omega.{arith}
use lib.ListN.{get_or, drop}
use lib.Seq.{drop-drop}
use Rattle.words.specs.Bytes.{part}
use Rattle.words.specs.Numbers.{number}
use Rattle.words.proofs.Splice.{get_d_part, part-part}
use Rattle.words.proofs.Numbers.{number-part, number-drop}
use Rattle.sizes.specs.Sizes.{request_head, count_len, leaf_in}
use Rattle.slots.specs.Slots.{blocks_by}
use Rattle.desk.specs.declared.Shape.{Shape}
use Rattle.desk.specs.Layout.{c_at, d_at, e_at, slot_at, ids_of, shape_of, kind_in, id_in, new_leaf_in, place_at, mark_in}
use Rattle.desk.specs.Readers.{kind_byte, id_asked, new_leaf, record_asked, position_of, mark_of, stash_count, stash_id, stash_leaf, stash_of}
use Rattle.desk.specs.Parts.{Parts}
use Rattle.desk.proofs.Changed.{Changed, same_shape}

module _ {xs ys : List ℕ} {v : Parts} (c : Changed xs ys v) where
  abbrev h : Shape
  h = shape_of xs

  -- ---- body (c): a byte and a number at i, by the place at which the desk itself has them

  pub request-byte : (i : ℕ) → i < request_head → get_or ys (c_at (shape_of ys) + i) 0 ≡ get_or v.request i 0
  request-byte i l =
      ap (λ (g : Shape). get_or ys (c_at g + i) 0) (same_shape c.same)
      ∙ sym (get_d_part ys (c_at h) (d_at h - c_at h) i (omega arith)) ∙ ap (λ (q : List ℕ). get_or q i 0) c.request

  pub request-number : (i : ℕ) → i + 2 ≤ request_head → number 2 ys (c_at (shape_of ys) + i) ≡ number 2 v.request i
  request-number i l =
      ap (λ (g : Shape). number 2 ys (c_at g + i)) (same_shape c.same)
      ∙ sym (number-part 2 ys (c_at h) (d_at h - c_at h) i (omega arith)) ∙ ap (λ (q : List ℕ). number 2 q i) c.request

  pub read-kind : kind_byte ys ≡ get_or v.request kind_in 0
  read-kind = request-byte kind_in (omega arith)

  pub read-id : id_asked ys ≡ number 2 v.request id_in
  read-id = request-number id_in (omega arith)

  pub read-new-leaf : new_leaf ys ≡ number 2 v.request new_leaf_in
  read-new-leaf = request-number new_leaf_in (omega arith)

  pub read-record : record_asked ys ≡ part v.request request_head h.r
  read-record =
      ap (λ (g : Shape). part ys (c_at g + request_head) g.r) (same_shape c.same)
      ∙ sym (part-part ys (c_at h) (d_at h - c_at h) request_head h.r (omega arith)) ∙ ap (λ (q : List ℕ). part q request_head h.r) c.request

  -- ---- body (d)

  pub read-position : (id : ℕ) → 1 ≤ id → id ≤ ids_of xs → position_of ys id ≡ number 2 v.places (place_at id)
  read-position id a b =
      ap (λ (g : Shape). number 2 ys (d_at g + place_at id)) (same_shape c.same)
      ∙ sym (number-part 2 ys (d_at h) (e_at h - d_at h) (place_at id) (omega arith)) ∙ ap (λ (d : List ℕ). number 2 d (place_at id)) c.places

  pub read-mark : (id : ℕ) → 1 ≤ id → id ≤ ids_of xs → mark_of ys id ≡ get_or v.places (place_at id + mark_in) 0
  read-mark id a b =
      let e : d_at h + place_at id + mark_in ≡ d_at h + (place_at id + mark_in) = omega arith in
      ap (λ (g : Shape). get_or ys (d_at g + place_at id + mark_in) 0) (same_shape c.same)
      ∙ ap (λ (k : ℕ). get_or ys k 0) e
      ∙ sym (get_d_part ys (d_at h) (e_at h - d_at h) (place_at id + mark_in) (omega arith)) ∙ ap (λ (d : List ℕ). get_or d (place_at id + mark_in) 0) c.places

  -- ---- body (e)

  stash-number : (i : ℕ) → number 2 ys (e_at h + i) ≡ number 2 v.stash i
  stash-number i = sym (number-drop 2 ys (e_at h) i) ∙ ap (λ (e : List ℕ). number 2 e i) c.stash

  pub read_count : stash_count ys ≡ number 2 v.stash 0
  read_count =
      let e : e_at h ≡ e_at h + 0 = omega arith in
      ap (λ (g : Shape). number 2 ys (e_at g)) (same_shape c.same) ∙ ap (number 2 ys) e ∙ stash-number 0

  pub read-stash-id : (i : ℕ) → stash_id ys i ≡ number 2 v.stash (slot_at h i)
  read-stash-id i = ap (λ (g : Shape). number 2 ys (e_at g + slot_at g i)) (same_shape c.same) ∙ stash-number (slot_at h i)

  pub read-stash-leaf : (i : ℕ) → stash_leaf ys i ≡ number 2 v.stash (slot_at h i + leaf_in)
  read-stash-leaf i =
      let e : e_at h + slot_at h i + leaf_in ≡ e_at h + (slot_at h i + leaf_in) = omega arith in
      ap (λ (g : Shape). number 2 ys (e_at g + slot_at g i + leaf_in)) (same_shape c.same) ∙ ap (number 2 ys) e ∙ stash-number (slot_at h i + leaf_in)

  pub read-stash : stash_of ys ≡ blocks_by h.r (number 2 v.stash 0) (drop count_len v.stash)
  read-stash =
      ap (λ (n : ℕ). blocks_by (shape_of ys).r n (drop (e_at (shape_of ys) + count_len) ys)) read_count
      ∙ ap (λ (g : Shape). blocks_by g.r (number 2 v.stash 0) (drop (e_at g + count_len) ys)) (same_shape c.same)
      ∙ ap (blocks_by h.r (number 2 v.stash 0)) (sym (drop-drop count_len (e_at h) ys) ∙ ap (drop count_len) c.stash)
