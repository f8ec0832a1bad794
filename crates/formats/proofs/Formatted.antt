-- The desk that format writes is good and reads as it was asked for, whatever the buffer held before. Assumes nothing.
use Prim.Native.Nat.{ℕ, ◌+◌, ◌-◌, ◌≤◌, ◌<◌}
use mathlib.Core.Path.{◌≡◌, refl, sym, ap, subst, ◌∙◌}
use mathlib.Core.Bool.{true}
use mathlib.Core.List.{List, [], ◌∷◌, ◌++◌}
use native.Mathlib.Omega.{arith}
use lib.ListN.{length, get_or, drop, length-append, get_or-append}
use lib.Seq.{get_or-append-add, take_at}
use lib.Dec.{ltb}
use borrow.Author.Tests.{le-leb, ltb-true}
use Rattle.words.specs.Bytes.{part, zeros}
use Rattle.words.specs.Numbers.{number, bytes_of}
use Rattle.words.specs.Tests.{Each, all_zero}
use Rattle.words.proofs.Splice.{length-zeros, drop-zeros, part_left, part_right, part-tail, part-whole}
use Rattle.words.proofs.Numbers.{length-bytes_of, number-bytes_of}
use Rattle.words.proofs.Tests.{every_of, all_none, all-at, zeros-zero}
use Rattle.sizes.specs.declared.Sizes.{Sizes}
use Rattle.sizes.specs.Sizes.{sized, leaves, contents_len, a_len, key_len, digest_len, d_len, count_len}
use Rattle.sizes.proofs.Lengths.{leaves_most}
use Rattle.slots.specs.Slots.{blocks_by}
use Rattle.slots.proofs.Numbers.{number-left, number-right}
use Rattle.desk.specs.declared.Shape.{Shape}
use Rattle.desk.specs.Layout.{a_at, b_at, c_at, c_len, d_at, e_at, e_len, slot_at, shape_len, contents, body_c, body_d, body_e, ids_at, ids_of, room_of, shape_of, place_at, mark_in}
use Rattle.desk.specs.Readers.{sizes_of, status_of, written_of, key_of, root_of, position_of, mark_of, stash_of}
use Rattle.desk.specs.Status.{ready_status}
use Rattle.desk.specs.Good.{request_good, slot_good, stash_good, bodies_tests, good_desk}
use Rattle.desk.proofs.Known.{Head}
use Rattle.desk.proofs.Lengths.{length-contents}
use Rattle.desk.proofs.Changed.{unchanged}
use Rattle.desk.proofs.Read.{read-position, read-mark, read-stash}
use Rattle.desk.proofs.Frame.{good_of}
use Rattle.desk.proofs.Stash.{stash_tests}
use Rattle.desk.proofs.Request.{number-zeros}
use Rattle.formats.specs.Format.{new_shape, head_bytes, unmarked, formatted}
use Rattle.formats.proofs.Unmarked.{length-unmarked, unmarked-at, unmarked-good}
use Rattle.formats.proofs.Passed.{FormatPassed}

-- an empty stash is good
pub empty-stash : (h : Shape) (d : List ℕ) (m : ℕ) → stash_good h d (zeros m) ≡ true
unfolding stash_good
empty-stash h d m =
    let n : number 2 (zeros m) 0 ≡ 0 = number-zeros 2 m 0 in
    every_of (stash_tests h d (zeros m)) (
      rw n (le-leb 0 h.s (omega arith)),
      (rw n (all_none (slot_good h d (zeros m))), (ap all_zero (drop-zeros (slot_at h (number 2 (zeros m) 0)) m) ∙ zeros-zero (m - slot_at h (number 2 (zeros m) 0)), tt)),
    )

module _ (desk : List ℕ) (l z room n : ℕ) (key starts : List ℕ) (p : FormatPassed desk l z room n key starts) where
  abbrev h : Shape
  h = new_shape n room

  abbrev new : List ℕ
  new = formatted l z room n key starts

  -- what stands behind the contents, behind body (a), behind the key, behind body (b), behind body (c)
  abbrev behind_c : List ℕ
  behind_c = unmarked starts ++ zeros (e_len h)

  abbrev behind_b : List ℕ
  behind_b = zeros (c_len h) ++ behind_c

  abbrev behind_key : List ℕ
  behind_key = zeros digest_len ++ behind_b

  abbrev behind_a : List ℕ
  behind_a = key ++ behind_key

  abbrev behind : List ℕ
  behind = head_bytes l z room n ++ behind_a

  places-length : length (unmarked starts) ≡ d_len n
  places-length = length-unmarked starts ∙ ap d_len p.starts_length

  head-length : length (head_bytes l z room n) ≡ a_len
  head-length = omega (arith, length-bytes_of 2 n)

  small-ids : n < 65536
  small-ids = omega (arith, p.ids_high)

  pub new-length : length new ≡ shape_len h
  unfolding formatted
  new-length =
      omega (
        arith,
        length-append (contents h) behind,
        length-contents h,
        length-append (head_bytes l z room n) behind_a,
        head-length,
        length-append key behind_key,
        p.key_length,
        length-append (zeros digest_len) behind_b,
        length-zeros digest_len,
        length-append (zeros (c_len h)) behind_c,
        length-zeros (c_len h),
        length-append (unmarked starts) (zeros (e_len h)),
        places-length,
        length-zeros (e_len h),
      )

  -- ---- body (a)

  head_byte : (i : ℕ) → i < a_len → get_or new (a_at + i) 0 ≡ get_or (head_bytes l z room n) i 0
  unfolding formatted
  head_byte i k =
      ap (λ (j : ℕ). get_or (contents h ++ behind) (j + i) 0) (sym (length-contents h)) ∙ get_or-append-add (contents h) behind i 0
      ∙ get_or-append (head_bytes l z room n) behind_a 0 i (omega (arith, head-length))

  pub new-ids : ids_of new ≡ n
  unfolding formatted
  new-ids =
      number-right 2 (contents h) behind 6 ids_at (omega (arith, length-contents h))
      ∙ number-left 2 (head_bytes l z room n) behind_a 6 (omega (arith, head-length))
      ∙ number-right 2 (l ∷ z ∷ room ∷ ready_status ∷ 0 ∷ 0 ∷ []) (bytes_of 2 n) 0 6 refl ∙ number-bytes_of 2 n small-ids

  pub new-room : room_of new ≡ room
  new-room = head_byte 2 (omega arith)

  pub new-shape : shape_of new ≡ h
  new-shape = rw (new-ids, new-room)

  pub new-sizes : sizes_of new ≡ sized l z
  new-sizes = rw (head_byte 0 (omega arith), head_byte 1 (omega arith))

  new-head : Head new
  new-head =
      let s = head_byte 3 (omega arith) in
      let w = head_byte 4 (omega arith) in
      record {
        sizes = rw new-sizes p.sizes;
        ids_low = rw new-ids p.ids_low;
        ids_high = rw new-ids p.ids_high;
        status_high = omega arith;
        written_high = omega arith;
        zero = head_byte 5 (omega arith);
      }

  -- ---- contents and the other bodies, each by what stands before it

  new-contents : part new 0 contents_len ≡ contents h
  unfolding formatted
  new-contents = take_at (contents h) behind contents_len (length-contents h)

  from-b : (i m : ℕ) → part new (b_at + i) m ≡ part behind_a i m
  unfolding formatted
  from-b i m =
      part_right (contents h) behind (a_len + i) (b_at + i) m (omega (arith, length-contents h))
      ∙ part_right (head_bytes l z room n) behind_a i (a_len + i) m (omega (arith, head-length))

  pub new-key : key_of new ≡ key
  new-key = from-b 0 key_len ∙ part_left key behind_key 0 key_len (omega (arith, p.key_length)) ∙ part-whole key key_len (omega (arith, p.key_length))

  pub new-root : root_of new ≡ zeros digest_len
  new-root =
      from-b key_len digest_len ∙ part_right key behind_key 0 key_len digest_len (omega (arith, p.key_length))
      ∙ part_left (zeros digest_len) behind_b 0 digest_len (omega (arith, length-zeros digest_len))

  from-c : (i m : ℕ) → part new (c_at h + i) m ≡ part behind_b i m
  from-c i m =
      let e : c_at h + i ≡ b_at + (key_len + (digest_len + i)) = omega arith in
      ap (λ (j : ℕ). part new j m) e ∙ from-b (key_len + (digest_len + i)) m
      ∙ part_right key behind_key (digest_len + i) (key_len + (digest_len + i)) m (omega (arith, p.key_length))
      ∙ part_right (zeros digest_len) behind_b i (digest_len + i) m (omega (arith, length-zeros digest_len))

  new-request : body_c h new ≡ zeros (c_len h)
  new-request =
      let e : c_at h ≡ c_at h + 0 = omega arith in
      let m : d_at h - c_at h ≡ c_len h = omega arith in
      ap (λ (j : ℕ). part new j (d_at h - c_at h)) e ∙ from-c 0 (d_at h - c_at h)
      ∙ part_left (zeros (c_len h)) behind_c 0 (d_at h - c_at h) (omega (arith, length-zeros (c_len h)))
      ∙ part-whole (zeros (c_len h)) (d_at h - c_at h) (omega (arith, length-zeros (c_len h)))

  new-places : body_d h new ≡ unmarked starts
  new-places =
      from-c (c_len h) (e_at h - d_at h) ∙ part_right (zeros (c_len h)) behind_c 0 (c_len h) (e_at h - d_at h) (omega (arith, length-zeros (c_len h)))
      ∙ part_left (unmarked starts) (zeros (e_len h)) 0 (e_at h - d_at h) (omega (arith, places-length))
      ∙ part-whole (unmarked starts) (e_at h - d_at h) (omega (arith, places-length))

  new-stash : body_e h new ≡ zeros (e_len h)
  new-stash =
      let e : e_at h ≡ c_at h + (c_len h + d_len n) = omega arith in
      sym (part-tail new (e_at h) (e_len h) (omega (arith, new-length)))
      ∙ ap (λ (j : ℕ). part new j (e_len h)) e ∙ from-c (c_len h + d_len n) (e_len h)
      ∙ part_right (zeros (c_len h)) behind_c (d_len n) (c_len h + d_len n) (e_len h) (omega (arith, length-zeros (c_len h)))
      ∙ part_right (unmarked starts) (zeros (e_len h)) 0 (d_len n) (e_len h) (omega (arith, places-length))
      ∙ part-whole (zeros (e_len h)) (e_len h) (omega (arith, length-zeros (e_len h)))

  -- ---- so it is good

  new-bodies : Each (bodies_tests (leaves (sizes_of new)) (shape_of new) (status_of new) new)
  unfolding request_good
  new-bodies =
      let most : leaves (sized l z) ≤ 65536 = omega (arith, leaves_most (sized l z) p.sizes.height_high) in
      let e : Each (bodies_tests (leaves (sized l z)) h (status_of new) new) = (
        rw (head_byte 3 (omega arith), new-request) (zeros-zero (c_len h)),
        (
          rw new-places (rw p.starts_length at (unmarked-good (leaves (sized l z)) starts p.leaves_are_good most)),
          (rw (new-places, new-stash) (empty-stash h (unmarked starts) (e_len h)), tt),
        ),
      ) in
      subst (λ (s : Sizes). Each (bodies_tests (leaves s) (shape_of new) (status_of new) new)) (sym new-sizes)
      (subst (λ (g : Shape). Each (bodies_tests (leaves (sized l z)) g (status_of new) new)) (sym new-shape) e)

  pub formatted-good : good_desk new ≡ true
  formatted-good =
      good_of new
      (record { head = new-head; size = new-length ∙ ap shape_len (sym new-shape); computed = new-contents ∙ ap contents (sym new-shape); bodies = new-bodies })

  -- ---- what it reads: ready, nothing written, each id at its starting leaf and not marked, no blocks

  pub new-status : status_of new ≡ ready_status
  new-status = head_byte 3 (omega arith)

  pub new-written : written_of new ≡ 0
  new-written = head_byte 4 (omega arith)

  places_of : body_d (shape_of new) new ≡ unmarked starts
  places_of = ap (λ (g : Shape). body_d g new) new-shape ∙ new-places

  start-at : (id : ℕ) → 1 ≤ id → id ≤ n → get_or starts (id - 1) 0 < leaves (sized l z)
  start-at id a b =
      ltb-true _ _ (all-at (λ i. ltb (get_or starts i 0) (leaves (sized l z))) (length starts) (id - 1) (omega (arith, p.starts_length)) p.leaves_are_good)

  place_of : (id : ℕ) → 1 ≤ id → id ≤ n → (number 2 (unmarked starts) (place_at id) ≡ get_or starts (id - 1) 0) × (get_or (unmarked starts) (place_at id + mark_in) 0 ≡ 0)
  place_of id a b =
      unmarked-at starts (id - 1) (omega (arith, p.starts_length)) (omega (arith, start-at id a b, leaves_most (sized l z) p.sizes.height_high))

  pub new-position : (id : ℕ) → 1 ≤ id → id ≤ n → position_of new id ≡ get_or starts (id - 1) 0
  new-position id a b =
      read-position (unchanged new) id a (rw new-ids b) ∙ ap (λ (d : List ℕ). number 2 d (place_at id)) places_of ∙ (place_of id a b).0

  pub new-mark : (id : ℕ) → 1 ≤ id → id ≤ n → mark_of new id ≡ 0
  new-mark id a b =
      read-mark (unchanged new) id a (rw new-ids b) ∙ ap (λ (d : List ℕ). get_or d (place_at id + mark_in) 0) places_of ∙ (place_of id a b).1

  pub new-blocks : stash_of new ≡ []
  unfolding blocks_by
  new-blocks =
      let e : body_e (shape_of new) new ≡ zeros (e_len h) = ap (λ (g : Shape). body_e g new) new-shape ∙ new-stash in
      let c : number 2 (body_e (shape_of new) new) 0 ≡ 0 = ap (λ (x : List ℕ). number 2 x 0) e ∙ number-zeros 2 (e_len h) 0 in
      read-stash (unchanged new) ∙ ap (λ (k : ℕ). blocks_by (shape_of new).r k (drop count_len (body_e (shape_of new) new))) c
