-- The test says that a desk is good exactly where every condition of the paper holds. Assumes nothing.
use Prim.Native.Nat.{ℕ, zero, suc, ◌+◌, ◌-◌, ◌≤◌, ◌<◌}
use mathlib.Core.Path.{◌≡◌, sym, ap, ◌∙◌}
use mathlib.Core.Logic.{◌↔◌}
use mathlib.Core.Bool.{true}
use mathlib.Core.List.{List}
use native.Mathlib.Omega.{arith}
use lib.ListN.{length, get_or, drop, length-drop}
use lib.Seq.{get_or-drop}
use lib.Dec.{eqb}
use borrow.Author.Tests.{lt-ltb, le-leb, eq-eqb, ltb-true, leb-true, eqb-true}
use Rattle.words.specs.Bytes.{part, zeros}
use Rattle.words.specs.Numbers.{number}
use Rattle.words.specs.Tests.{Each, all, all_zero}
use Rattle.words.proofs.Splice.{length_part}
use Rattle.words.proofs.Tests.{each, every_of, all-at, all_true}
use Rattle.sizes.specs.Sizes.{leaves, request_head, leaf_in}
use Rattle.slots.proofs.Blocks.{drop-part}
use Rattle.desk.specs.declared.Shape.{Shape}
use Rattle.desk.specs.Layout.{c_at, c_len, d_at, e_at, slot_at, shape_len, body_c, body_d, body_e, ids_of, shape_of, place_at, mark_in, zero_in, zeros_in}
use Rattle.desk.specs.Readers.{sizes_of, status_of, position_of, mark_of, record_asked, stash_count, stash_id, stash_leaf}
use Rattle.desk.specs.Good.{Good, id_at, id_before, slot_after, slot_good, place_good, places_good, stash_good, good_desk}
use Rattle.desk.specs.Parts.{parts_of}
use Rattle.desk.proofs.Known.{known}
use Rattle.desk.proofs.Changed.{Changed, unchanged}
use Rattle.desk.proofs.Frame.{good_of}
use Rattle.desk.proofs.Read.{request-byte, request-number, read-kind, read-id, read-new-leaf, read-position, read-mark, read_count, read-stash-id, read-stash-leaf}
use Rattle.desk.proofs.Places.{place-known, place-holds}
use Rattle.desk.proofs.Stash.{slot_tests, stash_tests}
use Rattle.desk.proofs.Request.{RequestKnown, request-known, request-holds}

module _ (desk : List ℕ) where
  abbrev h : Shape
  h = shape_of desk

  abbrev c : List ℕ
  c = body_c h desk

  abbrev d : List ℕ
  d = body_d h desk

  abbrev e : List ℕ
  e = body_e h desk

  abbrev most : ℕ
  most = leaves (sizes_of desk)

  u : Changed desk desk (parts_of desk)
  u = unchanged desk

  -- ---- the record of body (c)

  body-length : length desk ≡ shape_len h → length c ≡ c_len h
  body-length w = length_part desk (c_at h) (d_at h - c_at h) (omega arith) ∙ body-c
    where
      body-c : d_at h - c_at h ≡ c_len h
      body-c = omega arith

  record_is : length desk ≡ shape_len h → drop request_head c ≡ record_asked desk
  record_is w =
      let q : d_at h - c_at h ≡ request_head + h.r = omega arith in
      ap (λ (n : ℕ). drop request_head (part desk (c_at h) n)) q ∙ drop-part desk (c_at h) request_head h.r

  record-length : length desk ≡ shape_len h → length (drop request_head c) ≡ h.r
  record-length w = omega (arith, length-drop request_head c, body-length w)

  -- ---- places: id from 1 on, place from 0 on

  place_at_lem : places_good most (ids_of desk) d ≡ true → (id : ℕ) → 1 ≤ id → id ≤ ids_of desk → (position_of desk id < most) × (mark_of desk id ≤ 1)
  unfolding places_good
  place_at_lem g id a b =
      let k = place-known most d (id - 1) (all-at (place_good most d) (ids_of desk) (id - 1) (omega arith) g) in
      (rw (read-position u id a b) k.0, rw (read-mark u id a b) k.1)

  places_of : ((id : ℕ) → 1 ≤ id → id ≤ ids_of desk → position_of desk id < most) → ((id : ℕ) → 1 ≤ id → id ≤ ids_of desk → mark_of desk id ≤ 1)
      → places_good most (ids_of desk) d ≡ true
  unfolding places_good
  places_of p m =
      all_true (place_good most d) (ids_of desk)
      (λ i l.
      let q : suc i - 1 ≡ i = omega arith in
      let x : number 2 d (place_at (suc i)) < most = rw (read-position u (suc i) (omega arith) (omega arith)) at (p (suc i) (omega arith) (omega arith)) in
      let y : get_or d (place_at (suc i) + mark_in) 0 ≤ 1 = rw (read-mark u (suc i) (omega arith) (omega arith)) at (m (suc i) (omega arith) (omega arith)) in
      place-holds most d i (rw q at x) (rw q at y))

  -- ---- slots of the stash in use

  slot-tests : stash_good h d e ≡ true → (i : ℕ) → i < stash_count desk → Each (slot_tests (id_before h e i) h d e i)
  unfolding stash_good slot_after
  slot-tests g i l =
      let t : Each (stash_tests h d e) = each (stash_tests h d e) g in
      each (slot_tests (id_before h e i) h d e i) (all-at (slot_good h d e) (number 2 e 0) i (omega (arith, read_count u)) t.1.0)

  pub record Slot (i : ℕ) : Type 0 where
    pub rises : id_before h e i < stash_id desk i
    pub high : stash_id desk i ≤ ids_of desk
    pub marked : mark_of desk (stash_id desk i) ≡ 1
    pub carries : stash_leaf desk i ≡ position_of desk (stash_id desk i)

  slot-known : stash_good h d e ≡ true → (i : ℕ) → i < stash_count desk → Slot i
  slot-known g i l =
      let t = slot-tests g i l in
      let s : stash_id desk i ≡ id_at h e i = read-stash-id u i in
      let a : id_before h e i < stash_id desk i = rw s (ltb-true _ _ t.0) in
      let b : stash_id desk i ≤ ids_of desk = rw s (leb-true _ _ t.1.0) in
      record {
        rises = a;
        high = b;
        marked = read-mark u (stash_id desk i) (omega arith) b ∙ rw s (eqb-true _ _ t.1.1.0);
        carries =
            read-stash-leaf u i ∙ eqb-true _ _ t.1.1.1.0 ∙ ap (λ (k : ℕ). number 2 d (place_at k)) (sym s) ∙ sym (read-position u (stash_id desk i) (omega arith) b);
      }

  slot-holds : (i : ℕ) → Slot i → slot_good h d e i ≡ true
  unfolding slot_after
  slot-holds i k =
      let s : stash_id desk i ≡ id_at h e i = read-stash-id u i in
      let a : id_before h e i < id_at h e i = rw s at k.rises in
      let b : id_at h e i ≤ ids_of desk = rw s at k.high in
      let r = k.rises in
      let m : get_or d (place_at (id_at h e i) + mark_in) 0 ≡ 1 = rw s at (sym (read-mark u (stash_id desk i) (omega arith) k.high) ∙ k.marked) in
      let f : number 2 e (slot_at h i + leaf_in) ≡ number 2 d (place_at (id_at h e i)) =
      sym (read-stash-leaf u i) ∙ k.carries ∙ read-position u (stash_id desk i) (omega arith) k.high ∙ ap (λ (j : ℕ). number 2 d (place_at j)) s in
      every_of (slot_tests (id_before h e i) h d e i) (lt-ltb _ _ a, (le-leb _ _ b, (eq-eqb _ _ m, (eq-eqb _ _ f, tt))))

  -- ---- slots that are not in use: byte j behind n slots

  behind : (n j : ℕ) → get_or (drop (slot_at h n) e) j 0 ≡ get_or desk (e_at h + slot_at h n + j) 0
  behind n j =
      let q : e_at h + (slot_at h n + j) ≡ e_at h + slot_at h n + j = omega arith in
      get_or-drop (slot_at h n) e j 0 ∙ get_or-drop (e_at h) desk (slot_at h n + j) 0 ∙ ap (λ (k : ℕ). get_or desk k 0) q

  unused-known : (n : ℕ) → all_zero (drop (slot_at h n) e) ≡ true → (i : ℕ) → e_at h + slot_at h n ≤ i → i < length desk → get_or desk i 0 ≡ 0
  unused-known n g i a b =
      let j = i - (e_at h + slot_at h n) in
      let q : i ≡ e_at h + slot_at h n + j = omega arith in
      ap (λ (k : ℕ). get_or desk k 0) q ∙ sym (behind n j)
      ∙ eqb-true _ _ (all-at (λ k. eqb (get_or (drop (slot_at h n) e) k 0) 0) (length (drop (slot_at h n) e)) j (omega (arith, length-drop (slot_at h n) e, length-drop (e_at h) desk)) g)

  unused-holds : (n : ℕ) → ((i : ℕ) → e_at h + slot_at h n ≤ i → i < length desk → get_or desk i 0 ≡ 0) → all_zero (drop (slot_at h n) e) ≡ true
  unused-holds n f =
      all_true (λ k. eqb (get_or (drop (slot_at h n) e) k 0) 0) (length (drop (slot_at h n) e))
      (λ j l. eq-eqb _ _ (behind n j ∙ f (e_at h + slot_at h n + j) (omega arith) (omega (arith, length-drop (slot_at h n) e, length-drop (e_at h) desk))))

  -- ---- both ways

  pub good-conditions : good_desk desk ≡ true → Good desk
  unfolding stash_good
  good-conditions g =
      let k = known desk g in
      let w = k.size in
      let q : RequestKnown (status_of desk) most (ids_of desk) c = request-known (status_of desk) most (ids_of desk) c k.bodies.0 in
      let p = place_at_lem k.bodies.1.0 in
      let s = slot-known k.bodies.1.1.0 in
      let t : Each (stash_tests h d e) = each (stash_tests h d e) k.bodies.1.1.0 in
      let n : stash_count desk ≡ number 2 e 0 = read_count u in
      record {
        long_enough = omega arith;
        own_length = w;
        computed_contents = k.computed;
        height_low = k.head.sizes.height_low;
        height_high = k.head.sizes.height_high;
        slots_low = k.head.sizes.slots_low;
        slots_high = k.head.sizes.slots_high;
        ids_low = k.head.ids_low;
        ids_high = k.head.ids_high;
        status_high = k.head.status_high;
        root_written = k.head.written_high;
        every_mark = λ id a b. (p id a b).1;
        zero_byte = k.head.zero;
        request_zero = request-byte u zero_in (omega arith) ∙ q.zero_byte;
        request_zeros = request-number u zeros_in (omega arith) ∙ q.two_zeros;
        every_position = λ id a b. (p id a b).0;
        count_high = rw n (leb-true _ _ t.0);
        ids_rise = λ i l. rw (read-stash-id u i) (s (suc i) l).rises;
        id_low = λ i l. let r = (s i l).rises in omega arith;
        id_high = λ i l. (s i l).high;
        id_marked = λ i l. (s i l).marked;
        id_carries = λ i l. (s i l).carries;
        unused_zero = λ i a b. unused-known (number 2 e 0) t.1.1.0 i (rw n at a) b;
        ready_zero = λ a. q.ready_zero a ∙ ap zeros (body-length w);
        asked_kind = λ a. rw (read-kind u) (q.kind a);
        asked_low = λ a. rw (read-id u) (q.low a);
        asked_high = λ a. rw (read-id u) (q.high a);
        asked_leaf = λ a. rw (read-new-leaf u) (q.leaf a);
        read_zero = λ a b. sym (record_is w) ∙ q.read_zero a (sym (read-kind u) ∙ b) ∙ ap zeros (record-length w);
      }

  stash-holds : Good desk → stash_good h d e ≡ true
  unfolding stash_good
  stash-holds k =
      let n : stash_count desk ≡ number 2 e 0 = read_count u in
      let before : (i : ℕ) → i < stash_count desk → id_before h e i < stash_id desk i = rise k in
      let slots : all (number 2 e 0) (slot_good h d e) ≡ true =
      all_true (slot_good h d e) (number 2 e 0)
      (λ i l.
      let m : i < stash_count desk = omega arith in
      slot-holds i (record { rises = before i m; high = k.id_high i m; marked = k.id_marked i m; carries = k.id_carries i m })) in
      every_of (stash_tests h d e) (rw n at (le-leb _ _ k.count_high), (slots, (unused-holds (number 2 e 0) (λ i a b. k.unused_zero i (rw n a) b), tt)))
    where
      rise : Good desk → (i : ℕ) → i < stash_count desk → id_before h e i < stash_id desk i
      rise k zero l = k.id_low 0 l
      rise k (suc i) l = rw (read-stash-id u i) at (k.ids_rise i l)

  request-of : Good desk → RequestKnown (status_of desk) most (ids_of desk) c
  request-of k =
      let w = k.own_length in
      record {
        zero_byte = sym (request-byte u zero_in (omega arith)) ∙ k.request_zero;
        two_zeros = sym (request-number u zeros_in (omega arith)) ∙ k.request_zeros;
        ready_zero = λ a. k.ready_zero a ∙ ap zeros (sym (body-length w));
        kind = λ a. rw (read-kind u) at (k.asked_kind a);
        low = λ a. rw (read-id u) at (k.asked_low a);
        high = λ a. rw (read-id u) at (k.asked_high a);
        leaf = λ a. rw (read-new-leaf u) at (k.asked_leaf a);
        read_zero = λ a b. record_is w ∙ k.read_zero a (read-kind u ∙ b) ∙ ap zeros (sym (record-length w));
      }

  pub conditions-good : Good desk → good_desk desk ≡ true
  conditions-good k =
      good_of desk
      (record {
        head = record {
          sizes = record { height_low = k.height_low; height_high = k.height_high; slots_low = k.slots_low; slots_high = k.slots_high };
          ids_low = k.ids_low;
          ids_high = k.ids_high;
          status_high = k.status_high;
          written_high = k.root_written;
          zero = k.zero_byte;
        };
        size = k.own_length;
        computed = k.computed_contents;
        bodies = (request-holds (status_of desk) most (ids_of desk) c (request-of k), (places_of k.every_position k.every_mark, (stash-holds k, tt)));
      })

  pub good-exactly : (good_desk desk ≡ true) ↔ Good desk
  good-exactly = (good-conditions, conditions-good)
