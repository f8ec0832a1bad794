-- The stash as blocks: body (e) of blocks shows them again, and it is good exactly where they are a good stash. Assumes nothing.
use Prim.Native.Nat.{ℕ, zero, suc, ◌+◌, ◌*◌, ◌-◌, ◌≤◌, ◌<◌}
use mathlib.Core.Path.{◌≡◌, sym, ap, subst, ◌∙◌}
use mathlib.Core.Bool.{Bool, true}
use mathlib.Core.List.{List, [], ◌∷◌, ◌++◌}
use native.Mathlib.Nat.{mul-zero, mul-add, mul-le-mul_left}
use native.Mathlib.Omega.{arith}
use lib.ListN.{length, get_or, drop, length-append, length-drop, take-append-drop}
use lib.Seq.{drop-drop, drop_at, get_or-drop}
use lib.Dec.{ltb, leb, eqb}
use borrow.Author.Tests.{lt-ltb, le-leb, eq-eqb, ltb-true, leb-true, eqb-true}
use Rattle.words.specs.Bytes.{part, zeros}
use Rattle.words.specs.Numbers.{number, bytes_of}
use Rattle.words.specs.Tests.{Each, all, all_zero}
use Rattle.words.proofs.Splice.{length-zeros}
use Rattle.words.proofs.Numbers.{number-drop, number-bytes_of, length-bytes_of}
use Rattle.words.proofs.Tests.{each, every_of, all-at, all_true, zeros-zero}
use Rattle.sizes.specs.Sizes.{count_len, leaf_in}
use Rattle.slots.specs.Slots.{Block, slot_by, block_by, blocks_by, slots_bytes, AllFit, Bytes, Rising}
use Rattle.slots.proofs.Numbers.{number-left, bytes_of-number}
use Rattle.slots.proofs.Blocks.{length-slots, length-blocks, blocks-slots, slots-suc, slots-blocks}
use Rattle.desk.specs.declared.Shape.{Shape}
use Rattle.desk.specs.Layout.{slot_at, e_len, place_at, mark_in}
use Rattle.desk.specs.Good.{id_at, id_before, slot_after, slot_good, stash_good}
use Rattle.desk.specs.Changes.{stash_bytes}
use Rattle.desk.specs.Stash.{Placed, AllPlaced, Stashed}
use Rattle.desk.proofs.Request.{zero-zeros}

-- ---- body (e) of blocks

module _ (h : Shape) (bs : List Block) (fit : AllFit h.r bs) (room : length bs ≤ h.s) where
  pub length-stash : length (stash_bytes h bs) ≡ e_len h
  unfolding stash_bytes
  length-stash =
      let z : length (zeros (slot_by h.r * (h.s - length bs))) ≡ slot_by h.r * (h.s - length bs) = length-zeros (slot_by h.r * (h.s - length bs)) in
      let e : h.s ≡ length bs + (h.s - length bs) = omega arith in
      let m : slot_by h.r * h.s ≡ slot_by h.r * length bs + slot_by h.r * (h.s - length bs) =
      ap (λ (k : ℕ). slot_by h.r * k) e ∙ mul-add (slot_by h.r) (length bs) (h.s - length bs) in
      omega (
        arith,
        length-append (bytes_of 2 (length bs)) (slots_bytes bs ++ zeros (slot_by h.r * (h.s - length bs))),
        length-append (slots_bytes bs) (zeros (slot_by h.r * (h.s - length bs))),
        length-bytes_of 2 (length bs),
        length-slots h.r bs fit,
      )

  pub stash-count : length bs < 65536 → number 2 (stash_bytes h bs) 0 ≡ length bs
  unfolding stash_bytes
  stash-count l =
      number-left 2 (bytes_of 2 (length bs)) (slots_bytes bs ++ zeros (slot_by h.r * (h.s - length bs))) 0 (omega (arith, length-bytes_of 2 (length bs)))
      ∙ number-bytes_of 2 (length bs) l

  stash-slots : drop count_len (stash_bytes h bs) ≡ slots_bytes bs ++ zeros (slot_by h.r * (h.s - length bs))
  unfolding stash_bytes
  stash-slots = drop_at (bytes_of 2 (length bs)) (slots_bytes bs ++ zeros (slot_by h.r * (h.s - length bs))) count_len (length-bytes_of 2 (length bs))

  -- reading back what was written
  pub stash-blocks : blocks_by h.r (length bs) (drop count_len (stash_bytes h bs)) ≡ bs
  stash-blocks = ap (blocks_by h.r (length bs)) stash-slots ∙ blocks-slots h.r bs (zeros (slot_by h.r * (h.s - length bs))) fit

  -- the slots behind them are zero
  pub stash-unused : all_zero (drop (slot_at h (length bs)) (stash_bytes h bs)) ≡ true
  stash-unused =
      ap all_zero
      (sym (drop-drop (slot_by h.r * length bs) count_len (stash_bytes h bs))
      ∙ ap (drop (slot_by h.r * length bs)) stash-slots
      ∙ drop_at (slots_bytes bs) (zeros (slot_by h.r * (h.s - length bs))) (slot_by h.r * length bs) (length-slots h.r bs fit))
      ∙ zeros-zero (slot_by h.r * (h.s - length bs))

-- ---- slots from slot k on, and the blocks that they show

abbrev pub slot_tests : ℕ → Shape → List ℕ → List ℕ → ℕ → List Bool
slot_tests last h d e i =
    ltb last (id_at h e i)
    ∷ leb (id_at h e i) h.n
    ∷ eqb (get_or d (place_at (id_at h e i) + mark_in) 0) 1
    ∷ eqb (number 2 e (slot_at h i + leaf_in)) (number 2 d (place_at (id_at h e i)))
    ∷ []

module _ (h : Shape) (d e : List ℕ) where
  shown-id : (k : ℕ) → number 2 (drop (slot_at h k) e) 0 ≡ id_at h e k
  shown-id k = let z : slot_at h k + 0 ≡ slot_at h k = omega arith in number-drop 2 e (slot_at h k) 0 ∙ ap (number 2 e) z

  shown-leaf : (k : ℕ) → number 2 (drop (slot_at h k) e) leaf_in ≡ number 2 e (slot_at h k + leaf_in)
  shown-leaf k = number-drop 2 e (slot_at h k) leaf_in

  next-slot : (k : ℕ) → drop (slot_by h.r) (drop (slot_at h k) e) ≡ drop (slot_at h (suc k)) e
  next-slot k = let q : slot_at h k + slot_by h.r ≡ slot_at h (suc k) = omega (arith, slots-suc h.r k) in drop-drop (slot_by h.r) (slot_at h k) e ∙ ap (λ (j : ℕ). drop j e) q

  blocks_from : (n k : ℕ) → ((i : ℕ) → i < n → slot_good h d e (k + i) ≡ true)
      → Rising (id_before h e k) (blocks_by h.r n (drop (slot_at h k) e)) × AllPlaced h d (blocks_by h.r n (drop (slot_at h k) e))
  unfolding blocks_by slot_after
  blocks_from zero k g = (tt, tt)
  blocks_from (suc n) k g =
      let z : k + 0 ≡ k = omega arith in
      let t : Each (slot_tests (id_before h e k) h d e k) = each (slot_tests (id_before h e k) h d e k) (rw z at (g 0 (omega arith))) in
      let r : Rising (id_at h e k) (blocks_by h.r n (drop (slot_at h (suc k)) e)) × AllPlaced h d (blocks_by h.r n (drop (slot_at h (suc k)) e)) =
      blocks_from n (suc k) (λ i l. let q : suc k + i ≡ k + suc i = omega arith in rw q (g (suc i) (omega arith))) in
      let p : Placed h d (block_by h.r (drop (slot_at h k) e)) =
      record {
        high = rw (shown-id k) (leb-true _ _ t.1.0);
        marked = rw (shown-id k) (eqb-true _ _ t.1.1.0);
        carries = rw (shown-id k, shown-leaf k) (eqb-true _ _ t.1.1.1.0);
      } in
      ((rw (shown-id k) (ltb-true _ _ t.0), rw (shown-id k, next-slot k) r.0), (p, rw (next-slot k) r.1))

  slots-from : (n k : ℕ) → Rising (id_before h e k) (blocks_by h.r n (drop (slot_at h k) e)) → AllPlaced h d (blocks_by h.r n (drop (slot_at h k) e))
      → (i : ℕ) → i < n → slot_good h d e (k + i) ≡ true
  unfolding blocks_by slot_after
  slots-from zero k r p i l = absurd (omega arith)
  slots-from (suc n) k r p zero l =
      let z : k + 0 ≡ k = omega arith in
      let x : id_before h e k < id_at h e k = rw (shown-id k) at r.0 in
      let y : id_at h e k ≤ h.n = rw (shown-id k) at p.0.high in
      let m : get_or d (place_at (id_at h e k) + mark_in) 0 ≡ 1 = rw (shown-id k) at p.0.marked in
      let f : number 2 e (slot_at h k + leaf_in) ≡ number 2 d (place_at (id_at h e k)) = rw (shown-id k, shown-leaf k) at p.0.carries in
      rw z (every_of (slot_tests (id_before h e k) h d e k) (lt-ltb _ _ x, (le-leb _ _ y, (eq-eqb _ _ m, (eq-eqb _ _ f, tt)))))
  slots-from (suc n) k r p (suc i) l =
      let q : k + suc i ≡ suc k + i = omega arith in
      let r' : Rising (id_at h e k) (blocks_by h.r n (drop (slot_at h (suc k)) e)) = rw (shown-id k, next-slot k) at r.1 in
      let p' : AllPlaced h d (blocks_by h.r n (drop (slot_at h (suc k)) e)) = rw (next-slot k) at p.1 in
      rw q (slots-from n (suc k) r' p' i (omega arith))

-- ---- a good stash

abbrev pub stash_tests : Shape → List ℕ → List ℕ → List Bool
stash_tests h d e = leb (number 2 e 0) h.s ∷ all (number 2 e 0) (slot_good h d e) ∷ all_zero (drop (slot_at h (number 2 e 0)) e) ∷ []

first_slot : (h : Shape) (e : List ℕ) → drop (slot_at h 0) e ≡ drop count_len e
first_slot h e = let z : slot_at h 0 ≡ count_len = omega (arith, mul-zero (slot_by h.r)) in ap (λ (k : ℕ). drop k e) z

-- a good body (e) shows a good stash
pub stash-known : (h : Shape) (d e : List ℕ) → stash_good h d e ≡ true → Stashed h d (blocks_by h.r (number 2 e 0) (drop count_len e))
unfolding stash_good
stash-known h d e g =
    let t : Each (stash_tests h d e) = each (stash_tests h d e) g in
    let n : ℕ = number 2 e 0 in
    let b = blocks_from h d e n 0 (λ i l. let z : 0 + i ≡ i = omega arith in rw z (all-at (slot_good h d e) n i l t.1.0)) in
    record {
      room = rw (length-blocks h.r n (drop count_len e)) (leb-true _ _ t.0);
      rising = subst (λ (x : List ℕ). Rising 0 (blocks_by h.r n x)) (first_slot h e) b.0;
      placed = subst (λ (x : List ℕ). AllPlaced h d (blocks_by h.r n x)) (first_slot h e) b.1;
    }

-- and body (e) of a good stash is good
pub stash_is_good : (h : Shape) (d : List ℕ) (bs : List Block) → Stashed h d bs → AllFit h.r bs → length bs < 65536 → stash_good h d (stash_bytes h bs) ≡ true
unfolding stash_good
stash_is_good h d bs s fit l =
    let e : List ℕ = stash_bytes h bs in
    let n : number 2 e 0 ≡ length bs = stash-count h bs fit s.room l in
    let b : blocks_by h.r (length bs) (drop (slot_at h 0) e) ≡ bs = ap (blocks_by h.r (length bs)) (first_slot h e) ∙ stash-blocks h bs fit s.room in
    let g = slots-from h d e (length bs) 0 (rw b s.rising) (rw b s.placed) in
    let a : all (length bs) (slot_good h d e) ≡ true = all_true (slot_good h d e) (length bs) (λ i k. let z : 0 + i ≡ i = omega arith in rw z at (g i k)) in
    every_of (stash_tests h d e) (rw n (le-leb _ _ s.room), (rw n a, (rw n (stash-unused h bs fit s.room), tt)))

-- writing back what a good body (e) shows
pub stash-back : (h : Shape) (d e : List ℕ) → stash_good h d e ≡ true → Bytes e → length e ≡ e_len h → stash_bytes h (blocks_by h.r (number 2 e 0) (drop count_len e)) ≡ e
unfolding stash_good stash_bytes
stash-back h d e g b l =
    let t : Each (stash_tests h d e) = each (stash_tests h d e) g in
    let n : ℕ = number 2 e 0 in
    let m : ℕ = slot_by h.r * n in
    let few : n ≤ h.s = leb-true _ _ t.0 in
    let k : length (blocks_by h.r n (drop count_len e)) ≡ n = length-blocks h.r n (drop count_len e) in
    let w : slot_by h.r * n ≤ slot_by h.r * h.s = mul-le-mul_left (slot_by h.r) few in
    let q : h.s ≡ n + (h.s - n) = omega arith in
    let room : slot_by h.r * h.s ≡ m + slot_by h.r * (h.s - n) = ap (λ (j : ℕ). slot_by h.r * j) q ∙ mul-add (slot_by h.r) n (h.s - n) in
    let s : slots_bytes (blocks_by h.r n (drop count_len e)) ≡ part (drop count_len e) 0 m =
    slots-blocks h.r n (drop count_len e) (λ i. rw get_or-drop (b (count_len + i))) (omega (arith, length-drop count_len e)) in
    let z : zeros (slot_by h.r * (h.s - n)) ≡ drop m (drop count_len e) =
    sym (drop-drop m count_len e ∙ zero-zeros (drop (slot_at h n) e) t.1.1.0 ∙ ap zeros (unused-length n few room)) in
    ap (λ (j : ℕ). bytes_of 2 j ++ (slots_bytes (blocks_by h.r n (drop count_len e)) ++ zeros (slot_by h.r * (h.s - j)))) k
    ∙ ap (λ (x : List ℕ). x ++ (slots_bytes (blocks_by h.r n (drop count_len e)) ++ zeros (slot_by h.r * (h.s - n)))) (bytes_of-number 2 e 0 b (omega arith))
    ∙ ap (λ (x : List ℕ). part e 0 count_len ++ (x ++ zeros (slot_by h.r * (h.s - n)))) s
    ∙ ap (λ (x : List ℕ). part e 0 count_len ++ (part (drop count_len e) 0 m ++ x)) z
    ∙ ap (λ (x : List ℕ). part e 0 count_len ++ x) (take-append-drop m (drop count_len e)) ∙ take-append-drop count_len e
  where
    unused-length : (n : ℕ) → n ≤ h.s → slot_by h.r * h.s ≡ slot_by h.r * n + slot_by h.r * (h.s - n) → length (drop (slot_at h n) e) ≡ slot_by h.r * (h.s - n)
    unused-length n f r = omega (arith, length-drop (slot_at h n) e)
