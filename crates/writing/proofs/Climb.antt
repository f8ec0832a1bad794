-- One turn of the loop from the leaf up: what lies below is as it was, so the item is the one that step 6 makes of the path as it was lent. Assumes nothing.
use Rattle.std.proofs.Common.{◌≡◌, ℕ, zero, suc, ◌+◌, ◌*◌, ◌<◌, ◌≤◌, Bool, true, false, cond, ◌&&◌, eqb, ltb, List, [], ◌∷◌, ◌++◌, length, take, sym, refl, ap, ◌∙◌, ap₂, zero-add, arith, length-append, take-take, le-ltb, lt-ltb}
use Rattle.words.specs.Bytes.{part, zeros}
use Rattle.words.proofs.Splice.{part-part, length_part, length-zeros}
use Rattle.words.proofs.Tests.{below_or}
use Rattle.sizes.specs.declared.Sizes.{Sizes}
use Rattle.sizes.specs.Sizes.{digest_len, leaf_len, inner_len, item_len, item_at, path_len}
use Rattle.sizes.proofs.Lengths.{inner-item, leaf-item, next-item, level-below}
use Rattle.slots.specs.Slots.{Block}
use Rattle.items.specs.declared.View.{View}
use Rattle.items.specs.Items.{flag_of, digest_of, slots_of, sealed}
use Rattle.items.specs.Way.{item, side, reachable}
use Rattle.items.specs.Real.{real}
use Rattle.writing.specs.Writing.{new_counter, new_head, new_flag, new_digest, is_kept}
use Rattle.writing.specs.Pieces.{head_of, links_of, item_written, Holds}
use Rattle.writing.proofs.Heads.{length-head, length-slots-of}

-- ---- paths that agree below a level

item-short : (s : Sizes) (k : ℕ) → item_len s k ≤ inner_len s
item-short s k = below_or k s.height (λ h. omega (arith, inner-item s k h)) (λ h. omega (arith, leaf-item s k h))

pub item-take : (v : View) (xs ys : List ℕ) (k : ℕ) → take (item_at v.sizes (suc k)) xs ≡ take (item_at v.sizes (suc k)) ys → item v xs k ≡ item v ys k
item-take v xs ys k e =
    let s = v.sizes in
    let n : item_at s k + item_len s k ≤ item_at s (suc k) = omega (arith, next-item s k, item-short s k) in
    let z : 0 + item_at s k ≡ item_at s k = zero-add (item_at s k) in
    let of : (l : List ℕ) → part (take (item_at s (suc k)) l) (item_at s k) (item_len s k) ≡ item v l k =
    λ l. part-part l 0 (item_at s (suc k)) (item_at s k) (item_len s k) n ∙ ap (λ (i : ℕ). part l i (item_len s k)) z in
    sym (of xs) ∙ ap (λ (l : List ℕ). part l (item_at s k) (item_len s k)) e ∙ of ys

pub take_less : (xs ys : List ℕ) (m n : ℕ) → m ≤ n → take n xs ≡ take n ys → take m xs ≡ take m ys
take_less xs ys m n h e = sym (take-take m n xs h) ∙ ap (take m) e ∙ take-take m n ys h

pub reach-take : (v : View) (xs ys : List ℕ) (k : ℕ) → take (item_at v.sizes k) xs ≡ take (item_at v.sizes k) ys → reachable v xs k ≡ reachable v ys k
unfolding reachable
reach-take v xs ys zero e = refl
reach-take v xs ys (suc k) e =
    let s = v.sizes in
    let r : reachable v xs k ≡ reachable v ys k = reach-take v xs ys k (take_less xs ys (item_at s k) (item_at s (suc k)) (omega (arith, next-item s k)) e) in
    ap₂ (λ (a : Bool) (i : List ℕ). a && eqb (flag_of s i (side v k)) 1) r (item-take v xs ys k e)

-- ---- an inner item goes on behind its slots, a leaf's does not

pub inner-tail : (k l : ℕ) (x y : List ℕ) → k < l → cond (ltb k l) x y ≡ x
inner-tail k l x y h = rw (lt-ltb k l h)

pub leaf-tail : (k l : ℕ) (x y : List ℕ) → l ≤ k → cond (ltb k l) x y ≡ y
leaf-tail k l x y h = rw (le-ltb k l h)

-- ---- lengths

module _ (v : View) (path new : List ℕ) (d : List ℕ) (ld : length d ≡ digest_len) (fp : path_len v.sizes ≤ length path) (fn : path_len v.sizes ≤ length new) where
  length-picked : (b : Bool) (x y : List ℕ) → length x ≡ digest_len → length y ≡ digest_len → length (cond b x y) ≡ digest_len
  length-picked true x y p q = p
  length-picked false x y p q = q

  length-kept : (k on : ℕ) → k < v.sizes.height → on ≤ 1 → length (digest_of v.sizes (item v path k) on) ≡ digest_len
  length-kept k on h o =
      let s = v.sizes in
      let n : length (item v path k) ≡ item_len s k = length_part path (item_at s k) (item_len s k) (omega (arith, inner-item s k h, level-below s k s.height h)) in
      length_part (item v path k) (leaf_len s + 2 + digest_len * on) digest_len (omega (arith, inner-item s k h))

  length-links : (k : ℕ) → k < v.sizes.height → length (links_of v path k d) ≡ 2 + (digest_len + digest_len)
  unfolding links_of
  length-links k h =
      let z : length (zeros digest_len) ≡ digest_len = length-zeros digest_len in
      let one : (on : ℕ) → on ≤ 1 → length (new_digest real v path [] k d on) ≡ digest_len =
      λ on o. length-picked (eqb on (side v k)) d (cond (is_kept real v path [] k on) (digest_of v.sizes (item v path k) on) (zeros digest_len)) ld
      (length-picked (is_kept real v path [] k on) (digest_of v.sizes (item v path k) on) (zeros digest_len) (length-kept k on h o) z) in
      omega (arith, length-append (new_digest real v path [] k d 0) (new_digest real v path [] k d 1), one 0 (omega arith), one 1 (omega arith))

  pub length-item : (k : ℕ) → k ≤ v.sizes.height → length (item_written v path new k d) ≡ item_len v.sizes k
  unfolding item_written
  length-item k h =
      let s = v.sizes in
      let head : List ℕ = head_of real v (new_counter real v path [] k) k (slots_of s (item v new k)) in
      let lh : length head ≡ leaf_len s = length-head v (new_counter real v path [] k) k (slots_of s (item v new k)) ∙ omega (arith, length-slots-of v new k h fn) in
      let tail : List ℕ = cond (ltb k s.height) (links_of v path k d) [] in
      let lt : length tail + leaf_len s ≡ item_len s k =
      below_or k s.height
      (λ l. omega (arith, ap length (inner-tail k s.height (links_of v path k d) [] l), length-links k l, inner-item s k l))
      (λ l. omega (arith, ap length (leaf-tail k s.height (links_of v path k d) [] l), leaf-item s k l)) in
      length-append head tail ∙ omega arith

-- ---- the item that is written is the one of the path as it was lent, where both agree up to it

module _ (v : View) (path after new : List ℕ) (k : ℕ) (agree : take (item_at v.sizes (suc k)) after ≡ take (item_at v.sizes (suc k)) path) where
  same_item : item v after k ≡ item v path k
  same_item = item-take v after path k agree

  same-reach : reachable v after k ≡ reachable v path k
  same-reach =
      let s = v.sizes in
      reach-take v after path k (take_less after path (item_at s k) (item_at s (suc k)) (omega (arith, next-item s k)) agree)

  module _ (placed : List (List Block)) (holds : Holds v new placed) (h : k ≤ v.sizes.height) where
    pub head-same : head_of real v (new_counter real v after [] k) k (slots_of v.sizes (item v new k)) ≡ new_head real v path placed k
    unfolding head_of sealed
    head-same = rw (same-reach, same_item, holds k h)

  pub links-same : (d : List ℕ) → links_of v after k d ≡ new_flag real v path [] k 0 ∷ new_flag real v path [] k 1 ∷ (new_digest real v path [] k d 0 ++ new_digest real v path [] k d 1)
  unfolding links_of
  links-same d = rw (same-reach, same_item)
