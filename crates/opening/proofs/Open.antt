-- A good desk with an open request has what the steps of finish need of it. Assumes nothing.
use Prim.Native.Nat.{ℕ, suc, ◌+◌, ◌*◌, ◌≤◌, ◌<◌}
use mathlib.Core.Bool.{Bool, true, false, ◌&&◌, and_assoc}
use mathlib.Core.Path.{◌≡◌, refl, sym, ap, ap₂, ◌∙◌, subst}
use mathlib.Core.List.{List, [], ◌∷◌}
use native.Mathlib.Nat.{add-zero, mul-le-mul_left}
use native.Mathlib.Omega.{arith}
use lib.ListN.{length, drop, length-drop}
use lib.Seq.{drop-drop}
use lib.Dec.{eqb}
use borrow.Author.Tests.{eqb-true, lt-ltb, le-ltb}
use Rattle.std.specs.Prelude.{Result, is_ok}
use Rattle.words.specs.Numbers.{number}
use Rattle.words.specs.Tests.{all}
use Rattle.words.proofs.Numbers.{number-drop}
use Rattle.words.proofs.Tests.{by_cases, below_or}
use Rattle.sizes.specs.Sizes.{InRange, leaves, most_ids, most_path, record_len, slot_len, count_len}
use Rattle.sizes.proofs.Lengths.{path_most}
use Rattle.bags.specs.Bags.{bit, cnt}
use Rattle.slots.specs.Slots.{Block, blocks_by, Rising}
use Rattle.desk.specs.declared.Shape.{Shape}
use Rattle.desk.specs.Layout.{e_at, slot_at, body_d, body_e, room_of, shape_of}
use Rattle.desk.specs.Readers.{height_of, id_asked, status_of, stash_count, stash_id, stash_of}
use Rattle.desk.specs.Status.{open_status}
use Rattle.desk.specs.Stash.{Stashed}
use Rattle.desk.specs.Good.{Good, good_desk}
use Rattle.desk.proofs.Known.{known, good-small}
use Rattle.desk.proofs.Exactly.{good-conditions}
use Rattle.desk.proofs.Stash as stash
use Rattle.items.specs.declared.View.{View}
use Rattle.items.specs.Items.{Carries}
use Rattle.items.specs.Way.{Reached}
use Rattle.items.specs.Real.{real}
use Rattle.opening.specs.Opening.{is_id, stash_slots, view_of, digest_fits, flags_fit, found, each_fits, is_there, slots_fit, genuine}
use Rattle.opening.specs.Walk.{OpenDesk, Unsealed, count_in, Opens}
use Rattle.opening.proofs.Tests.{no_true}

-- ---- the stash of such a desk

module _ (desk : List ℕ) (o : OpenDesk desk) where
  pub stash_room : slot_len * stash_count desk ≤ length (stash_slots desk)
  stash_room =
      let n = length-drop (e_at (shape_of desk) + count_len) desk in
      let m = mul-le-mul_left slot_len o.count in
      let s = o.whole.size in
      omega arith

  pub stash-id : (i : ℕ) → number 2 (stash_slots desk) (slot_len * i) ≡ stash_id desk i
  stash-id i =
      let e : e_at (shape_of desk) + count_len + slot_len * i ≡ e_at (shape_of desk) + slot_at (shape_of desk) i = omega arith in
      number-drop 2 desk (e_at (shape_of desk) + count_len) (slot_len * i) ∙ ap (number 2 desk) e

  pub stash-known : (i : ℕ) → i < stash_count desk → number 2 (stash_slots desk) (slot_len * i) ≤ most_ids
  stash-known i l = let s = o.whole.small in omega (arith, stash-id i, o.known i l)

  -- what is read from it is in range, and the working copy carries a path
  module _ (v : View) (e : v ≡ view_of desk) where
    pub view-range : InRange v.sizes
    view-range = subst (λ (v : View). InRange v.sizes) (sym e) o.range

    pub view-leaf : v.leaf < leaves v.sizes
    view-leaf = subst (λ (v : View). v.leaf < leaves v.sizes) (sym e) o.leaf

  pub copy-carries : (v : View) (w : List ℕ) → v ≡ view_of desk → length w ≡ most_path → Carries v.sizes w
  copy-carries v w e l =
      record { range = view-range v e; room = omega (arith, path_most v.sizes (view-range v e)) }

-- ---- ids that rise stand nowhere twice

below_none : (last id : ℕ) (bs : List Block) → Rising last bs → id ≤ last → cnt (is_id id) bs ≡ 0
below_none last id [] r h = refl
below_none last id (b ∷ bs) r h =
    by_cases (eqb b.id id)
    (λ e. let f = eqb-true b.id id e in absurd (omega (arith, r.0)))
    (λ e. let f : bit (eqb b.id id) ≡ 0 = ap bit e in omega (arith, below_none b.id id bs r.1 (omega (arith, r.0))))

rising-once : (last id : ℕ) (bs : List Block) → Rising last bs → cnt (is_id id) bs ≤ 1
rising-once last id [] r = omega arith
rising-once last id (b ∷ bs) r =
    by_cases (eqb b.id id)
    (λ e.
    let f : bit (eqb b.id id) ≡ 1 = ap bit e in
    let g = eqb-true b.id id e in
    omega (arith, below_none b.id id bs r.1 (omega arith)))
    (λ e. let f : bit (eqb b.id id) ≡ 0 = ap bit e in omega (arith, rising-once b.id id bs r.1))

-- ---- a good desk

-- its stash: ids rise, are marked, and carry their position's leaf
pub good-stash : (desk : List ℕ) → good_desk desk ≡ true → Stashed (shape_of desk) (body_d (shape_of desk) desk) (stash_of desk)
good-stash desk g =
    let h : Shape = shape_of desk in
    let n : number 2 (body_e h desk) 0 ≡ stash_count desk = number-drop 2 desk (e_at h) 0 ∙ ap (number 2 desk) (add-zero (e_at h)) in
    let d : drop count_len (body_e h desk) ≡ stash_slots desk = drop-drop count_len (e_at h) desk in
    subst (λ (bs : List Block). Stashed h (body_d h desk) bs) (ap₂ (λ (i : ℕ) (xs : List ℕ). blocks_by record_len i xs) n d)
    (stash.stash-known h (body_d h desk) (body_e h desk) (known desk g).bodies.1.1.0)

-- that a byte is below 256 is the caller's to say
pub good-open : (desk : List ℕ) → good_desk desk ≡ true → status_of desk ≡ open_status → room_of desk ≤ 255 → OpenDesk desk
good-open desk g st room =
    let k : Good desk = good-conditions desk g in
    let w = known desk g in
    let ne : status_of desk ≡ 0 → ⊥ = λ e. omega arith in
    record {
      whole = record { size = w.size; small = good-small desk g room };
      range = w.head.sizes;
      low = k.asked_low ne;
      high = k.asked_high ne;
      leaf = k.every_position (id_asked desk) (k.asked_low ne) (k.asked_high ne);
      count = k.count_high;
      used = k.id_low;
      known = k.id_high;
      once = λ id. rising-once 0 id (stash_of desk) (good-stash desk g).rising;
    }

-- the three tests of the code are all the checks
pub whole-genuine : (desk path : List ℕ) (d f s : Bool) (v : View) → v ≡ view_of desk → d ≡ all (suc v.sizes.height) (digest_fits real v path)
    → f ≡ all v.sizes.height (flags_fit v path) → s ≡ slots_fit real desk path → (d && f) && s ≡ genuine real desk path
unfolding genuine
whole-genuine desk path d f s v e p q r =
    let p₁ : d ≡ all (suc (height_of desk)) (digest_fits real (view_of desk) path) = subst (λ (v : View). d ≡ all (suc v.sizes.height) (digest_fits real v path)) e p in
    let q₁ : f ≡ all (height_of desk) (flags_fit (view_of desk) path) = subst (λ (v : View). f ≡ all v.sizes.height (flags_fit v path)) e q in
    rw (p₁, q₁, r) (sym (and_assoc (all (suc (height_of desk)) (digest_fits real (view_of desk) path) && all (height_of desk) (flags_fit (view_of desk) path)) (all (suc (height_of desk)) (λ k. each_fits real desk path k (found real desk path k))) (is_there real desk path)))

-- there is one number of reachable items
pub reached-same : (v : View) (path : List ℕ) (m n : ℕ) → Reached v path m → Reached v path n → m ≡ n
reached-same v path m n r s =
    below_or m n
    (λ l. absurd (no_true (sym (sym (r.exactly m (omega (arith, s.most))) ∙ s.exactly m (omega (arith, s.most)) ∙ lt-ltb m n l) ∙ le-ltb m m (omega arith))))
    (λ l.
    below_or n m
    (λ k. absurd (no_true (sym (sym (s.exactly n (omega (arith, r.most))) ∙ r.exactly n (omega (arith, r.most)) ∙ lt-ltb n m k) ∙ le-ltb n n (omega arith))))
    (λ k. omega arith))

-- what steps 1 and 2 hand back, of whether all checks pass and of the number of reachable items
pub opens-given : (desk path w : List ℕ) (o : Result ℕ ℕ) (v : View) → v ≡ view_of desk → is_ok o ≡ genuine real desk path → Reached v path (count_in o) → Unsealed v path (count_in o) w
    → Opens desk path w o
opens-given desk path w o v e p r u =
    let reached = subst (λ (v : View). Reached v path (count_in o)) e r in
    let unsealed = subst (λ (v : View). Unsealed v path (count_in o) w) e u in
    record { good = p; count = reached; opened = λ m s. rw (reached-same (view_of desk) path (count_in o) m reached s) at unsealed }
