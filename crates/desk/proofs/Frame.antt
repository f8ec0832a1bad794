-- A desk stays good where its new parts are sound: the contents and sizes are as they were. Assumes nothing.
use Prim.Native.Nat.{ℕ, ◌≤◌}
use mathlib.Core.Path.{◌≡◌, sym, ap, subst, ◌∙◌}
use mathlib.Core.Bool.{true}
use mathlib.Core.List.{List}
use native.Mathlib.Omega.{arith}
use lib.ListN.{length}
use borrow.Author.Tests.{le-leb, eq-eqb, ne_eqb}
use Rattle.words.specs.Bytes.{part, zeros, same}
use Rattle.words.specs.Tests.{Each}
use Rattle.words.proofs.Splice.{part_ext}
use Rattle.words.proofs.Tests.{every_of, same_refl, zeros-zero}
use Rattle.sizes.specs.declared.Sizes.{Sizes}
use Rattle.sizes.specs.Sizes.{leaves, contents_len}
use Rattle.sizes.proofs.Lengths.{range-sizes}
use Rattle.desk.specs.declared.Shape.{Shape}
use Rattle.desk.specs.Layout.{b_at, shape_len, contents, zero_at, ids_of, shape_of}
use Rattle.desk.specs.Readers.{sizes_of, status_of}
use Rattle.desk.specs.Status.{ready_status, open_status, most_status}
use Rattle.desk.specs.Good.{head_tests, head_good, open_good, request_good, places_good, stash_good, bodies_tests, bodies_good, desk_tests, good_desk}
use Rattle.desk.specs.Parts.{Parts, parts_of, to_status, to_request, to_root}
use Rattle.desk.proofs.Known.{Head, Known, known, ids-good}
use Rattle.desk.proofs.Changed.{Changed, same-ids, same_shape, same-sizes}

-- parts that fit the sizes of a desk
pub record Sound (desk : List ℕ) (v : Parts) : Type 0 where
  pub status_high : v.status ≤ most_status
  pub written_high : v.written ≤ 1
  pub request_is_good : request_good v.status (leaves (sizes_of desk)) (ids_of desk) v.request ≡ true
  pub places_are_good : places_good (leaves (sizes_of desk)) (ids_of desk) v.places ≡ true
  pub stash_is_good : stash_good (shape_of desk) v.places v.stash ≡ true

pub good-sound : (desk : List ℕ) → good_desk desk ≡ true → Sound desk (parts_of desk)
good-sound desk g =
    let k = known desk g in
    record {
      status_high = k.head.status_high;
      written_high = k.head.written_high;
      request_is_good = k.bodies.0;
      places_are_good = k.bodies.1.0;
      stash_is_good = k.bodies.1.1.0;
    }

-- a desk from what is known of it
pub good_of : (desk : List ℕ) → Known desk → good_desk desk ≡ true
unfolding good_desk head_good bodies_good
good_of desk k =
    let h = k.head in
    every_of (desk_tests desk) (
      le-leb b_at (length desk) (omega (arith, k.size)),
      (
        every_of (head_tests desk) (
          range-sizes (sizes_of desk) h.sizes,
          (ids-good (ids_of desk) h.ids_low h.ids_high, (le-leb _ _ h.status_high, (le-leb _ _ h.written_high, (eq-eqb _ _ h.zero, tt)))),
        ),
        (
          eq-eqb _ _ k.size,
          (
            ap (same (part desk 0 contents_len)) (sym k.computed) ∙ same_refl (part desk 0 contents_len),
            (every_of (bodies_tests (leaves (sizes_of desk)) (shape_of desk) (status_of desk) desk) k.bodies, tt),
          ),
        ),
      ),
    )

module _ {xs ys : List ℕ} {v : Parts} (g : good_desk xs ≡ true) (c : Changed xs ys v) (s : Sound xs v) where
  kept-head : Head ys
  kept-head =
      let h = (known xs g).head in
      record {
        sizes = rw (same-sizes c.same) h.sizes;
        ids_low = rw (same-ids c.same) h.ids_low;
        ids_high = rw (same-ids c.same) h.ids_high;
        status_high = rw c.status s.status_high;
        written_high = rw c.written s.written_high;
        zero = c.same.high zero_at (omega arith) (omega arith) ∙ h.zero;
      }

  kept-contents : part ys 0 contents_len ≡ contents (shape_of ys)
  kept-contents =
      let k = known xs g in
      part_ext ys xs 0 contents_len (omega (arith, k.size, c.same.size)) c.same.size (λ i l m. c.same.low i (omega arith))
      ∙ k.computed ∙ ap contents (sym (same_shape c.same))

  kept-bodies : Each (bodies_tests (leaves (sizes_of ys)) (shape_of ys) (status_of ys) ys)
  kept-bodies =
      let e : Each (bodies_tests (leaves (sizes_of xs)) (shape_of xs) (status_of ys) ys) = (
        rw (c.status, c.request) s.request_is_good,
        (rw c.places s.places_are_good, (rw (c.places, c.stash) s.stash_is_good, tt)),
      ) in
      subst (λ (z : Sizes). Each (bodies_tests (leaves z) (shape_of ys) (status_of ys) ys)) (sym (same-sizes c.same))
      (subst (λ (h : Shape). Each (bodies_tests (leaves (sizes_of xs)) h (status_of ys) ys)) (sym (same_shape c.same)) e)

  pub changed-good : good_desk ys ≡ true
  changed-good =
      good_of ys
      (record {
        head = kept-head;
        size = c.same.size ∙ (known xs g).size ∙ ap shape_len (sym (same_shape c.same));
        computed = kept-contents;
        bodies = kept-bodies;
      })

-- ---- the sound changes of status, request and root

-- a stopped desk keeps its request
pub stop-request : (s t most n : ℕ) (q : List ℕ) → (s ≡ ready_status → ⊥) → (t ≡ ready_status → ⊥) → request_good s most n q ≡ true → request_good t most n q ≡ true
unfolding request_good
stop-request s t most n q a b h = rw (ne_eqb t ready_status b) (rw (ne_eqb s ready_status a) at h)

pub stop-sound : {desk : List ℕ} {v : Parts} (t : ℕ) → Sound desk v → (v.status ≡ ready_status → ⊥) → (t ≡ ready_status → ⊥) → t ≤ most_status → Sound desk (to_status t v)
stop-sound {desk} {v} t s a b h =
    record {
      status_high = h;
      written_high = s.written_high;
      request_is_good = stop-request v.status t (leaves (sizes_of desk)) (ids_of desk) v.request a b s.request_is_good;
      places_are_good = s.places_are_good;
      stash_is_good = s.stash_is_good;
    }

-- an open desk has a good request
pub open-sound : {desk : List ℕ} {v : Parts} (q : List ℕ) → Sound desk v → open_good (leaves (sizes_of desk)) (ids_of desk) q ≡ true → Sound desk (to_status open_status (to_request q v))
unfolding request_good
open-sound q s o =
    record { status_high = omega arith; written_high = s.written_high; request_is_good = o; places_are_good = s.places_are_good; stash_is_good = s.stash_is_good }

-- a ready desk has none
pub ready-sound : {desk : List ℕ} {v : Parts} (n : ℕ) → Sound desk v → Sound desk (to_status ready_status (to_request (zeros n) v))
unfolding request_good
ready-sound n s =
    record { status_high = omega arith; written_high = s.written_high; request_is_good = zeros-zero n; places_are_good = s.places_are_good; stash_is_good = s.stash_is_good }

pub root-sound : {desk : List ℕ} {v : Parts} (digest : List ℕ) → Sound desk v → Sound desk (to_root digest v)
root-sound digest s =
    record { status_high = s.status_high; written_high = omega arith; request_is_good = s.request_is_good; places_are_good = s.places_are_good; stash_is_good = s.stash_is_good }
