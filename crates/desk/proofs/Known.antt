-- What a good desk tells. Assumes nothing.
use Prim.Native.Nat.{ℕ, ◌≤◌}
use mathlib.Core.Path.{◌≡◌}
use mathlib.Core.Bool.{true}
use mathlib.Core.List.{List, [], ◌∷◌}
use lib.ListN.{length, get_or}
use lib.Dec.{leb}
use borrow.Author.Tests.{leb-true, eqb-true, le-leb}
use native.Mathlib.Omega.{arith}
use Rattle.words.specs.Bytes.{part}
use Rattle.words.specs.Tests.{Each}
use Rattle.words.proofs.Tests.{each, every_of, same-eq}
use Rattle.sizes.specs.Sizes.{most_ids, InRange, ids_good, leaves, contents_len}
use Rattle.sizes.proofs.Lengths.{sizes-range}
use Rattle.desk.specs.Layout.{Small, contents, shape_len, shape_of, ids_of, room_of, zero_at}
use Rattle.desk.specs.Readers.{sizes_of, status_of, written_of}
use Rattle.desk.specs.Status.{most_status}
use Rattle.desk.specs.Good.{head_tests, head_good, bodies_tests, bodies_good, desk_tests, good_desk}

-- N in range: the test, and its two facts
-- for sizes
pub ids-known : (n : ℕ) → ids_good n ≡ true → (1 ≤ n) × (n ≤ most_ids)
ids-known n h = let e = each (leb 1 n ∷ leb n most_ids ∷ []) h in (leb-true _ _ e.0, leb-true _ _ e.1.0)

pub ids-good : (n : ℕ) → 1 ≤ n → n ≤ most_ids → ids_good n ≡ true
ids-good n h k = every_of (leb 1 n ∷ leb n most_ids ∷ []) (le-leb _ _ h, (le-leb _ _ k, tt))

-- body (a)
pub record Head (desk : List ℕ) : Type 0 where
  pub sizes : InRange (sizes_of desk)
  pub ids_low : 1 ≤ ids_of desk
  pub ids_high : ids_of desk ≤ most_ids
  pub status_high : status_of desk ≤ most_status
  pub written_high : written_of desk ≤ 1
  pub zero : get_or desk zero_at 0 ≡ 0

pub head-known : (desk : List ℕ) → head_good desk ≡ true → Head desk
unfolding head_good
head-known desk h =
    let e : Each (head_tests desk) = each (head_tests desk) h in
    let n = ids-known (ids_of desk) e.1.0 in
    record {
      sizes = sizes-range (sizes_of desk) e.0;
      ids_low = n.0;
      ids_high = n.1;
      status_high = leb-true _ _ e.1.1.0;
      written_high = leb-true _ _ e.1.1.1.0;
      zero = eqb-true _ _ e.1.1.1.1.0;
    }

-- the shape is small; that a byte is below 256 is the caller's to say
pub shape-small : (desk : List ℕ) → head_good desk ≡ true → room_of desk ≤ 255 → Small (shape_of desk)
shape-small desk h s = record { b = omega arith; r = omega arith; n = (head-known desk h).ids_high; s = s }

-- a good desk: its head, its length, its contents and its bodies
pub record Known (desk : List ℕ) : Type 0 where
  pub head : Head desk
  pub size : length desk ≡ shape_len (shape_of desk)
  pub computed : part desk 0 contents_len ≡ contents (shape_of desk)
  pub bodies : Each (bodies_tests (leaves (sizes_of desk)) (shape_of desk) (status_of desk) desk)

pub known : (desk : List ℕ) → good_desk desk ≡ true → Known desk
unfolding good_desk bodies_good
known desk h =
    let e : Each (desk_tests desk) = each (desk_tests desk) h in
    record {
      head = head-known desk e.1.0;
      size = eqb-true _ _ e.1.1.0;
      computed = same-eq _ _ e.1.1.1.0;
      bodies = each (bodies_tests (leaves (sizes_of desk)) (shape_of desk) (status_of desk) desk) e.1.1.1.1.0;
    }

pub good-small : (desk : List ℕ) → good_desk desk ≡ true → room_of desk ≤ 255 → Small (shape_of desk)
unfolding good_desk
good-small desk h s = let e : Each (desk_tests desk) = each (desk_tests desk) h in shape-small desk e.1.0 s
