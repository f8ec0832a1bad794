-- What a first or second line that can be read is bounded by: its numbers, its length. Assumes nothing.
use Prim.Native.Nat.{ℕ, zero, suc, ◌*◌, ◌≤◌}
use mathlib.Core.Path.{◌≡◌, refl, ap}
use mathlib.Core.Bool.{Bool, true, false, cond, ◌&&◌}
use mathlib.Core.List.{List}
use native.Mathlib.Omega.{arith}
use borrow.Author.Tests.{leb-true, eqb-true}
use lib.ListN.{length, get_or, length-drop}
use lib.Dec.{leb, eqb}
use Rattle.words.proofs.Tests.{and_left, and_right, by_cases}
use Rattle.sizes.specs.Sizes.{most_ids}
use Rattle.text.specs.Text.{store_word, start_word}
use Rattle.text.specs.Fronts.{begins, values, values_len, are_there, numbers_in, rest_in}
use Rattle.text.proofs.Bounds.{values_len-most, values_low}
use Rattle.setup.specs.declared.Store.{Store}
use Rattle.std.specs.Prelude.{Some, None}
use Rattle.setup.specs.Setup.{most_shelf_height, most_byte, store_with, store_of, start_end, start_good, most_line}

-- ---- the first line

store_is : (t : Bool) (a x : Store) → cond t (Some a) None ≡ Some x → (t ≡ true) × (a ≡ x)
store_is true a x e = (refl, cc)
store_is false a x e = absurd (cc)

bad-store : {A : Type 0} (x : Store) → None ≡ Some x → A
bad-store x e = absurd (cc)

pub record Stored (xs : List ℕ) (x : Store) : Type 0 where
  pub height_high : x.height ≤ most_shelf_height
  pub ids_high : x.ids ≤ most_ids
  pub line_most : length xs ≤ 25

pub store-fits : (xs : List ℕ) (x : Store) → store_of xs ≡ Some x → Stored xs x
store-fits xs x e =
    let v = numbers_in 6 xs in
    let r = rest_in 6 4 xs in
    let t = begins xs store_word && are_there 4 v && eqb (length r) 0 in
    by_cases t
    (λ h.
    let q : store_with (values 4 v) ≡ Some x = rw h at e in
    let p = store_is (leb (get_or (values 4 v) 0 0) most_shelf_height && leb (get_or (values 4 v) 2 0) most_byte) _ x q in
    let a = leb-true (get_or (values 4 v) 0 0) most_shelf_height (and_left _ (leb (get_or (values 4 v) 2 0) most_byte) p.0) in
    let b = values_low 4 v 3 in
    let c = eqb-true (length r) 0 (and_right (begins xs store_word && are_there 4 v) (eqb (length r) 0) h) in
    let d = length-drop (values_len 4 v) v in
    let f = length-drop 5 xs in
    let g = values_len-most 4 v in
    record {
      height_high = omega (arith, ap (λ (y : Store). y.height) p.1);
      ids_high = omega (arith, ap (λ (y : Store). y.ids) p.1);
      line_most = omega arith;
    })
    (λ h. bad-store x (rw h at e))

-- ---- the second line

end-most : (n len m : ℕ) → n ≤ most_ids → len ≤ 5 * n → m ≡ start_end n len → m ≤ most_line
end-most zero len m h k e = omega arith
end-most (suc n) len m h k e = omega arith

pub start-most : (n : ℕ) (xs : List ℕ) → n ≤ most_ids → start_good n xs ≡ true → length xs ≤ most_line
start-most n xs h e =
    let v = numbers_in 6 xs in
    end-most n (values_len n v) (length xs) h (values_len-most n v)
    (eqb-true (length xs) (start_end n (values_len n v)) (and_right (begins xs start_word && are_there n v) (eqb (length xs) (start_end n (values_len n v))) e))
