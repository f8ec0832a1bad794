-- What is known of a desk and a path where finish got past its first four rows. Assumes nothing.
use Rattle.std.specs.Prelude.{Err, Ok, Result}
use Prim.Native.Nat.{ℕ, ◌≤◌}
use mathlib.Core.Path.{◌≡◌, refl, ap}
use mathlib.Core.Bool.{Bool, true, false, not, ◌&&◌}
use mathlib.Core.List.{List, [], ◌∷◌}
use native.Mathlib.Omega.{arith}
use lib.ListN.{length}
use lib.Dec.{eqb, leb, ltb}
use borrow.Author.Tests.{eqb-true, eqb-false, leb-false, ltb-false, not-false}
use Rattle.words.proofs.Tests.{and_left, and_right}
use Rattle.sizes.specs.declared.Refusal.{Refusal}
use Rattle.sizes.specs.declared.Refusal.TheVariants.{BadDesk, Stopped, NotOpen, BadLength, Forged, Worn, Full}
use Rattle.sizes.specs.Sizes.{record_len, path_len}
use Rattle.sizes.specs.Refusals.{number_of, first_of, NoneOf}
use Rattle.sizes.proofs.Rows.{none-applies}
use Rattle.desk.specs.Layout.{room_of}
use Rattle.desk.specs.Readers.{sizes_of, status_of}
use Rattle.desk.specs.Status.{ready_status, first_stopped}
use Rattle.desk.specs.Good.{good_desk}
use Rattle.items.specs.Items.{Means}
use Rattle.opening.specs.Opening.{genuine, worn}
use Rattle.opening.proofs.Genuine.{genuine-checks}
use Rattle.store.specs.Steps.{new_stash}
use Rattle.store.specs.Finish.{finish_rows, finish_checked}
use Rattle.keeping.proofs.MovedStep.{Checked}
use Rattle.promises.specs.DemandTwo.{Ready}

same_number : (p q : Refusal) → ◌≡◌ {A = Result Unit Refusal} (Err p) (Err q) → number_of p ≡ number_of q
same_number p q e = let f : p ≡ q = cc in ap number_of f

-- a refusal of number 9 or more comes after these four
late : (a b c d : Bool) (rows : List (Bool × Refusal)) (q : Refusal) → 9 ≤ number_of q
    → first_of ((a, BadDesk) ∷ (b, Stopped) ∷ (c, NotOpen) ∷ (d, BadLength) ∷ rows) ≡ Err q → (a ≡ false) × (b ≡ false) × (c ≡ false) × (d ≡ false)
late true b c d rows q n h = absurd (omega (arith, same_number BadDesk q h))
late false true c d rows q n h = absurd (omega (arith, same_number Stopped q h))
late false false true d rows q n h = absurd (omega (arith, same_number NotOpen q h))
late false false false true rows q n h = absurd (omega (arith, same_number BadLength q h))
late false false false false rows q n h = (refl, refl, refl, refl)

module _ (m : Means) (desk path buffer : List ℕ) where
  abbrev lengths : Bool
  lengths = eqb (length path) (path_len (sizes_of desk)) && eqb (length buffer) record_len

  ready_of : not (good_desk desk) ≡ false → leb first_stopped (status_of desk) ≡ false → eqb (status_of desk) ready_status ≡ false → not lengths ≡ false → Ready desk path buffer
  ready_of a b c d =
      let e = not-false lengths d in
      record {
        good = not-false (good_desk desk) a;
        status = omega (arith, leb-false first_stopped (status_of desk) b, eqb-false (status_of desk) ready_status c);
        path_length = eqb-true _ _ (and_left (eqb (length path) (path_len (sizes_of desk))) (eqb (length buffer) record_len) e);
        buffer_length = eqb-true _ _ (and_right (eqb (length path) (path_len (sizes_of desk))) (eqb (length buffer) record_len) e);
      }

  pub late-ready : (q : Refusal) → 9 ≤ number_of q → finish_checked m desk path buffer ≡ Err q → Ready desk path buffer
  unfolding finish_checked
  late-ready q n h =
      let l = late (not (good_desk desk)) (leb first_stopped (status_of desk)) (eqb (status_of desk) ready_status) (not lengths)
      ((not (genuine m desk path), Forged) ∷ (worn m desk path, Worn) ∷ (ltb (room_of desk) (length (new_stash m desk path)), Full) ∷ []) q n h in
      ready_of l.0 l.1 l.2 l.3

  -- accepted: past all rows
  pub record Through : Type 0 where
    pub ready : Ready desk path buffer
    pub genuine-is : genuine m desk path ≡ true
    pub not_worn : worn m desk path ≡ false
    pub fits : length (new_stash m desk path) ≤ room_of desk

  pub through-checked : Through → room_of desk ≤ 255 → Checked m desk path
  through-checked t room =
      record {
        good = t.ready.good;
        status = t.ready.status;
        byte = room;
        size = t.ready.path_length;
        genuine = genuine-checks m desk path t.genuine-is;
      }

  pub done-through : finish_checked m desk path buffer ≡ Ok tt → Through
  unfolding finish_checked
  done-through h =
      let n : NoneOf (finish_rows m desk path buffer) = none-applies (finish_rows m desk path buffer) h in
      record {
        ready = ready_of n.0 n.1.0 n.1.1.0 n.1.1.1.0;
        genuine-is = not-false (genuine m desk path) n.1.1.1.1.0;
        not_worn = n.1.1.1.1.1.0;
        fits = ltb-false (room_of desk) (length (new_stash m desk path)) n.1.1.1.1.1.1.0;
      }
