-- The result of a finish, by the rows that apply: what each return of the code leaves is what the paper says. Assumes nothing.
use Rattle.std.specs.Prelude.{Err, Ok, Result}
use Prim.Native.Nat.{ℕ, ◌≤◌, ◌<◌}
use mathlib.Core.Path.{◌≡◌, refl, sym, ap, ◌∙◌}
use mathlib.Core.Bool.{Bool, true, false, cond, not}
use mathlib.Core.List.{List, [], ◌∷◌, ◌++◌}
use native.Mathlib.Omega.{arith}
use lib.ListN.{length, set}
use lib.Dec.{ltb, eqb}
use borrow.Author.Tests.{leb-false, eqb-true, eqb-false, not-false}
use Rattle.words.proofs.Tests.{each}
use Rattle.sizes.specs.declared.Refusal.{Refusal}
use Rattle.sizes.specs.declared.Refusal.TheVariants.{Forged, Worn, Full}
use Rattle.sizes.specs.Sizes.{leaves, record_len, path_len}
use Rattle.sizes.specs.Refusals.{first_of, NoneOf}
use Rattle.sizes.proofs.Rows.{not-refused, none-applies}
use Rattle.desk.specs.Layout.{status_at, room_of}
use Rattle.desk.specs.Readers.{status_of, sizes_of, kind_asked, new_leaf}
use Rattle.desk.specs.Status.{forged_status, worn_status, full_status, at_status}
use Rattle.desk.specs.Good.{good_desk}
use Rattle.desk.proofs.Exactly.{good-conditions}
use Rattle.desk.proofs.Refused.{spared}
use Rattle.items.specs.declared.View.{View}
use Rattle.items.specs.Real.{real}
use Rattle.placing.specs.Placing.{remaining}
use Rattle.opening.specs.Opening.{view_of, genuine, worn, worn_in}
use Rattle.opening.specs.Walk.{OpenDesk}
use Rattle.opening.proofs.Open.{good-open}
use Rattle.store.specs.declared.Finished.{Finished}
use Rattle.store.specs.Steps.{answer_for, buffer_for, was_marked, record_found, to_place, new_stash, new_path, new_desk}
use Rattle.store.specs.Finish.{entry_rows, path_rows, full_rows, finish_checked, finish_result, finish_by, finish_of}

module _ (desk path : List ℕ) where
  pub over-is : (v : View) (over : ℕ) → v ≡ view_of desk → over ≡ length (remaining v.sizes v.leaf (to_place real desk path)) → over ≡ length (new_stash real desk path)
  over-is v over e h = h ∙ ap (λ (x : View). length (remaining x.sizes x.leaf (to_place real desk path))) e

  pub worn-is : (v : View) → v ≡ view_of desk → worn_in v path ≡ worn real desk path
  unfolding worn
  worn-is v e = ap (λ (x : View). worn_in x path) e

-- ---- rows before others

refused-at : (b : Bool) (q r : Refusal) (o u : Result Unit Refusal) → (o ≡ Err r → u ≡ Err r) → cond b (Err q) o ≡ Err r → cond b (Err q) u ≡ Err r
refused-at true q r o u f h = h
refused-at false q r o u f h = f h

first-refused : (xs ys : List (Bool × Refusal)) (r : Refusal) → first_of xs ≡ Err r → first_of (xs ++ ys) ≡ Err r
first-refused [] ys r h = let z : ◌≡◌ {A = ℕ} 0 1 = cc in absurd (omega arith)
first-refused (x ∷ xs) ys r h = refused-at x.0 x.1 r (first_of xs) (first_of (xs ++ ys)) (λ k. first-refused xs ys r k) h

done_at : (b : Bool) (q : Refusal) (o u v : Result Unit Refusal) → (o ≡ Ok tt → u ≡ v) → cond b (Err q) o ≡ Ok tt → cond b (Err q) u ≡ v
done_at true q o u v f h = absurd (not-refused q h)
done_at false q o u v f h = f h

first_done : (xs ys : List (Bool × Refusal)) → first_of xs ≡ Ok tt → first_of (xs ++ ys) ≡ first_of ys
first_done [] ys h = refl
first_done (x ∷ xs) ys h = done_at x.0 x.1 (first_of xs) (first_of (xs ++ ys)) (first_of ys) (λ k. first_done xs ys k) h

module _ (desk path buffer : List ℕ) where
  -- ---- Full, and a finish that is done

  pub full-refused : ltb (room_of desk) (length (new_stash real desk path)) ≡ true → finish_result (Err Full) (set desk status_at full_status) path buffer ≡ finish_by (first_of (full_rows real desk path)) real desk path buffer
  unfolding at_status
  full-refused h = sym (ap (λ (b : Bool). finish_by (cond b (Err Full) (Ok tt)) real desk path buffer) h)

  pub place-done : ltb (room_of desk) (length (new_stash real desk path)) ≡ false → (a : Finished) (d p b : List ℕ) → a ≡ answer_for (kind_asked desk) (was_marked real desk path)
      → d ≡ new_desk real desk path → p ≡ new_path real desk path → b ≡ buffer_for (kind_asked desk) (was_marked real desk path) (record_found real desk path) buffer
      → finish_result (Ok a) d p b ≡ finish_by (first_of (full_rows real desk path)) real desk path buffer
  place-done h a d p b i j k l = (λ x. finish_result (Ok (i x)) (j x) (k x) (l x)) ∙ sym (ap (λ (t : Bool). finish_by (cond t (Err Full) (Ok tt)) real desk path buffer) h)

  -- ---- the checks of the path

  abbrev behind : List (Bool × Refusal)
  behind = (worn real desk path, Worn) ∷ full_rows real desk path

  pub path-forged : genuine real desk path ≡ false → finish_result (Err Forged) (set desk status_at forged_status) path buffer ≡ finish_by (first_of (path_rows real desk path)) real desk path buffer
  unfolding at_status
  path-forged h = sym (ap (λ (b : Bool). finish_by (cond (not b) (Err Forged) (first_of behind)) real desk path buffer) h)

  module _ (g : genuine real desk path ≡ true) where
    past : finish_by (first_of behind) real desk path buffer ≡ finish_by (first_of (path_rows real desk path)) real desk path buffer
    past = sym (ap (λ (b : Bool). finish_by (cond (not b) (Err Forged) (first_of behind)) real desk path buffer) g)

    pub path-worn : worn real desk path ≡ true → finish_result (Err Worn) (set desk status_at worn_status) path buffer ≡ finish_by (first_of (path_rows real desk path)) real desk path buffer
    unfolding at_status
    path-worn h = sym (ap (λ (b : Bool). finish_by (cond b (Err Worn) (first_of (full_rows real desk path))) real desk path buffer) h) ∙ past

    pub path-passed : worn real desk path ≡ false → finish_by (first_of (full_rows real desk path)) real desk path buffer ≡ finish_by (first_of (path_rows real desk path)) real desk path buffer
    path-passed h = sym (ap (λ (b : Bool). finish_by (cond b (Err Worn) (first_of (full_rows real desk path))) real desk path buffer) h) ∙ past

  -- ---- the checks before it

  pub entry-refused : {r : Refusal} → first_of (entry_rows desk path buffer) ≡ Err r → finish_result (Err r) desk path buffer ≡ finish_of real desk path buffer
  unfolding finish_checked
  entry-refused {r} h =
      ap (λ (d : List ℕ). finish_result (Err r) d path buffer) (sym (spared (entry_rows desk path buffer) ((λ x. refl), ((λ x. refl), ((λ x. refl), ((λ x. refl), tt)))) r h desk))
      ∙ sym (ap (λ (o : Result Unit Refusal). finish_by o real desk path buffer) (first-refused (entry_rows desk path buffer) (path_rows real desk path) r h))

  pub entry-passed : first_of (entry_rows desk path buffer) ≡ Ok tt → finish_by (first_of (path_rows real desk path)) real desk path buffer ≡ finish_of real desk path buffer
  unfolding finish_checked
  entry-passed h = sym (ap (λ (o : Result Unit Refusal). finish_by o real desk path buffer) (first_done (entry_rows desk path buffer) (path_rows real desk path) h))

  pub entered : first_of (entry_rows desk path buffer) ≡ Ok tt → room_of desk ≤ 255
      → (OpenDesk desk × (new_leaf desk < leaves (sizes_of desk))) × ((length path ≡ path_len (sizes_of desk)) × (length buffer ≡ record_len))
  entered h room =
      let n : NoneOf (entry_rows desk path buffer) = none-applies (entry_rows desk path buffer) h in
      let g : good_desk desk ≡ true = not-false _ n.0 in
      let low : status_of desk < 2 = leb-false _ _ n.1.0 in
      let ne : status_of desk ≡ 0 → ⊥ = eqb-false _ _ n.1.1.0 in
      let i = each (eqb (length path) (path_len (sizes_of desk)) ∷ eqb (length buffer) record_len ∷ []) (not-false _ n.1.1.1.0) in
      ((good-open desk g (omega (arith, ne)) room, (good-conditions desk g).asked_leaf ne), (eqb-true _ _ i.0, eqb-true _ _ i.1.0))
