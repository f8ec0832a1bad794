-- What is known where format refuses nothing, that its refusals change nothing, and that its result is determined. Assumes nothing.
use Rattle.std.specs.Prelude.{Err, Ok, Result}
use Prim.Native.Nat.{ℕ, ◌≤◌}
use mathlib.Core.Path.{◌≡◌, refl, sym, ap, ◌∙◌}
use mathlib.Core.Bool.{true, ◌&&◌}
use mathlib.Core.List.{List, [], ◌∷◌}
use lib.ListN.{length}
use lib.Dec.{eqb}
use borrow.Author.Tests.{eqb-true, not-false}
use Rattle.words.proofs.Tests.{each, and_left, and_right}
use Rattle.sizes.specs.Sizes.{sized, sizes_good, InRange, ids_good, most_ids, leaves, desk_len, key_len}
use Rattle.sizes.specs.Refusals.{NoneOf}
use Rattle.sizes.proofs.Lengths.{sizes-range}
use Rattle.sizes.proofs.Rows.{none-applies}
use Rattle.sizes.specs.declared.Refusal.{Refusal}
use Rattle.desk.specs.Status.{stopped}
use Rattle.desk.proofs.Known.{ids-known}
use Rattle.desk.proofs.Refused.{spared}
use Rattle.formats.specs.Format.{are_leaves, format_rows, format_checked, FormatResult, format_of, format_result}

pub record FormatPassed (desk : List ℕ) (l z room n : ℕ) (key starts : List ℕ) : Type 0 where
  pub sizes : InRange (sized l z)
  pub ids_low : 1 ≤ n
  pub ids_high : n ≤ most_ids
  pub size : length desk ≡ desk_len n room
  pub starts_length : length starts ≡ n
  pub key_length : length key ≡ key_len
  pub leaves_are_good : are_leaves (leaves (sized l z)) starts ≡ true

module _ (desk : List ℕ) (l z room n : ℕ) (key starts : List ℕ) where
  pub format-passed : format_checked desk l z room n key starts ≡ Ok tt → FormatPassed desk l z room n key starts
  unfolding format_checked
  format-passed h =
      let k : NoneOf (format_rows desk l z room n key starts) = none-applies (format_rows desk l z room n key starts) h in
      let s = not-false (sizes_good (sized l z) && ids_good n) k.0 in
      let i = ids-known n (and_right (sizes_good (sized l z)) (ids_good n) s) in
      let e = each (eqb (length desk) (desk_len n room) ∷ eqb (length starts) n ∷ eqb (length key) key_len ∷ []) (not-false _ k.1.0) in
      record {
        sizes = sizes-range (sized l z) (and_left (sizes_good (sized l z)) (ids_good n) s);
        ids_low = i.0;
        ids_high = i.1;
        size = eqb-true _ _ e.0;
        starts_length = eqb-true _ _ e.1.0;
        key_length = eqb-true _ _ e.1.1.0;
        leaves_are_good = not-false _ k.1.1.0;
      }

  pub format-spares : {r : Refusal} → format_checked desk l z room n key starts ≡ Err r → (d : List ℕ) → stopped r d ≡ d
  unfolding format_checked
  format-spares {r} h d = spared (format_rows desk l z room n key starts) ((λ x. refl), ((λ x. refl), ((λ x. refl), tt))) r h d

  -- two results that the contract allows are equal
  pub format_once : {a b : Result Unit Refusal} {d e : List ℕ} → format_result a d ≡ format_of desk l z room n key starts → format_result b e ≡ format_of desk l z room n key starts → (a ≡ b) × (d ≡ e)
  format_once p q = (ap (λ (r : FormatResult). r.answer) (p ∙ sym q), ap (λ (r : FormatResult). r.desk) (p ∙ sym q))
