-- What is known where a row's checks refuse nothing, and what the row then is. Assumes nothing.
use Rattle.std.specs.Prelude.{Err, Ok, Result}
use Prim.Native.Nat.{ℕ, ◌+◌, ◌-◌, ◌≤◌, ◌<◌}
use mathlib.Core.Path.{◌≡◌, sym, ap, ap₂, ◌∙◌}
use mathlib.Core.Bool.{true}
use mathlib.Core.List.{List, [], ◌∷◌}
use lib.ListN.{length}
use lib.Dec.{leb, ltb, eqb}
use borrow.Author.Tests.{leb-true, ltb-true, eqb-true, not-false}
use Rattle.words.specs.Bytes.{zeros}
use Rattle.words.proofs.Tests.{each}
use Rattle.sizes.specs.declared.Refusal.{Refusal}
use Rattle.sizes.specs.Refusals.{NoneOf}
use Rattle.sizes.specs.Sizes.{record_len, path_len, tree_len}
use Rattle.sizes.proofs.Rows.{none-applies}
use Rattle.desk.specs.Layout.{ids_of}
use Rattle.desk.specs.Readers.{sizes_of}
use Rattle.desk.specs.Good.{good_desk}
use Rattle.desk.proofs.Known.{Known, known}
use Rattle.verdicts.specs.declared.counts.Row.{Row}
use Rattle.verdicts.specs.Cells.{no_counts}
use Rattle.book.specs.MatrixRow.{range_good, row_rows, row_checked, ran, row_from, rowed, ended, row_by, row_of}

-- a good range
pub record InIds (n first end : ℕ) : Type 0 where
  pub low : 1 ≤ first
  pub rising : first < end
  pub high : end ≤ n + 1

pub range-known : (n first end : ℕ) → range_good n first end ≡ true → InIds n first end
range-known n first end h =
    let e = each (leb 1 first ∷ ltb first end ∷ leb end (n + 1) ∷ []) h in
    record { low = leb-true _ _ e.0; rising = ltb-true _ _ e.1.0; high = leb-true _ _ e.1.1.0 }

pub record RowPassed (desk tree : List ℕ) (first end : ℕ) (draws : List ℕ) : Type 0 where
  pub good : good_desk desk ≡ true
  pub known : Known desk
  pub range : InIds (ids_of desk) first end
  pub draws_length : length draws ≡ end - first
  pub tree_length : length tree ≡ tree_len (sizes_of desk)

pub row-passed : {desk tree : List ℕ} {first end : ℕ} {draws : List ℕ} → row_checked desk tree first end draws ≡ Ok tt → RowPassed desk tree first end draws
unfolding row_checked
row-passed {desk} {tree} {first} {end} {draws} h =
    let n : NoneOf (row_rows desk tree first end draws) = none-applies (row_rows desk tree first end draws) h in
    let g : good_desk desk ≡ true = not-false _ n.0 in
    let l = each (eqb (length draws) (end - first) ∷ eqb (length tree) (tree_len (sizes_of desk)) ∷ []) (not-false _ n.1.1.0) in
    record {
      good = g;
      known = known desk g;
      range = range-known _ _ _ (not-false _ n.1.0);
      draws_length = eqb-true _ _ l.0;
      tree_length = eqb-true _ _ l.1.0;
    }

-- ---- the row, by its checks

module _ (desk tree : List ℕ) (chapter first end : ℕ) (draws : List ℕ) where
  by-checks : {o : Result Unit Refusal} → row_checked desk tree first end draws ≡ o → row_by o desk tree chapter first end draws ≡ row_of desk tree chapter first end draws
  by-checks h = ap (λ (x : Result Unit Refusal). row_by x desk tree chapter first end draws) (sym h)

  pub row-refused : {q : Refusal} → row_checked desk tree first end draws ≡ Err q → rowed (Err q) desk tree ≡ row_of desk tree chapter first end draws
  row-refused h = by-checks h

  pub row_done : row_checked desk tree first end draws ≡ Ok tt → {path buffer : List ℕ} → path ≡ zeros (path_len (sizes_of desk)) → buffer ≡ zeros record_len
      → {a : Result Row Refusal} {d t p b : List ℕ} → ran a d t p b ≡ row_from chapter (end - first) first draws no_counts desk tree path buffer
      → rowed a d t ≡ row_of desk tree chapter first end draws
  row_done h e f k =
      ap ended (k ∙ ap₂ (λ (p b : List ℕ). row_from chapter (end - first) first draws no_counts desk tree p b) e f) ∙ by-checks h
