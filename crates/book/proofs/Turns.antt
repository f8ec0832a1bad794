-- The reads of a row, turn by turn: what is left to do from here comes to what the whole row is. Assumes nothing.
use Rattle.std.specs.Prelude.{Err, Ok, Result}
use Prim.Native.Nat.{ℕ, suc, ◌+◌, ◌-◌, ◌≤◌, ◌<◌}
use mathlib.Core.Path.{◌≡◌, sym, ap, ap₂, ◌∙◌}
use mathlib.Core.List.{List}
use native.Mathlib.Omega.{arith}
use lib.ListN.{length, get_or, drop, drop_of_length-le}
use lib.Seq.{drop-cons}
use Rattle.sizes.specs.declared.Refusal.{Refusal}
use Rattle.verdicts.specs.declared.counts.Cell.{Cell}
use Rattle.verdicts.specs.declared.counts.Counts.{Counts}
use Rattle.verdicts.specs.Cells.{no_counts, plus, sum}
use Rattle.book.specs.MatrixRow.{ReadResult, looked, read_of, RunResult, ran, counted_of, going_on, row_from}
use Rattle.verdicts.proofs.Counting.{sum-plus}

-- ids up to, not including, `id` are read
pub record SoFar (chapter first end : ℕ) (draws : List ℕ) (whole : RunResult) (id : ℕ) (c : Counts) (desk tree path buffer : List ℕ) : Type 0 where
  pub from_first : first ≤ id
  pub to_end : id ≤ end
  pub counted : sum c ≡ id - first
  pub rest : row_from chapter (end - first) id (drop (id - first) draws) c desk tree path buffer ≡ whole

module _ (chapter first end : ℕ) (draws : List ℕ) where
  pub begun : (desk tree path buffer : List ℕ) → first ≤ end
      → SoFar chapter first end draws (row_from chapter (end - first) first draws no_counts desk tree path buffer) first no_counts desk tree path buffer
  begun desk tree path buffer l =
      record {
        from_first = omega arith;
        to_end = l;
        counted = omega arith;
        rest = ap (λ (k : ℕ). row_from chapter (end - first) first (drop k draws) no_counts desk tree path buffer) none;
      }
    where
      none : first - first ≡ 0
      none = omega arith

  module _ (whole : RunResult) (id : ℕ) (c : Counts) (desk tree path buffer : List ℕ) (here : SoFar chapter first end draws whole id c desk tree path buffer) where
    -- one read more, in the definition: what is done with what it found
    abbrev onward : ReadResult → RunResult
    onward r =
        going_on r (λ (cell : Cell). row_from chapter (end - first) (suc id) (drop (suc (id - first)) draws) (plus cell c) r.desk r.tree r.path r.buffer) r.found

    read_next : id < end → length draws ≡ end - first → onward (read_of chapter desk tree path buffer id (get_or draws (id - first) 0)) ≡ whole
    unfolding row_from
    read_next l e =
        sym (ap (λ (xs : List ℕ). row_from chapter (end - first) id xs c desk tree path buffer) (drop-cons draws (id - first) 0 (omega (arith, e, here.from_first)))) ∙ here.rest

    module _ (l : id < end) (e : length draws ≡ end - first) {d t p b : List ℕ} where
      -- a column was found: on to the next id
      pub found-cell : {f : Result Cell Refusal} {cell : Cell} {c' : Counts} → looked f d t p b ≡ read_of chapter desk tree path buffer id (get_or draws (id - first) 0)
          → f ≡ Ok cell → c' ≡ plus cell c → SoFar chapter first end draws whole (id + 1) c' d t p b
      found-cell {cell = cell} {c' = c'} h g v =
          let s : suc id ≡ id + 1 = omega arith in
          let k : suc (id - first) ≡ id + 1 - first = omega (arith, here.from_first) in
          record {
            from_first = omega (arith, here.from_first);
            to_end = omega (arith, l);
            counted = omega (arith, ap sum v, sum-plus cell c, here.counted, here.from_first);
            rest =
                ap₂ (λ (i j : ℕ). row_from chapter (end - first) i (drop j draws) c' d t p b) (sym s) (sym k)
                ∙ ap (λ (x : Counts). row_from chapter (end - first) (suc id) (drop (suc (id - first)) draws) x d t p b) v
                ∙ ap onward (ap (λ (x : Result Cell Refusal). looked x d t p b) (sym g) ∙ h) ∙ read_next l e;
          }

      -- the store refused: the row is over
      pub found-refusal : {f : Result Cell Refusal} {q : Refusal} → looked f d t p b ≡ read_of chapter desk tree path buffer id (get_or draws (id - first) 0)
          → f ≡ Err q → ran (Err q) d t p b ≡ whole
      found-refusal h g = ap onward (ap (λ (x : Result Cell Refusal). looked x d t p b) (sym g) ∙ h) ∙ read_next l e

    -- every id was read
    pub all_read : end ≤ id → length draws ≡ end - first → ran (counted_of (end - first) c) desk tree path buffer ≡ whole
    unfolding row_from
    all_read l e =
        sym (ap (λ (xs : List ℕ). row_from chapter (end - first) id xs c desk tree path buffer) (drop_of_length-le draws {i = id - first} (omega (arith, e, here.to_end)))) ∙ here.rest
