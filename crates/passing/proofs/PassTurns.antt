-- The requests of a sheet, turn by turn: what is left to do from here comes to what the whole pass is. Assumes nothing.
use Rattle.std.specs.Prelude.{Err, Ok, Result}
use Prim.Native.Nat.{ℕ, suc, ◌+◌, ◌-◌, ◌*◌, ◌≤◌, ◌<◌}
use mathlib.Core.Path.{◌≡◌, sym, ap, ap₂, ◌∙◌}
use mathlib.Core.List.{List, ◌++◌}
use native.Mathlib.Omega.{arith}
use lib.ListN.{length, get_or, take, drop, drop_of_length-le}
use lib.Seq.{drop-cons}
use Rattle.words.specs.Bytes.{part, splice}
use Rattle.words.proofs.Splice.{length_part, length-splice, spliced}
use Rattle.sizes.specs.declared.Refusal.{Refusal}
use Rattle.sizes.specs.Sizes.{record_len}
use Rattle.sheets.specs.Sheet.{entry_start, entry_at}
use Rattle.passing.specs.Passing.{EntryResult, requested_entry, request_entry, PassResult, passed, going_on, pass_from}

-- ids up to, not including, `id` are done
pub record SoFar (first end : ℕ) (draws : List ℕ) (whole : PassResult) (id : ℕ) (desk tree path sheet : List ℕ) : Type 0 where
  pub from_first : first ≤ id
  pub to_end : id ≤ end
  pub long : length sheet ≡ (end - first) * record_len
  pub rest : pass_from first (id - first) (drop (id - first) draws) desk tree path sheet ≡ whole

-- the entry of an id is within the sheet
pub entry-within : (first end id n : ℕ) → first ≤ id → id < end → n ≡ (end - first) * record_len → entry_start (id - first) + record_len ≤ n
entry-within first end id n f l e = omega arith

module _ (first end : ℕ) (draws : List ℕ) where
  pub begun : (desk tree path sheet : List ℕ) → first ≤ end → length sheet ≡ (end - first) * record_len
      → SoFar first end draws (pass_from first 0 draws desk tree path sheet) first desk tree path sheet
  begun desk tree path sheet l n =
      record {
        from_first = omega arith;
        to_end = l;
        long = n;
        rest = ap (λ (k : ℕ). pass_from first k (drop k draws) desk tree path sheet) none;
      }
    where
      none : first - first ≡ 0
      none = omega arith

  module _ (whole : PassResult) (id : ℕ) (desk tree path sheet : List ℕ) (here : SoFar first end draws whole id desk tree path sheet) where
    -- the sheet with an entry laid in
    abbrev laid : List ℕ → List ℕ
    laid ys = splice sheet (entry_start (id - first)) ys

    -- one request more, in the definition: what is done with what it came to
    abbrev onward : EntryResult → PassResult
    onward r =
        going_on (passed r.answer r.desk r.tree r.path (laid r.entry))
        (pass_from first (suc (id - first)) (drop (suc (id - first)) draws) r.desk r.tree r.path (laid r.entry)) r.answer

    request-next : id < end → length draws ≡ end - first → onward (request_entry desk tree path (entry_at sheet (id - first)) id (get_or draws (id - first) 0)) ≡ whole
    unfolding pass_from
    request-next l e =
        let i : first + (id - first) ≡ id = omega (arith, here.from_first) in
        ap (λ (j : ℕ). onward (request_entry desk tree path (entry_at sheet (id - first)) j (get_or draws (id - first) 0))) (sym i)
        ∙ sym (ap (λ (xs : List ℕ). pass_from first (id - first) xs desk tree path sheet) (drop-cons draws (id - first) 0 (omega (arith, e, here.from_first)))) ∙ here.rest

    -- the code's entry is `k` bytes of the sheet, and comes back with as many
    module _ (l : id < end) (e : length draws ≡ end - first) {a : Result Unit Refusal} {d t p ys : List ℕ} (k : ℕ) (m : k ≡ record_len)
        (h : requested_entry a d t p ys ≡ request_entry desk tree path (part sheet (entry_start (id - first)) k) id (get_or draws (id - first) 0))
        (n : length ys ≡ length (part sheet (entry_start (id - first)) k)) where
      abbrev back : List ℕ
      back = take (entry_start (id - first)) sheet ++ (ys ++ drop k (drop (entry_start (id - first)) sheet))

      fits : entry_start (id - first) + record_len ≤ length sheet
      fits = entry-within first end id (length sheet) here.from_first l here.long

      as_long : length ys ≡ record_len
      as_long = n ∙ ap (λ (j : ℕ). length (part sheet (entry_start (id - first)) j)) m ∙ length_part sheet (entry_start (id - first)) record_len fits

      back_is : back ≡ laid ys
      back_is = spliced sheet (entry_start (id - first)) k ys (as_long ∙ sym m)

      back_long : length back ≡ length sheet
      back_long = ap (λ (xs : List ℕ). length xs) back_is ∙ length-splice sheet (entry_start (id - first)) ys (omega (arith, fits, as_long))

      came : {o : Result Unit Refusal} → a ≡ o → onward (requested_entry o d t p ys) ≡ whole
      came g =
          ap onward
          (ap (λ (x : Result Unit Refusal). requested_entry x d t p ys) (sym g) ∙ h
          ∙ ap (λ (j : ℕ). request_entry desk tree path (part sheet (entry_start (id - first)) j) id (get_or draws (id - first) 0)) m)
          ∙ request-next l e

      -- it was done: on to the next id
      pub entry_done : a ≡ Ok tt → SoFar first end draws whole (id + 1) d t p back
      entry_done g =
          let i : suc (id - first) ≡ id + 1 - first = omega (arith, here.from_first) in
          record {
            from_first = omega (arith, here.from_first);
            to_end = omega (arith, l);
            long = back_long ∙ here.long;
            rest =
                ap₂ (λ (j : ℕ) (s : List ℕ). pass_from first j (drop j draws) d t p s) (sym i) back_is ∙ came g;
          }

      -- it was refused: the pass is over
      pub pass-refused : {q : Refusal} → a ≡ Err q → passed (Err q) d t p back ≡ whole
      pass-refused {q} g = ap (λ (s : List ℕ). passed (Err q) d t p s) back_is ∙ came g

    -- every id was asked for
    pub all-passed : end ≤ id → length draws ≡ end - first → passed (Ok tt) desk tree path sheet ≡ whole
    unfolding pass_from
    all-passed l e =
        sym (ap (λ (xs : List ℕ). pass_from first (id - first) xs desk tree path sheet) (drop_of_length-le draws {i = id - first} (omega (arith, e, here.to_end)))) ∙ here.rest
