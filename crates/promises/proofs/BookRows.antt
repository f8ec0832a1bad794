-- Rows of the verdict book, on every input: the counts add up to the range's length, a refusal before any ask changes nothing, and no read is answered
-- by Done. Assumes nothing.
use Rattle.promises.proofs.RequestAnswers.{came_in}
use Rattle.store.specs.declared.Finished.{Finished}
use Rattle.verdicts.specs.Cells.{counted}
use Rattle.std.specs.Prelude.{Err, Ok, Result}
use Prim.Native.Nat.{ℕ, suc, ◌+◌, ◌-◌}
use mathlib.Core.Path.{◌≡◌, refl, sym, ap, ◌∙◌}
use mathlib.Core.Logic.{◌≢◌}
use mathlib.Core.Bool.{Bool, true, false}
use mathlib.Core.List.{List, [], ◌∷◌}
use native.Mathlib.Omega.{arith}
use lib.ListN.{length}
use lib.Dec.{eqb}
use borrow.Author.Tests.{eqb-true, eq-eqb}
use Rattle.words.specs.Bytes.{zeros}
use Rattle.sizes.specs.declared.Sizes.{Sizes}
use Rattle.sizes.specs.declared.Refusal.{Refusal}
use Rattle.sizes.specs.Sizes.{record_len, path_len}
use Rattle.desk.specs.declared.Kind.{Kind}
use Rattle.desk.specs.declared.Kind.TheVariants.{Read}
use Rattle.desk.specs.Readers.{sizes_of, kind_asked}
use Rattle.items.specs.Real.{real}
use Rattle.tree.specs.Tree.{fetch_of}
use Rattle.asks.specs.Ask.{ask_of}
use Rattle.asks.proofs.Opened.{opened-kind}
use Rattle.store.specs.declared.Finished.TheVariants as finished
use Rattle.store.specs.Steps.{answer_for, was_marked}
use Rattle.store.specs.Finish.{finished_or, finish_of, finish_checked}
use Rattle.requests.specs.Request.{Answered, finished_by, asked_for, request_of}
use Rattle.verdicts.specs.declared.counts.Cell.{Cell}
use Rattle.verdicts.specs.declared.counts.Counts.{Counts}
use Rattle.verdicts.specs.declared.counts.Row.{Row}
use Rattle.verdicts.specs.Cells.{no_counts, plus, sum}
use Rattle.book.specs.MatrixRow.{ReadResult, RunResult, read_of, counted_of, going_on, row_from, row_checked, row_by, row_of}
use Rattle.verdicts.proofs.Counting.{sum-plus}
use Rattle.book.proofs.Passed.{row-passed}
use Rattle.promises.specs.Rows.{AnyRow}
use Rattle.promises.proofs.Answers.{asked_leaf}

-- ---- a row that is counted was refused by nothing

pub not-counted : (q : Refusal) (c : Counts) (complete : Bool) → Err q ≡ counted c complete → ⊥
not-counted q c complete h = let z : ◌≡◌ {A = ℕ} 0 1 = cc in omega arith

-- the run over the range, as a row begins it
abbrev pub run_of : List ℕ → List ℕ → ℕ → ℕ → ℕ → List ℕ → RunResult
run_of desk tree chapter first end draws =
    row_from chapter (end - first) first draws no_counts desk tree (zeros (path_len (sizes_of desk))) (zeros record_len)

pub was-done : (desk tree : List ℕ) (chapter first end : ℕ) (draws : List ℕ) (c : Counts) (complete : Bool)
    → (row_of desk tree chapter first end draws).answer ≡ counted c complete
    → (row_checked desk tree first end draws ≡ Ok tt) × ((run_of desk tree chapter first end draws).answer ≡ counted c complete)
was-done desk tree chapter first end draws c complete h = go (row_checked desk tree first end draws) refl
  where
    go : (o : Result Unit Refusal) → row_checked desk tree first end draws ≡ o
        → (row_checked desk tree first end draws ≡ Ok tt) × ((run_of desk tree chapter first end draws).answer ≡ counted c complete)
    go (Ok tt) e = (e, sym (ap (λ (x : Result Unit Refusal). (row_by x desk tree chapter first end draws).answer) e) ∙ h)
    go (Err q) e =
        absurd (not-counted q c complete (sym (ap (λ (x : Result Unit Refusal). (row_by x desk tree chapter first end draws).answer) e) ∙ h))

-- ---- the run: each draw adds one to one of the counts, and complete is the test at its end

abbrev Adds : ℕ → Counts → List ℕ → Result Row Refusal → Type 0
Adds n c xs a = (c' : Counts) (complete : Bool) → a ≡ counted c' complete → (sum c' ≡ sum c + length xs) × (complete ≡ eqb c'.passed n)

-- what a counted row says; of a refusal, anything
abbrev pub row_counts : Result Row Refusal → Counts
row_counts (Ok row) = row.counts
row_counts (Err q) = no_counts

abbrev row_complete : Result Row Refusal → Bool
row_complete (Ok row) = row.complete
row_complete (Err q) = false

adds_none : (n : ℕ) (c : Counts) → Adds n c [] (counted_of n c)
adds_none n c c' complete h =
    let e : c ≡ c' = ap row_counts h in
    let k : eqb c.passed n ≡ complete = ap row_complete h in
    (ap sum (sym e) ∙ omega arith, sym k ∙ ap (λ (z : Counts). eqb z.passed n) e)

adds_one : (n : ℕ) (c : Counts) (x : ℕ) (xs : List ℕ) (r : ReadResult) (more : Cell → RunResult)
    → ((cell : Cell) → Adds n (plus cell c) xs (more cell).answer) → (f : Result Cell Refusal) → Adds n c (x ∷ xs) (going_on r more f).answer
adds_one n c x xs r more ih (Ok cell) c' complete h =
    let k = ih cell c' complete h in
    (omega (arith, k.0, sum-plus cell c), k.1)
adds_one n c x xs r more ih (Err q) c' complete h = absurd (not-counted q c' complete h)

run-adds : (chapter n id : ℕ) (xs : List ℕ) (c : Counts) (desk tree path buffer : List ℕ) → Adds n c xs (row_from chapter n id xs c desk tree path buffer).answer
unfolding row_from
run-adds chapter n id [] c desk tree path buffer = adds_none n c
run-adds chapter n id (x ∷ xs) c desk tree path buffer =
    let r = read_of chapter desk tree path buffer id x in
    adds_one n c x xs r (λ cell. row_from chapter n (suc id) xs (plus cell c) r.desk r.tree r.path r.buffer)
    (λ cell. run-adds chapter n (suc id) xs (plus cell c) r.desk r.tree r.path r.buffer)
    r.found

-- ---- a read that was asked for is no write, so its finish is not Done

not_done : (o : Result Unit Refusal) (marked : Bool) → finished_or o (answer_for Read marked) ≢ (Ok finished.Done)
not_done (Err q) marked h = let z : ◌≡◌ {A = ℕ} 0 1 = cc in omega arith
not_done (Ok tt) true h = let z : ◌≡◌ {A = ℕ} 0 1 = cc in omega arith
not_done (Ok tt) false h = let z : ◌≡◌ {A = ℕ} 0 1 = cc in omega arith

finished-not : (o : Result Unit Refusal) (s : Sizes) (x : ℕ) (desk tree path buffer : List ℕ) (p : ℕ) → kind_asked desk ≡ Read
    → (finished_by o s x desk tree path buffer).answer ≢ Ok (p, Ok finished.Done)
finished-not (Err q) s x desk tree path buffer p k h =
    let e : ◌≡◌ {A = Result Finished Refusal} (Err q) (Ok finished.Done) = ap came_in h in
    let z : ◌≡◌ {A = ℕ} 0 1 = cc in
    omega arith
finished-not (Ok tt) s x desk tree path buffer p k h =
    let e : (finish_of real desk path buffer).answer ≡ Ok finished.Done = ap came_in h in
    let c = finish_checked real desk path buffer in
    not_done c (was_marked real desk path) (ap (λ (z : Kind). finished_or c (answer_for z (was_marked real desk path))) (sym k) ∙ e)

read-not : (desk tree path buffer : List ℕ) (id draw p : ℕ) → (request_of desk tree path buffer Read id draw).answer ≢ Ok (p, Ok finished.Done)
read-not desk tree path buffer id draw p e = go (ask_of desk Read id draw buffer).answer refl
  where
    d : List ℕ
    d = (ask_of desk Read id draw buffer).desk

    go : (a : Result ℕ Refusal) → (ask_of desk Read id draw buffer).answer ≡ a → ⊥
    go (Err q) h =
        let w : ◌≡◌ {A = Answered} (Err q) (Ok (p, Ok finished.Done)) = sym (ap (λ (a : Result ℕ Refusal). (asked_for a d tree path buffer).answer) h) ∙ e in
        let z : ◌≡◌ {A = ℕ} 0 1 = cc in
        omega arith
    go (Ok x) h =
        let l = asked_leaf desk Read id draw buffer x h in
        finished-not (fetch_of (sizes_of d) x tree path).answer (sizes_of d) x d tree (fetch_of (sizes_of d) x tree path).path buffer p
        (ap kind_asked l.after ∙ opened-kind desk Read id draw buffer l.passed) (sym (ap (λ (a : Result ℕ Refusal). (asked_for a d tree path buffer).answer) h) ∙ e)

-- ---- all of it

pub any_row : AnyRow
any_row =
    record {
      adds_up =
          λ desk tree chapter first end draws c complete h.
          let w = was-done desk tree chapter first end draws c complete h in
          let k = run-adds chapter (end - first) first draws no_counts desk tree (zeros (path_len (sizes_of desk))) (zeros record_len) c complete w.1 in
          let l = (row-passed w.0).draws_length in (
            k.0 ∙ omega (arith, l),
            ((λ t. eqb-true c.passed (end - first) (sym k.1 ∙ t)), (λ e. k.1 ∙ eq-eqb c.passed (end - first) e)),
          );
      refuses =
          λ desk tree chapter first end draws q e. (
            ap (λ (x : Result Unit Refusal). (row_by x desk tree chapter first end draws).answer) e,
            ap (λ (x : Result Unit Refusal). (row_by x desk tree chapter first end draws).desk) e,
            ap (λ (x : Result Unit Refusal). (row_by x desk tree chapter first end draws).tree) e,
          );
      never_done = read-not;
    }
