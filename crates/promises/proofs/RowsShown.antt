-- A row shows what requests of its range would show in some surroundings; one that is counted has asked for each id of the range. Assumes nothing.
use Rattle.verdicts.specs.Cells.{counted}
use Rattle.std.specs.Prelude.{Err, Ok, Result}
use Rattle.sizes.specs.declared.Refusal.{Refusal}
use Prim.Native.Nat.{ℕ, suc, ◌-◌}
use mathlib.Core.Path.{◌≡◌, refl, ap, subst₂, ◌∙◌}
use mathlib.Core.Bool.{Bool}
use mathlib.Core.List.{List, [], ◌∷◌, ◌++◌}
use lib.ListN.{length, take, drop, take-append-drop}
use Rattle.words.specs.Bytes.{zeros}
use Rattle.sizes.specs.Sizes.{record_len, path_len}
use Rattle.desk.specs.declared.Kind.TheVariants.{Read}
use Rattle.desk.specs.Readers.{sizes_of}
use Rattle.draws.specs.Draws.{from}
use Rattle.store.specs.declared.Finished.TheVariants as finished
use Rattle.requests.specs.Request.{Answered}
use Rattle.requests.specs.Request.{requested, request_of}
use Rattle.verdicts.specs.declared.counts.Cell.{Cell}
use Rattle.verdicts.specs.declared.counts.Cell.TheVariants.{Bad, NotRun}
use Rattle.verdicts.specs.declared.counts.Counts.{Counts}
use Rattle.verdicts.specs.Cells.{record_cell, no_counts, plus}
use Rattle.book.specs.MatrixRow.{ReadResult, RunResult, found_by, looked_by, read_of, going_on, row_from, row_checked, row_by, row_of}
use Rattle.book.proofs.Passed.{row-passed}
use Rattle.promises.specs.Deeds.{leaf_asked, reads_show, row_shows_by, row_shows, go_on_row}
use Rattle.promises.proofs.OneShown.{Shown, shown-nothing, GoesOn, Follows, request-shown}
use Rattle.promises.proofs.BookRows.{not-counted, was-done}

-- ---- a run of reads, and what goes on after it

module _ (chapter n : ℕ) (us rest : List ℕ) (more : List ℕ → List ℕ) where
  abbrev then_more : List ℕ → RunResult → List ℕ
  then_more shown r = shown ++ go_on_row r.answer (more r.desk)

  abbrev reads_then : ℕ → List ℕ → Counts → List ℕ → List ℕ → List ℕ → List ℕ → List ℕ
  reads_then id xs c desk tree path buffer = then_more (reads_show id xs desk tree path buffer) (row_from chapter n id xs c desk tree path buffer)

  abbrev After : ℕ → List ℕ → Type 0
  After id xs = (c : Counts) (desk tree path buffer : List ℕ) → Shown (reads_then id xs c desk tree path buffer) desk (from id (length xs) ++ us) (xs ++ rest)

  -- after a read that was answered so
  module _ (id : ℕ) (xs : List ℕ) (c : Counts) (ih : After (suc id) xs) (d t q b : List ℕ) where
    abbrev FollowsRead : Answered → Type 0
    FollowsRead a =
        let r = looked_by chapter (requested a d t q b) in
        Follows (from (suc id) (length xs) ++ us) (xs ++ rest) a d
        (then_more (leaf_asked a (reads_show (suc id) xs d t q b)) (going_on r (λ cell. row_from chapter n (suc id) xs (plus cell c) d t q b) r.found))

    on-cell : (p : ℕ) (cell : Cell) → GoesOn (from (suc id) (length xs) ++ us) (xs ++ rest) p d (p ∷ reads_then (suc id) xs (plus cell c) d t q b)
    on-cell p cell = record { rest = reads_then (suc id) xs (plus cell c) d t q b; shown_is = refl; rest_shown = ih (plus cell c) d t q b }

    read-follows : (a : Answered) → FollowsRead a
    read-follows (Err r) = refl
    read-follows (Ok (p, Ok finished.Record)) = on-cell p (record_cell chapter b)
    read-follows (Ok (p, Ok finished.Never)) = on-cell p NotRun
    read-follows (Ok (p, Ok finished.Done)) = on-cell p Bad
    read-follows (Ok (p, Err r)) = refl

  module _ (on : (d : List ℕ) → Shown (more d) d us rest) where
    reads-shown : (id : ℕ) (xs : List ℕ) → After id xs
    unfolding reads_show row_from read_of
    reads-shown id [] c desk tree path buffer = on desk
    reads-shown id (x ∷ xs) c desk tree path buffer =
        let r = request_of desk tree path buffer Read id x in
        request-shown desk id x (from (suc id) (length xs) ++ us) (xs ++ rest) (reads_then id (x ∷ xs) c desk tree path buffer) tree path buffer Read
        (read-follows id xs c (reads-shown (suc id) xs) r.desk r.tree r.path r.buffer r.answer)

-- ---- a row takes a draw for each id of its range, or shows nothing

module _ (desk tree : List ℕ) (chapter first end : ℕ) (us xs : List ℕ) (more : List ℕ → List ℕ)
    (on : (d : List ℕ) → Shown (more d) d us (drop (end - first) xs)) where
  abbrev ys : List ℕ
  ys = take (end - first) xs

  pub row-shown : (o : Result Unit Refusal) → row_checked desk tree first end ys ≡ o
      → Shown (row_shows_by o desk tree first ys ++ go_on_row (row_by o desk tree chapter first end ys).answer (more (row_by o desk tree chapter first end ys).desk))
      desk (from first (end - first) ++ us) xs
  row-shown (Err q) e = shown-nothing desk (from first (end - first) ++ us) xs
  row-shown (Ok tt) e =
      subst₂ (λ (k : ℕ) (zs : List ℕ).
      Shown
      (reads_then chapter (end - first) us (drop (end - first) xs) more first ys no_counts desk tree (zeros (path_len (sizes_of desk))) (zeros record_len))
      desk (from first k ++ us) zs)
      (row-passed e).draws_length (take-append-drop (end - first) xs)
      (reads-shown chapter (end - first) us (drop (end - first) xs) more on first ys no_counts desk tree (zeros (path_len (sizes_of desk))) (zeros record_len))

-- ---- a counted row asked for each

all_asked : (chapter : ℕ) (a : Answered) (r : ReadResult) (more : Cell → RunResult) (b rest : List ℕ) (n : ℕ) (c : Counts) (complete : Bool)
    → ((cell : Cell) → (more cell).answer ≡ counted c complete → length rest ≡ n) → (going_on r more (found_by chapter a b)).answer ≡ counted c complete
    → length (leaf_asked a rest) ≡ suc n
all_asked chapter (Err q) r more b rest n c complete f h = absurd (not-counted q c complete h)
all_asked chapter (Ok (p, Ok finished.Record)) r more b rest n c complete f h = ap suc (f (record_cell chapter b) h)
all_asked chapter (Ok (p, Ok finished.Never)) r more b rest n c complete f h = ap suc (f NotRun h)
all_asked chapter (Ok (p, Ok finished.Done)) r more b rest n c complete f h = ap suc (f Bad h)
all_asked chapter (Ok (p, Err q)) r more b rest n c complete f h = absurd (not-counted q c complete h)

reads_all : (chapter n id : ℕ) (xs : List ℕ) (c : Counts) (desk tree path buffer : List ℕ) (c' : Counts) (complete : Bool)
    → (row_from chapter n id xs c desk tree path buffer).answer ≡ counted c' complete → length (reads_show id xs desk tree path buffer) ≡ length xs
unfolding reads_show row_from read_of
reads_all chapter n id [] c desk tree path buffer c' complete h = refl
reads_all chapter n id (x ∷ xs) c desk tree path buffer c' complete h =
    let r = request_of desk tree path buffer Read id x in
    all_asked chapter r.answer (looked_by chapter r)
    (λ cell. row_from chapter n (suc id) xs (plus cell c) r.desk r.tree r.path r.buffer) r.buffer
    (reads_show (suc id) xs r.desk r.tree r.path r.buffer) (length xs) c' complete
    (λ cell. reads_all chapter n (suc id) xs (plus cell c) r.desk r.tree r.path r.buffer c' complete)
    h

pub each-asked : (desk tree : List ℕ) (chapter first end : ℕ) (draws : List ℕ) (c : Counts) (complete : Bool)
    → (row_of desk tree chapter first end draws).answer ≡ counted c complete → length (row_shows desk tree first end draws) ≡ end - first
each-asked desk tree chapter first end draws c complete h =
    let w = was-done desk tree chapter first end draws c complete h in
    ap (λ (o : Result Unit Refusal). length (row_shows_by o desk tree first draws)) w.0
    ∙ reads_all chapter (end - first) first draws no_counts desk tree (zeros (path_len (sizes_of desk))) (zeros record_len) c complete w.1
    ∙ (row-passed w.0).draws_length
