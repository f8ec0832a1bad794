-- Demand 3 with rows and texts among the requests: a run of deeds shows a beginning of what a run of requests shows. Assumes nothing.
use Rattle.std.specs.Prelude.{Err, Ok, Result}
use Rattle.sizes.specs.declared.Refusal.{Refusal}
use Prim.Native.Nat.{ℕ, ◌-◌, ◌<◌}
use mathlib.Core.Path.{◌≡◌, refl, sym, ap, ◌∙◌}
use mathlib.Core.List.{List, [], ◌∷◌}
use native.Mathlib.Omega.{arith}
use lib.ListN.{length, get_or, take, drop}
use Rattle.items.specs.Real.{real}
use Rattle.items.proofs.Sound.{real-sound}
use Rattle.draws.specs.Draws.{rearrange, rearranged}
use Rattle.asks.specs.Ask.{ask_of}
use Rattle.store.specs.declared.Finished.{Finished}
use Rattle.store.specs.declared.Finished.TheVariants as finished
use Rattle.book.specs.MatrixRow.{row_checked}
use Rattle.tap.specs.Tap.{write_checked}
use Rattle.promises.specs.Stores.{ours, format_for}
use Rattle.promises.specs.DemandThree.{finish_then, shown_if, go_on, shows, Run, leaves_of}
use Rattle.promises.specs.Deeds.{Deed, request, row, tap_in, tap_out, all_ids, deeds_show, deed_leaves, ThreeWithDeeds}
use Rattle.promises.proofs.Three.{Begins, begins-at, begins-length, demand-three, leaf-at, shown_once}
use Rattle.promises.proofs.OneShown.{Shown, shown-nothing}
use Rattle.promises.proofs.RowsShown.{row-shown, each-asked}
use Rattle.promises.proofs.TapsShown.{tap-in-shown, tap-out-shown, read_asked, write-asked}

-- ---- a run of deeds

shown-request : (a : Result ℕ Refusal) (f : Result Finished Refusal) (part whole : List ℕ) → Begins part whole → Begins (shown_if a (λ p. p ∷ go_on f part)) (shown_if a (λ p. p ∷ go_on f whole))
shown-request (Err q) f part whole b = ([], refl)
shown-request (Ok p) (Ok finished.Record) part whole b = (b.0, ap (λ (l : List ℕ). p ∷ l) b.1)
shown-request (Ok p) (Ok finished.Never) part whole b = (b.0, ap (λ (l : List ℕ). p ∷ l) b.1)
shown-request (Ok p) (Ok finished.Done) part whole b = (b.0, ap (λ (l : List ℕ). p ∷ l) b.1)
shown-request (Ok p) (Err q) part whole b = ([], refl)

deeds-shown : (desk : List ℕ) (ds : List Deed) (xs : List ℕ) → Shown (deeds_show desk ds xs) desk (all_ids ds) xs
unfolding deeds_show shows
deeds-shown desk [] xs = shown-nothing desk [] xs
deeds-shown desk (request u e ∷ ds) [] = shown-nothing desk (u ∷ all_ids ds) []
deeds-shown desk (request u e ∷ ds) (x ∷ xs) =
    let f = finish_then (ours real) desk u x e in
    let s = deeds-shown f.desk ds xs in (
      e ∷ s.0,
      shown-request (ask_of desk e.kind u x e.content).answer f.answer (deeds_show f.desk ds xs) (shows (ours real) f.desk (all_ids ds) xs s.0) s.1,
    )
deeds-shown desk (row tree chapter first end ∷ ds) xs =
    row-shown desk tree chapter first end (all_ids ds) xs (λ d. deeds_show d ds (drop (end - first) xs)) (λ d. deeds-shown d ds (drop (end - first) xs))
    (row_checked desk tree first end (take (end - first) xs)) refl
deeds-shown desk (tap_in tree chapter year first end text ∷ ds) xs =
    tap-in-shown desk tree first end (all_ids ds) xs (λ d. deeds_show d ds (drop (end - first) xs)) (λ d. deeds-shown d ds (drop (end - first) xs)) chapter year text
    (row_checked desk tree first end (take (end - first) xs)) refl
deeds-shown desk (tap_out tree chapter first end out ∷ ds) xs =
    tap-out-shown desk tree first end (all_ids ds) xs (λ d. deeds_show d ds (drop (end - first) xs)) (λ d. deeds-shown d ds (drop (end - first) xs)) chapter out
    (write_checked desk tree first end (take (end - first) xs) out) refl

-- ---- the demand: the same of a run of requests

module _ (n : ℕ) (ds : List Deed) (draws : List ℕ) (r : Run n draws) where
  run-shown : Shown (deed_leaves n ds draws r) (format_for r.start r.lent).desk (all_ids ds) (drop n draws)
  run-shown = deeds-shown (format_for r.start r.lent).desk ds (drop n draws)

  abbrev as_run : Run n draws
  as_run =
      record {
        start = r.start;
        ids = r.ids;
        byte = r.byte;
        starts = r.starts;
        lent = r.lent;
        formats = r.formats;
        around = run-shown.0;
      }

  abbrev leaves : List ℕ
  leaves = leaves_of (ours real) n (all_ids ds) draws as_run

  same-leaf : (j : ℕ) → j < length (deed_leaves n ds draws r) → get_or (deed_leaves n ds draws r) j 0 ≡ get_or leaves j 0
  same-leaf = begins-at (deed_leaves n ds draws r) leaves run-shown.1

  inside : (j : ℕ) → j < length (deed_leaves n ds draws r) → j < length leaves
  inside j k = let l = begins-length (deed_leaves n ds draws r) leaves run-shown.1 in omega arith

pub three_with_deeds : ThreeWithDeeds
three_with_deeds =
    record {
      three =
          λ n ds es l g h draws e r r' j k k'.
          let other = rearranged draws (rearrange n (all_ids ds) (all_ids es)) in
          same-leaf n ds draws r j k
          ∙ (demand-three real real-sound real real-sound n (all_ids ds) (all_ids es) l g h).1 draws e (as_run n ds draws r) (as_run n es other r') j
          (inside n ds draws r j k) (inside n es other r' j k')
          ∙ sym (same-leaf n es other r' j k');
      shown_by_draws =
          λ n ds draws g r j k.
          same-leaf n ds draws r j k ∙ leaf-at real real-sound n (all_ids ds) draws g (as_run n ds draws r) j (inside n ds draws r j k);
      shown_once =
          λ n ds draws g e r j k.
          same-leaf n ds draws r j k ∙ (shown_once real real-sound n (all_ids ds) draws g e (as_run n ds draws r)).0 j (inside n ds draws r j k);
      asks_for_each = each-asked;
      read_asks_for_each = read_asked;
      write_asks_for_each = write-asked;
    }
