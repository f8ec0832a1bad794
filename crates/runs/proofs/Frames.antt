-- A step leaves the buffers that its line does not name as they were, and a run stays sound. Assumes nothing.
use Rattle.sizes.specs.declared.Refusal.{Refusal}
use Prim.Native.Nat.{ℕ, ◌+◌, ◌≤◌}
use mathlib.Core.Path.{◌≡◌, refl, sym, ap, subst}
use mathlib.Core.Bool.{Bool, true, false}
use mathlib.Core.List.{List, []}
use native.Mathlib.Omega.{arith}
use lib.ListN.{take}
use Rattle.formats.specs.Format.{format_checked, format_of}
use Rattle.formats.proofs.Passed.{format-passed}
use Rattle.setup.specs.declared.Store.{Store}
use Rattle.std.specs.Prelude.{Option, Some, None, Err, Ok, Result}
use Rattle.setup.specs.Setup.{store_of, start_good, start_leaves}
use Rattle.setup.proofs.Bounds.{store-fits}
use Rattle.script.specs.declared.Request.{Request}
use Rattle.script.specs.Lines.{request_of}
use Rattle.listing.specs.Listing.{Wrote, most_row}
use Rattle.runs.specs.declared.run.Run.{Run}
use Rattle.runs.specs.declared.run.Run.TheVariants as run
use Rattle.runs.specs.Shelf.{key, Shelf, shelf, over, nothing, desk_len_of}
use Rattle.runs.specs.Run.{first_step, format_by, second_step, request_step, step_of, Became, Given, Roomy, Sound, count_of}

-- ---- what is not named stays

pub first_frame : (x : Option Store) (sh : Shelf) {out out' : List ℕ} {r : Run} {w : ℕ} → (r ≡ (first_step x nothing).run) × Wrote out 0 (first_step x nothing).text out' w × (w ≤ most_row)
    → Became (first_step x sh) out out' r w sh
first_frame (Some x) sh p = record { run_is = p.0; shelf_is = refl; wrote = p.1; most = p.2 }
first_frame None sh p = record { run_is = p.0; shelf_is = refl; wrote = p.1; most = p.2 }

module _ (t p b : List ℕ) {out out' : List ℕ} {r : Run} {w : ℕ} {d' l' : List ℕ} where
  format-frame : (o : Result Unit Refusal) (x : Store) (d ls : List ℕ) → Became (format_by o x (shelf d [] [] [] ls)) out out' r w (shelf d' [] [] [] l')
      → Became (format_by o x (shelf d t p b ls)) out out' r w (shelf d' t p b l')
  format-frame (Err q) x d ls y =
      record { run_is = y.run_is; shelf_is = ap (λ (h : Shelf). shelf h.desk t p b h.leaves) y.shelf_is; wrote = y.wrote; most = y.most }
  format-frame (Ok tt) x d ls y =
      record { run_is = y.run_is; shelf_is = ap (λ (h : Shelf). shelf h.desk t p b h.leaves) y.shelf_is; wrote = y.wrote; most = y.most }

  pub second-frame : (g : Bool) (x : Store) (xs d ls : List ℕ) → Became (second_step g x xs (shelf d [] [] [] ls)) out out' r w (shelf d' [] [] [] l')
      → Became (second_step g x xs (shelf d t p b ls)) out out' r w (shelf d' t p b l')
  second-frame true x xs d ls y =
      let l = start_leaves (take x.ids ls) xs in
      let f = format_of (take (desk_len_of x) d) x.height x.slots x.room x.ids key l in
      format-frame f.answer x (over (desk_len_of x) d f.desk) (over x.ids ls l) y
  second-frame false x xs d ls y =
      record { run_is = y.run_is; shelf_is = ap (λ (h : Shelf). shelf h.desk t p b h.leaves) y.shelf_is; wrote = y.wrote; most = y.most }

pub request-frame : (q : Option Request) (x : Store) (k : ℕ) (xs d t p b ls : List ℕ) {out out' : List ℕ} {r : Run} {w : ℕ} {d' t' p' b' : List ℕ}
    → Became (request_step q x k xs (shelf d t p b [])) out out' r w (shelf d' t' p' b' [])
    → Became (request_step q x k xs (shelf d t p b ls)) out out' r w (shelf d' t' p' b' ls)
request-frame (Some q) x k xs d t p b ls y =
    record { run_is = y.run_is; shelf_is = ap (λ (h : Shelf). shelf h.desk h.tree h.path h.buffer ls) y.shelf_is; wrote = y.wrote; most = y.most }
request-frame None x k xs d t p b ls y =
    record { run_is = y.run_is; shelf_is = ap (λ (h : Shelf). shelf h.desk h.tree h.path h.buffer ls) y.shelf_is; wrote = y.wrote; most = y.most }

-- ---- a run stays sound, and counts one request at most

abbrev Good : Run → ℕ → Type 0
Good r k = Sound r × (count_of r ≤ k)

good-first : (xs : List ℕ) (sh : Shelf) (q : Option Store) → store_of xs ≡ q → Good (first_step q sh).run 1
good-first xs sh (Some x) e = let f = store-fits xs x e in (record { height_high = f.height_high; ids_high = f.ids_high }, omega arith)
good-first xs sh None e = (tt, omega arith)

good-format : (desk : List ℕ) (x : Store) (starts : List ℕ) (sh : Shelf) (o : Result Unit Refusal) → Given x → format_checked desk x.height x.slots x.room x.ids key starts ≡ o
    → Good (format_by o x sh).run 1
good-format desk x starts sh (Err r) h e = (tt, omega arith)
good-format desk x starts sh (Ok tt) h e =
    (record { range = (format-passed desk x.height x.slots x.room x.ids key starts e).sizes; given = h }, omega arith)

good-second : (g : Bool) (x : Store) (xs : List ℕ) (sh : Shelf) → Given x → Good (second_step g x xs sh).run 1
good-second true x xs sh h = good-format (take (desk_len_of x) sh.desk) x (start_leaves (take x.ids sh.leaves) xs) _ _ h refl
good-second false x xs sh h = (tt, omega arith)

good-request : (q : Option Request) (x : Store) (k : ℕ) (xs : List ℕ) (sh : Shelf) → Roomy x → Good (request_step q x k xs sh).run (k + 1)
good-request (Some q) x k xs sh h = (h, omega arith)
good-request None x k xs sh h = (tt, omega arith)

pub good-step : (r : Run) (xs : List ℕ) (sh : Shelf) → Sound r → Good (step_of r xs sh).run (count_of r + 1)
good-step run.First xs sh h = good-first xs sh (store_of xs) refl
good-step (run.Second x) xs sh h = good-second (start_good x.ids xs) x xs sh h
good-step (run.Ready x k) xs sh h = good-request (request_of xs) x k xs sh h
good-step run.Over xs sh h = (tt, omega arith)

pub good-after : (r r' : Run) (xs : List ℕ) (sh : Shelf) → Sound r → r' ≡ (step_of r xs sh).run → Sound r' × (count_of r' ≤ count_of r + 1)
good-after r r' xs sh h e = subst (λ (x : Run). Good x (count_of r + 1)) (sym e) (good-step r xs sh h)
