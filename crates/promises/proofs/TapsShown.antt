-- A text of TAP that is read or written shows what requests of its range would show in some surroundings; it has asked for each id of the range, whatever
-- it says. Assumes nothing.
use Rattle.sizes.specs.declared.Refusal.{Refusal}
use Prim.Native.Nat.{ℕ, suc, ◌+◌, ◌-◌}
use mathlib.Core.Path.{◌≡◌, refl, ap, ap₂, subst, subst₂, ◌∙◌}
use mathlib.Core.List.{List, [], ◌∷◌, ◌++◌}
use native.Mathlib.Omega.{arith}
use lib.ListN.{length, take, drop, take-append-drop}
use Rattle.words.specs.Bytes.{splice, zeros}
use Rattle.sizes.specs.Sizes.{path_len}
use Rattle.sizes.proofs.Rows.{not-refused}
use Rattle.desk.specs.Readers.{sizes_of}
use Rattle.draws.specs.Draws.{from}
use Rattle.store.specs.declared.Finished.TheVariants as finished
use Rattle.requests.specs.Request.{Answered}
use Rattle.requests.specs.Request.{request_of}
use Rattle.book.specs.MatrixRow.{row_checked}
use Rattle.book.proofs.Passed.{row-passed}
use Rattle.sheets.specs.Sheet.{entry_start, entry_at, empty_sheet}
use Rattle.std.specs.Prelude.{Result, Ok, Err}
use Rattle.taking.specs.declared.BadText.{BadText}
use Rattle.taking.specs.Taking.{take_of}
use Rattle.passing.specs.Passing.{kind_of, outcome_of, request_entry, PassResult, passed, going_on, pass_from, SheetResult, pass_of}
use Rattle.tap.specs.Tap.{taken_by, read_text, read_by, read_of, write_checked, printed_by, write_by, write_of}
use Rattle.promises.specs.Deeds.{leaf_asked, pass_shows, sheet_shows, text_shows, tap_in_shows_by, tap_in_shows, tap_out_shows_by, tap_out_shows, go_on_taken, go_on_printed}
use Rattle.promises.proofs.AnyTaps.{row-checked, was_read, was-written}
use Rattle.promises.proofs.OneShown.{Shown, shown-nothing, GoesOn, Follows, request-shown}

-- ---- the requests of a sheet, and what goes on after them

abbrev go_on_if : Result Unit Refusal → List ℕ → List ℕ
go_on_if (Ok tt) more = more
go_on_if (Err q) more = []

module _ (first : ℕ) (us rest : List ℕ) (more : List ℕ → List ℕ) where
  abbrev then_more : List ℕ → PassResult → List ℕ
  then_more shown r = shown ++ go_on_if r.answer (more r.desk)

  abbrev pass_then : ℕ → List ℕ → List ℕ → List ℕ → List ℕ → List ℕ → List ℕ
  pass_then i xs desk tree path sheet = then_more (pass_shows first i xs desk tree path sheet) (pass_from first i xs desk tree path sheet)

  abbrev After : ℕ → List ℕ → Type 0
  After i xs = (desk tree path sheet : List ℕ) → Shown (pass_then i xs desk tree path sheet) desk (from (first + i) (length xs) ++ us) (xs ++ rest)

  -- after a request that was answered so
  module _ (i : ℕ) (xs : List ℕ) (ih : After (suc i) xs) (d t q s : List ℕ) where
    abbrev FollowsEntry : Answered → Type 0
    FollowsEntry a =
        Follows (from (suc (first + i)) (length xs) ++ us) (xs ++ rest) a d
        (then_more (leaf_asked a (pass_shows first (suc i) xs d t q s)) (going_on (passed (outcome_of a) d t q s) (pass_from first (suc i) xs d t q s) (outcome_of a)))

    on-entry : (p : ℕ) → GoesOn (from (suc (first + i)) (length xs) ++ us) (xs ++ rest) p d (p ∷ pass_then (suc i) xs d t q s)
    on-entry p =
        let k : first + suc i ≡ suc (first + i) = omega arith in
        record {
          rest = pass_then (suc i) xs d t q s;
          shown_is = refl;
          rest_shown = subst (λ (u : ℕ). Shown (pass_then (suc i) xs d t q s) d (from u (length xs) ++ us) (xs ++ rest)) k (ih d t q s);
        }

    entry_follows : (a : Answered) → FollowsEntry a
    entry_follows (Err r) = refl
    entry_follows (Ok (p, Ok finished.Record)) = on-entry p
    entry_follows (Ok (p, Ok finished.Never)) = on-entry p
    entry_follows (Ok (p, Ok finished.Done)) = on-entry p
    entry_follows (Ok (p, Err r)) = refl

  module _ (on : (d : List ℕ) → Shown (more d) d us rest) where
    pass-shown : (i : ℕ) (xs : List ℕ) → After i xs
    unfolding pass_shows pass_from request_entry
    pass-shown i [] desk tree path sheet = on desk
    pass-shown i (x ∷ xs) desk tree path sheet =
        let e = entry_at sheet i in
        let r = request_of desk tree path e (kind_of e) (first + i) x in
        request-shown desk (first + i) x (from (suc (first + i)) (length xs) ++ us) (xs ++ rest) (pass_then i (x ∷ xs) desk tree path sheet) tree path e (kind_of e)
        (entry_follows i xs (pass-shown (suc i) xs) r.desk r.tree r.path (splice sheet (entry_start i) r.buffer) r.answer)

-- a whole sheet, with a draw for each id of a range
module _ (desk tree : List ℕ) (first n : ℕ) (us xs : List ℕ) (more : List ℕ → List ℕ) (on : (d : List ℕ) → Shown (more d) d us (drop n xs))
    (sheet : List ℕ) (l : length (take n xs) ≡ n) where
  abbrev sheet_then : List ℕ
  sheet_then =
      let r = pass_of desk tree first (take n xs) sheet in
      sheet_shows desk tree first (take n xs) sheet ++ go_on_if r.answer (more r.desk)

  sheet-shown : Shown sheet_then desk (from first n ++ us) xs
  sheet-shown =
      let e : first + 0 ≡ first = omega arith in
      subst₂ (λ (us' zs : List ℕ). Shown sheet_then desk (us' ++ us) zs) (ap₂ from e l) (take-append-drop n xs)
      (pass-shown first us (drop n xs) more on 0 (take n xs) desk tree (zeros (path_len (sizes_of desk))) sheet)

-- ---- a text that is read, and one that is written: a draw for each id of its range, or nothing is shown

on-taken : (o : Result Unit Refusal) (more : List ℕ) → go_on_if o more ≡ go_on_taken (taken_by o) more
on-taken (Ok tt) more = refl
on-taken (Err q) more = refl

on-printed : (o : Result Unit Refusal) (chapter n : ℕ) (r : SheetResult) (out : List ℕ) (more : List ℕ → List ℕ)
    → go_on_if o (more r.desk) ≡ go_on_printed (printed_by o chapter n r out).answer (more (printed_by o chapter n r out).desk)
on-printed (Ok tt) chapter n r out more = refl
on-printed (Err q) chapter n r out more = refl

module _ (desk tree : List ℕ) (first end : ℕ) (us xs : List ℕ) (more : List ℕ → List ℕ) (on : (d : List ℕ) → Shown (more d) d us (drop (end - first) xs)) where
  abbrev ys : List ℕ
  ys = take (end - first) xs

  abbrev Here : List ℕ → Type 0
  Here part = Shown part desk (from first (end - first) ++ us) xs

  nothing : Here []
  nothing = shown-nothing desk (from first (end - first) ++ us) xs

  abbrev text_then : Result (Unit {0}) BadText → List ℕ → List ℕ
  text_then a sheet = let r = read_text a desk tree first ys sheet in text_shows a desk tree first ys sheet ++ go_on_taken r.answer (more r.desk)

  text-shown : (a : Result (Unit {0}) BadText) (sheet : List ℕ) → length ys ≡ end - first → Here (text_then a sheet)
  text-shown (Ok u) sheet l =
      let r = pass_of desk tree first ys sheet in
      subst (λ (w : List ℕ). Here (sheet_shows desk tree first ys sheet ++ w)) (on-taken r.answer (more r.desk))
      (sheet-shown desk tree first (end - first) us xs more on sheet l)
  text-shown (Err b) sheet l = nothing

  pub tap-in-shown : (chapter year : ℕ) (text : List ℕ) (o : Result Unit Refusal) → row_checked desk tree first end ys ≡ o
      → Here
      (tap_in_shows_by o desk tree chapter year first end ys text
      ++ go_on_taken (read_by o desk tree chapter year first end ys text).answer (more (read_by o desk tree chapter year first end ys text).desk))
  tap-in-shown chapter year text (Err q) e = nothing
  tap-in-shown chapter year text (Ok tt) e =
      let t = take_of chapter year (end - first) text in
      text-shown t.answer t.sheet (row-passed e).draws_length

  pub tap-out-shown : (chapter : ℕ) (out : List ℕ) (o : Result Unit Refusal) → write_checked desk tree first end ys out ≡ o
      → Here
      (tap_out_shows_by o desk tree first end ys
      ++ go_on_printed (write_by o desk tree chapter first end ys out).answer (more (write_by o desk tree chapter first end ys out).desk))
  tap-out-shown chapter out (Err q) e = nothing
  tap-out-shown chapter out (Ok tt) e =
      let r = pass_of desk tree first ys (empty_sheet (end - first)) in
      subst (λ (w : List ℕ). Here (sheet_shows desk tree first ys (empty_sheet (end - first)) ++ w)) (on-printed r.answer chapter (end - first) r out more)
      (sheet-shown desk tree first (end - first) us xs more on (empty_sheet (end - first)) (row-passed (row-checked desk tree first end ys out e)).draws_length)

-- ---- each was asked for

all_asked : (a : Answered) (d t q s : List ℕ) (more : PassResult) (rest : List ℕ) (n : ℕ) → (more.answer ≡ Ok tt → length rest ≡ n)
    → (going_on (passed (outcome_of a) d t q s) more (outcome_of a)).answer ≡ Ok tt → length (leaf_asked a rest) ≡ suc n
all_asked (Err r) d t q s more rest n f h = absurd (not-refused r h)
all_asked (Ok (p, Ok finished.Record)) d t q s more rest n f h = ap suc (f h)
all_asked (Ok (p, Ok finished.Never)) d t q s more rest n f h = ap suc (f h)
all_asked (Ok (p, Ok finished.Done)) d t q s more rest n f h = ap suc (f h)
all_asked (Ok (p, Err r)) d t q s more rest n f h = absurd (not-refused r h)

pass_all : (first i : ℕ) (xs desk tree path sheet : List ℕ) → (pass_from first i xs desk tree path sheet).answer ≡ Ok tt
    → length (pass_shows first i xs desk tree path sheet) ≡ length xs
unfolding pass_shows pass_from request_entry
pass_all first i [] desk tree path sheet h = refl
pass_all first i (x ∷ xs) desk tree path sheet h =
    let e = entry_at sheet i in
    let r = request_of desk tree path e (kind_of e) (first + i) x in
    let s = splice sheet (entry_start i) r.buffer in
    all_asked r.answer r.desk r.tree r.path s (pass_from first (suc i) xs r.desk r.tree r.path s)
    (pass_shows first (suc i) xs r.desk r.tree r.path s) (length xs) (pass_all first (suc i) xs r.desk r.tree r.path s) h

pub read_asked : (desk tree : List ℕ) (chapter year first end : ℕ) (draws text : List ℕ)
    → (read_of desk tree chapter year first end draws text).answer ≡ Ok tt → length (tap_in_shows desk tree chapter year first end draws text) ≡ end - first
read_asked desk tree chapter year first end draws text h =
    let w = was_read desk tree chapter year first end draws text h in
    let sheet = (take_of chapter year (end - first) text).sheet in
    ap (λ (o : Result Unit Refusal). length (tap_in_shows_by o desk tree chapter year first end draws text)) w.checked
    ∙ ap (λ (a : Result (Unit {0}) BadText). length (text_shows a desk tree first draws sheet)) w.good
    ∙ pass_all first 0 draws desk tree (zeros (path_len (sizes_of desk))) sheet w.passes
    ∙ (row-passed w.checked).draws_length

pub write-asked : (desk tree : List ℕ) (chapter first end : ℕ) (draws out : List ℕ) (len : ℕ)
    → (write_of desk tree chapter first end draws out).answer ≡ Ok len → length (tap_out_shows desk tree first end draws out) ≡ end - first
write-asked desk tree chapter first end draws out len h =
    let w = was-written desk tree chapter first end draws out len h in
    ap (λ (o : Result Unit Refusal). length (tap_out_shows_by o desk tree first end draws)) w.checked
    ∙ pass_all first 0 draws desk tree (zeros (path_len (sizes_of desk))) (empty_sheet (end - first)) w.says.passes
    ∙ (row-passed (row-checked desk tree first end draws out w.checked)).draws_length
