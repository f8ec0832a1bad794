-- Demand 3 with rows of the verdict book and texts of TAP among the requests: each asks for the leaves of its range, one after the other, whatever it
-- finds there and whatever the text says. Assumes nothing.
use Rattle.verdicts.specs.Cells.{counted}
use Rattle.sizes.specs.declared.Refusal.{Refusal}
use Rattle.std.specs.Prelude.{ℕ, suc, ◌+◌, ◌-◌, ◌<◌, ◌≡◌, Bool, List, [], ◌∷◌, ◌++◌, length, get_or, take, drop, Err, Ok, Result}
use Rattle.words.specs.Bytes.{splice, zeros}
use Rattle.sizes.specs.Sizes.{record_len, path_len}
use Rattle.desk.specs.declared.Kind.TheVariants.{Read}
use Rattle.desk.specs.Readers.{sizes_of}
use Rattle.items.specs.Real.{real}
use Rattle.draws.specs.Draws.{AllGood, leaves_shown, from, indices, rearrange, rearranged}
use Rattle.requests.specs.Request.{Answered}
use Rattle.requests.specs.Request.{request_of}
use Rattle.verdicts.specs.declared.counts.Counts.{Counts}
use Rattle.verdicts.specs.declared.counts.Row.{Row}
use Rattle.book.specs.MatrixRow.{row_checked, row_of}
use Rattle.sheets.specs.Sheet.{entry_start, entry_at, empty_sheet}
use Rattle.taking.specs.declared.BadText.{BadText}
use Rattle.taking.specs.Taking.{TextResult, take_of}
use Rattle.tap.specs.declared.NotRead.{NotRead}
use Rattle.tap.specs.declared.NotRead.TheVariants as not_read
use Rattle.passing.specs.Passing.{kind_of}
use Rattle.tap.specs.Tap.{read_of, write_checked, write_of}
use Rattle.promises.specs.Stores.{ours, format_for}
use Rattle.promises.specs.DemandThree.{Around, shown_if, go_on, finish_then, Run}

-- the leaves that the reads of a row ask for, from `id` on: a refusal ends them
abbrev pub leaf_asked : Answered → List ℕ → List ℕ
leaf_asked (Err q) more = []
leaf_asked (Ok (leaf, f)) more = leaf ∷ go_on f more

unfoldable pub reads_show : ℕ → List ℕ → List ℕ → List ℕ → List ℕ → List ℕ → List ℕ
reads_show id [] desk tree path buffer = []
reads_show id (x ∷ xs) desk tree path buffer =
    let r = request_of desk tree path buffer Read id x in
    leaf_asked r.answer (reads_show (suc id) xs r.desk r.tree r.path r.buffer)

abbrev pub row_shows_by : Result Unit Refusal → List ℕ → List ℕ → ℕ → List ℕ → List ℕ
row_shows_by (Err q) desk tree first draws = []
row_shows_by (Ok tt) desk tree first draws = reads_show first draws desk tree (zeros (path_len (sizes_of desk))) (zeros record_len)

abbrev pub row_shows : List ℕ → List ℕ → ℕ → ℕ → List ℕ → List ℕ
row_shows desk tree first end draws = row_shows_by (row_checked desk tree first end draws) desk tree first draws

-- and those that the requests of a sheet ask for, from entry i on: a write or a read, by the entry
unfoldable pub pass_shows : ℕ → ℕ → List ℕ → List ℕ → List ℕ → List ℕ → List ℕ → List ℕ
pass_shows first i [] desk tree path sheet = []
pass_shows first i (x ∷ xs) desk tree path sheet =
    let r = request_of desk tree path (entry_at sheet i) (kind_of (entry_at sheet i)) (first + i) x in
    leaf_asked r.answer (pass_shows first (suc i) xs r.desk r.tree r.path (splice sheet (entry_start i) r.buffer))

abbrev pub sheet_shows : List ℕ → List ℕ → ℕ → List ℕ → List ℕ → List ℕ
sheet_shows desk tree first draws sheet = pass_shows first 0 draws desk tree (zeros (path_len (sizes_of desk))) sheet

-- a text that is read: nothing where the checks or the text refuse
abbrev pub text_shows : Result (Unit {0}) BadText → List ℕ → List ℕ → ℕ → List ℕ → List ℕ → List ℕ
text_shows (Ok u) desk tree first draws sheet = sheet_shows desk tree first draws sheet
text_shows (Err b) desk tree first draws sheet = []

abbrev pub taken_shows : TextResult → List ℕ → List ℕ → ℕ → List ℕ → List ℕ
taken_shows r desk tree first draws = text_shows r.answer desk tree first draws r.sheet

abbrev pub tap_in_shows_by : Result Unit Refusal → List ℕ → List ℕ → ℕ → ℕ → ℕ → ℕ → List ℕ → List ℕ → List ℕ
tap_in_shows_by (Err q) desk tree chapter year first end draws text = []
tap_in_shows_by (Ok tt) desk tree chapter year first end draws text = taken_shows (take_of chapter year (end - first) text) desk tree first draws

abbrev pub tap_in_shows : List ℕ → List ℕ → ℕ → ℕ → ℕ → ℕ → List ℕ → List ℕ → List ℕ
tap_in_shows desk tree chapter year first end draws text = tap_in_shows_by (row_checked desk tree first end draws) desk tree chapter year first end draws text

-- a text that is written
abbrev pub tap_out_shows_by : Result Unit Refusal → List ℕ → List ℕ → ℕ → ℕ → List ℕ → List ℕ
tap_out_shows_by (Err q) desk tree first end draws = []
tap_out_shows_by (Ok tt) desk tree first end draws = sheet_shows desk tree first draws (empty_sheet (end - first))

abbrev pub tap_out_shows : List ℕ → List ℕ → ℕ → ℕ → List ℕ → List ℕ → List ℕ
tap_out_shows desk tree first end draws out = tap_out_shows_by (write_checked desk tree first end draws out) desk tree first end draws

-- what is done in a run: a request of an id in its surroundings; over a tree with any bytes a row of a chapter; a text read for a chapter and year over a
-- range, and one written of a range into a buffer
pub data Deed : Type 0 where
  request : ℕ → Around → Deed
  row : List ℕ → ℕ → ℕ → ℕ → Deed
  tap_in : List ℕ → ℕ → ℕ → ℕ → ℕ → List ℕ → Deed
  tap_out : List ℕ → ℕ → ℕ → ℕ → List ℕ → Deed

-- the ids that it asks for: those of a row and of a text are its range
abbrev pub ids_asked : Deed → List ℕ
ids_asked (request u e) = u ∷ []
ids_asked (row tree chapter first end) = from first (end - first)
ids_asked (tap_in tree chapter year first end text) = from first (end - first)
ids_asked (tap_out tree chapter first end out) = from first (end - first)

abbrev pub all_ids : List Deed → List ℕ
all_ids [] = []
all_ids (d ∷ ds) = ids_asked d ++ all_ids ds

-- a run ends at its first refusal, a row's and a text's too
abbrev pub go_on_row : Result Row Refusal → List ℕ → List ℕ
go_on_row (Ok r) more = more
go_on_row (Err q) more = []

abbrev pub go_on_taken : Result Unit NotRead → List ℕ → List ℕ
go_on_taken (Ok tt) more = more
go_on_taken (Err (not_read.Bad b)) more = []
go_on_taken (Err (not_read.Refused q)) more = []

abbrev pub go_on_printed : Result ℕ Refusal → List ℕ → List ℕ
go_on_printed (Ok len) more = more
go_on_printed (Err q) more = []

-- the leaves that a run shows: from a desk, for deeds, with draws for them: a request takes one, a row and a text one for each id of its range
unfoldable pub deeds_show : List ℕ → List Deed → List ℕ → List ℕ
deeds_show desk [] xs = []
deeds_show desk (request u e ∷ ds) [] = []
deeds_show desk (request u e ∷ ds) (x ∷ xs) =
    shown_if ((ours real).ask desk e.kind u x e.content).answer
    (λ p. p ∷ go_on (finish_then (ours real) desk u x e).answer (deeds_show (finish_then (ours real) desk u x e).desk ds xs))
deeds_show desk (row tree chapter first end ∷ ds) xs =
    let ys = take (end - first) xs in
    row_shows desk tree first end ys
    ++ go_on_row (row_of desk tree chapter first end ys).answer (deeds_show (row_of desk tree chapter first end ys).desk ds (drop (end - first) xs))
deeds_show desk (tap_in tree chapter year first end text ∷ ds) xs =
    let ys = take (end - first) xs in
    let r = read_of desk tree chapter year first end ys text in
    tap_in_shows desk tree chapter year first end ys text ++ go_on_taken r.answer (deeds_show r.desk ds (drop (end - first) xs))
deeds_show desk (tap_out tree chapter first end out ∷ ds) xs =
    let ys = take (end - first) xs in
    let r = write_of desk tree chapter first end ys out in
    tap_out_shows desk tree first end ys out ++ go_on_printed r.answer (deeds_show r.desk ds (drop (end - first) xs))

-- from format: the deeds have their own surroundings, so those of the run are not looked at
abbrev pub deed_leaves : (n : ℕ) (ds : List Deed) (draws : List ℕ) → Run n draws → List ℕ
deed_leaves n ds draws r = deeds_show (format_for r.start r.lent).desk ds (drop n draws)

-- the statements of demand 3, word for word, with the ids of the deeds in the place of the ids
pub record ThreeWithDeeds : Type 0 where
  pub three : (n : ℕ) (ds es : List Deed) → length (all_ids ds) ≡ length (all_ids es) → AllGood n (all_ids ds) → AllGood n (all_ids es)
      → (draws : List ℕ) → length draws ≡ n + length (all_ids ds)
      → (r : Run n draws) (r' : Run n (rearranged draws (rearrange n (all_ids ds) (all_ids es))))
      → (j : ℕ) → j < length (deed_leaves n ds draws r) → j < length (deed_leaves n es (rearranged draws (rearrange n (all_ids ds) (all_ids es))) r')
      → get_or (deed_leaves n ds draws r) j 0 ≡ get_or (deed_leaves n es (rearranged draws (rearrange n (all_ids ds) (all_ids es))) r') j 0
  pub shown_by_draws : (n : ℕ) (ds : List Deed) (draws : List ℕ) → AllGood n (all_ids ds) → (r : Run n draws)
      → (j : ℕ) → j < length (deed_leaves n ds draws r) → get_or (deed_leaves n ds draws r) j 0 ≡ get_or (leaves_shown n (all_ids ds) draws) j 0
  pub shown_once : (n : ℕ) (ds : List Deed) (draws : List ℕ) → AllGood n (all_ids ds) → length draws ≡ n + length (all_ids ds) → (r : Run n draws)
      → (j : ℕ) → j < length (deed_leaves n ds draws r) → get_or (deed_leaves n ds draws r) j 0 ≡ get_or draws (get_or (indices n (all_ids ds)) j 0) 0
  -- and a row that is counted has asked for a leaf for each id of its range, whatever it found there and whatever desk and tree are
  pub asks_for_each : (desk tree : List ℕ) (chapter first end : ℕ) (draws : List ℕ) (c : Counts) (complete : Bool)
      → (row_of desk tree chapter first end draws).answer ≡ counted c complete → length (row_shows desk tree first end draws) ≡ end - first
  -- so has a text that is read, whatever it says, and one that is written
  pub read_asks_for_each : (desk tree : List ℕ) (chapter year first end : ℕ) (draws text : List ℕ)
      → (read_of desk tree chapter year first end draws text).answer ≡ Ok tt → length (tap_in_shows desk tree chapter year first end draws text) ≡ end - first
  pub write_asks_for_each : (desk tree : List ℕ) (chapter first end : ℕ) (draws out : List ℕ) (len : ℕ)
      → (write_of desk tree chapter first end draws out).answer ≡ Ok len → length (tap_out_shows desk tree first end draws out) ≡ end - first
