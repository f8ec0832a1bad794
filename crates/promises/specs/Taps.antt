-- TAP in and out. Over an honest server a text that is read is what the plain table then holds, and a text that is written is what the table says; on every
-- input a text that is refused changes nothing. Assumes nothing.
use Rattle.std.specs.Prelude.{ℕ, zero, suc, ◌+◌, ◌-◌, ◌<◌, ◌≤◌, ◌≡◌, ◌≢◌, ◌⊎◌, cond, ◌&&◌, List, [], ◌∷◌, ◌++◌, length, leb, ltb, Err, Ok}
use Rattle.std.proofs.Math.Option.{Option, none, some}
use Rattle.words.specs.Bytes.{splice, zeros}
use Rattle.sizes.specs.declared.Refusal.{Refusal}
use Rattle.sizes.specs.declared.Refusal.TheVariants.{Forged, Worn, Full}
use Rattle.sizes.specs.Sizes.{record_len, tree_len}
use Rattle.desk.specs.Readers.{status_of}
use Rattle.desk.specs.Status.{ready_status}
use Rattle.items.specs.Real.{real}
use Rattle.keeping.specs.Table.{Table}
use Rattle.book.specs.MatrixRow.{row_checked}
use Rattle.sheets.specs.Sheet.{entry_at, is_record}
use Rattle.taking.specs.declared.Trouble.{Trouble}
use Rattle.taking.specs.Taking.{in_line, take_of}
use Rattle.printing.specs.Printed.{room_of}
use Rattle.printing.specs.Printing.{head_text, text_of}
use Rattle.tap.specs.declared.NotRead.TheVariants as not_read
use Rattle.tap.specs.Tap.{ReadResult, read_of, WriteResult, write_checked, write_of}
use Rattle.promises.specs.Stores.{ours, Start, format_for}
use Rattle.promises.specs.Trees.{TreeState, TreeReached}
use Rattle.promises.specs.Rows.{AllLeaves, MayBegin}
use Rattle.promises.specs.Exists.{Proper}

-- ---- the plain table and a sheet

-- what an id holds after the entry for it: a record is written, and where there is none it stays
abbrev pub entry_or : List ℕ → Option (List ℕ) → Option (List ℕ)
entry_or entry held = cond (is_record entry) (some entry) held

-- the table after a sheet of n entries for the ids from `first` on
abbrev pub table_after : ℕ → ℕ → List ℕ → Table → Table
table_after first n sheet table = λ id. cond (leb first id && ltb id (first + n)) (entry_or (entry_at sheet (id - first)) (table id)) (table id)

-- Never is no record
abbrev pub entry_held : Option (List ℕ) → List ℕ
entry_held none = zeros record_len
entry_held (some rec) = rec

-- the sheet of n ids from `first` on
unfoldable pub table_sheet : Table → ℕ → ℕ → List ℕ
table_sheet table first zero = []
table_sheet table first (suc n) = table_sheet table first n ++ entry_held (table (first + n))

-- ---- over a server that returns what was last written

abbrev pub tap_read : TreeState → ℕ → ℕ → ℕ → ℕ → List ℕ → List ℕ → ReadResult
tap_read ts chapter year first end draws text = read_of ts.state.desk ts.tree chapter year first end draws text

abbrev pub tap_write : TreeState → ℕ → ℕ → ℕ → List ℕ → List ℕ → WriteResult
tap_write ts chapter first end draws out = write_of ts.state.desk ts.tree chapter first end draws out

-- the sheet that a text comes to
abbrev pub sheet_of : ℕ → ℕ → ℕ → ℕ → List ℕ → List ℕ
sheet_of chapter year first end text = (take_of chapter year (end - first) text).sheet

-- a state that is reached, with this desk and tree, whose table is of this kind
pub record Leaves (b : Start) (desk tree : List ℕ) (Due : ℕ → Option (List ℕ) → Type 0) : Type 0 where
  pub after : TreeState
  pub reached : TreeReached (ours real) b after
  pub desk_is : desk ≡ after.state.desk
  pub tree_is : tree ≡ after.tree
  pub table_is : (id : ℕ) → Due id (after.state.table id)

-- the first `count` ids of the range hold what their lines say
pub record PartRead (b : Start) (ts : TreeState) (chapter year first end : ℕ) (draws text : List ℕ) : Type 0 where
  pub count : ℕ
  pub count_low : count ≤ end - first
  pub leaves : Leaves b (tap_read ts chapter year first end draws text).desk (tap_read ts chapter year first end draws text).tree
      (λ id held. held ≡ table_after first count (sheet_of chapter year first end text) ts.state.table id)

-- a text may be read: a row may begin, and the text is good
pub record MayRead (b : Start) (ts : TreeState) (chapter year first end : ℕ) (draws text : List ℕ) : Type 0 where
  pub may_begin : MayBegin b ts first end draws
  pub good : (take_of chapter year (end - first) text).answer ≡ Ok tt

-- a text may be written: the desk is ready, its own checks refuse nothing, and its draws are leaves
pub record MayWrite (b : Start) (ts : TreeState) (first end : ℕ) (draws out : List ℕ) : Type 0 where
  pub ready : status_of ts.state.desk ≡ ready_status
  pub checked : write_checked ts.state.desk ts.tree first end draws out ≡ Ok tt
  pub all_leaves : AllLeaves b draws

pub record HonestTaps : Type 0 where
  -- a text that is read: each id with a line holds its record, all others what they held
  pub reads : (b : Start) → b.room < 256 → (ts : TreeState) → TreeReached (ours real) b ts → (chapter year first end : ℕ) (draws text : List ℕ)
      → (tap_read ts chapter year first end draws text).answer ≡ Ok tt
      → Leaves b (tap_read ts chapter year first end draws text).desk (tap_read ts chapter year first end draws text).tree
      (λ id held. held ≡ table_after first (end - first) (sheet_of chapter year first end text) ts.state.table id)
  -- whatever it answers, the ids before some one hold what their lines say, and all others what they held: what was done before a refusal stays
  pub part_read : (b : Start) → b.room < 256 → (ts : TreeState) → TreeReached (ours real) b ts → (chapter year first end : ℕ) (draws text : List ℕ)
      → PartRead b ts chapter year first end draws text
  pub read_not_forged : (b : Start) → b.room < 256 → (ts : TreeState) → TreeReached (ours real) b ts → (chapter year first end : ℕ) (draws text : List ℕ)
      → (tap_read ts chapter year first end draws text).answer ≢ Err (not_read.Refused Forged)
  -- a text that may be read is read, or it ends as Worn or Full: no other refusal ends it, and it is not answered as bad
  pub read_answers : (b : Start) → b.room < 256 → (ts : TreeState) → TreeReached (ours real) b ts → (chapter year first end : ℕ) (draws text : List ℕ)
      → MayRead b ts chapter year first end draws text
      → ((q : Refusal) → (tap_read ts chapter year first end draws text).answer ≡ Err (not_read.Refused q) → (q ≡ Worn) ⊎ (q ≡ Full))
      × ((t : Trouble) (line : ℕ) → (tap_read ts chapter year first end draws text).answer ≢ Err (not_read.Bad (in_line t line)))
  -- where the stash has room for every id, as Worn alone
  pub read_roomy : (b : Start) → b.room < 256 → b.ids ≤ b.room → (ts : TreeState) → TreeReached (ours real) b ts → (chapter year first end : ℕ) (draws text : List ℕ)
      → MayRead b ts chapter year first end draws text → (q : Refusal) → (tap_read ts chapter year first end draws text).answer ≡ Err (not_read.Refused q) → q ≡ Worn
  -- a text that is written is the one that says the table, and the table stays, whatever the answer
  pub writes : (b : Start) → b.room < 256 → (ts : TreeState) → TreeReached (ours real) b ts → (chapter first end : ℕ) (draws out : List ℕ) (len : ℕ)
      → (tap_write ts chapter first end draws out).answer ≡ Ok len
      → (len ≡ length (text_of chapter (end - first) (table_sheet ts.state.table first (end - first))))
      × ((tap_write ts chapter first end draws out).out ≡ splice out 0 (text_of chapter (end - first) (table_sheet ts.state.table first (end - first))))
  pub write_leaves : (b : Start) → b.room < 256 → (ts : TreeState) → TreeReached (ours real) b ts → (chapter first end : ℕ) (draws out : List ℕ)
      → Leaves b (tap_write ts chapter first end draws out).desk (tap_write ts chapter first end draws out).tree (λ id held. held ≡ ts.state.table id)
  pub write_not_forged : (b : Start) → b.room < 256 → (ts : TreeState) → TreeReached (ours real) b ts → (chapter first end : ℕ) (draws out : List ℕ)
      → (tap_write ts chapter first end draws out).answer ≢ Err Forged
  -- a text that may be written is written, or it ends in the same ways
  pub write_answers : (b : Start) → b.room < 256 → (ts : TreeState) → TreeReached (ours real) b ts → (chapter first end : ℕ) (draws out : List ℕ)
      → MayWrite b ts first end draws out → (q : Refusal) → (tap_write ts chapter first end draws out).answer ≡ Err q → (q ≡ Worn) ⊎ (q ≡ Full)
  pub write_roomy : (b : Start) → b.room < 256 → b.ids ≤ b.room → (ts : TreeState) → TreeReached (ours real) b ts → (chapter first end : ℕ) (draws out : List ℕ)
      → MayWrite b ts first end draws out → (q : Refusal) → (tap_write ts chapter first end draws out).answer ≡ Err q → q ≡ Worn
  -- there are texts that are read: on a fresh store, over a tree with any bytes, a good text for one id is, and every text that says a sheet is good
  pub first_text : (b : Start) (lent : List ℕ) → Proper b lent → 1 ≤ b.room → (tree : List ℕ) → length tree ≡ tree_len b.sizes
      → (chapter year id draw : ℕ) → 1 ≤ id → id ≤ b.ids → AllLeaves b (draw ∷ []) → (text : List ℕ) → (take_of chapter year 1 text).answer ≡ Ok tt
      → (read_of (format_for b lent).desk tree chapter year id (id + 1) (draw ∷ []) text).answer ≡ Ok tt
  pub good_texts : (chapter year n : ℕ) (sheet : List ℕ) → n < 65536 → (take_of chapter year n (text_of chapter n sheet)).answer ≡ Ok tt
  -- and there are texts that are written: of one id of a fresh store, version and plan alone
  pub first_written : (b : Start) (lent : List ℕ) → Proper b lent → 1 ≤ b.room → (tree : List ℕ) → length tree ≡ tree_len b.sizes
      → (chapter id draw : ℕ) → 1 ≤ id → id ≤ b.ids → AllLeaves b (draw ∷ []) → (out : List ℕ) → length out ≡ room_of 1
      → ((write_of (format_for b lent).desk tree chapter id (id + 1) (draw ∷ []) out).answer ≡ Ok (length (head_text 1)))
      × ((write_of (format_for b lent).desk tree chapter id (id + 1) (draw ∷ []) out).out ≡ splice out 0 (head_text 1))

-- ---- on every input, whatever desk and tree are

pub record AnyTap : Type 0 where
  -- a refusal before any ask changes nothing
  pub read_refuses : (desk tree : List ℕ) (chapter year first end : ℕ) (draws text : List ℕ) (q : Refusal) → row_checked desk tree first end draws ≡ Err q
      → ((read_of desk tree chapter year first end draws text).answer ≡ Err (not_read.Refused q)) × ((read_of desk tree chapter year first end draws text).desk ≡ desk)
      × ((read_of desk tree chapter year first end draws text).tree ≡ tree)
  pub write_refuses : (desk tree : List ℕ) (chapter first end : ℕ) (draws out : List ℕ) (q : Refusal) → write_checked desk tree first end draws out ≡ Err q
      → ((write_of desk tree chapter first end draws out).answer ≡ Err q) × ((write_of desk tree chapter first end draws out).desk ≡ desk)
      × ((write_of desk tree chapter first end draws out).tree ≡ tree)
  -- a text that is refused leaves the store as it was: no ask has come
  pub bad_text : (desk tree : List ℕ) (chapter year first end : ℕ) (draws text : List ℕ) (t : Trouble) (line : ℕ)
      → row_checked desk tree first end draws ≡ Ok tt → (take_of chapter year (end - first) text).answer ≡ Err (in_line t line)
      → ((read_of desk tree chapter year first end draws text).answer ≡ Err (not_read.Bad (in_line t line))) × ((read_of desk tree chapter year first end draws text).desk ≡ desk)
      × ((read_of desk tree chapter year first end draws text).tree ≡ tree)
  -- a refusal hands out no text: the buffer is as it was
  pub no_text : (desk tree : List ℕ) (chapter first end : ℕ) (draws out : List ℕ) (q : Refusal)
      → (write_of desk tree chapter first end draws out).answer ≡ Err q → (write_of desk tree chapter first end draws out).out ≡ out
