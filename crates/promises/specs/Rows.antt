-- Rows of the verdict book. Over an honest server a row is the plain table's own row; on every input its six counts add up. Assumes nothing.
use Rattle.verdicts.specs.Cells.{counted}
use Rattle.std.specs.Prelude.{ℕ, zero, suc, ◌+◌, ◌-◌, ◌<◌, ◌≤◌, ◌≡◌, ◌≢◌, ◌↔◌, ◌⊎◌, Bool, true, false, List, [], ◌∷◌, length, get_or, Err, Ok, Some}
use Rattle.std.proofs.Math.Option.{Option, none, some}
use Rattle.sizes.specs.declared.Refusal.{Refusal}
use Rattle.sizes.specs.declared.Refusal.TheVariants.{Forged, Worn, Full}
use Rattle.sizes.specs.Sizes.{leaves, tree_len}
use Rattle.desk.specs.declared.Kind.TheVariants.{Read}
use Rattle.desk.specs.Readers.{status_of}
use Rattle.desk.specs.Status.{ready_status}
use Rattle.items.specs.Real.{real}
use Rattle.store.specs.declared.Finished.TheVariants as finished
use Rattle.requests.specs.Request.{request_of}
use Rattle.keeping.specs.Table.{Table}
use Rattle.verdicts.specs.declared.Verdict.TheVariants.{Pass}
use Rattle.verdicts.specs.declared.Entry.{Entry}
use Rattle.verdicts.specs.declared.counts.Cell.{Cell}
use Rattle.verdicts.specs.declared.counts.Cell.TheVariants.{NotRun}
use Rattle.verdicts.specs.declared.counts.Counts.{Counts}
use Rattle.verdicts.specs.Verdict.{reading_of}
use Rattle.verdicts.specs.Cells.{record_cell, no_counts, plus, sum}
use Rattle.book.specs.MatrixRow.{RowResult, row_checked, row_of}
use Rattle.promises.specs.Stores.{ours, Start, format_for}
use Rattle.promises.specs.Trees.{TreeState, TreeReached}
use Rattle.promises.specs.Exists.{Proper}

-- ---- the plain table's row

-- Never is not run, and only Never
abbrev pub table_cell : ℕ → Option (List ℕ) → Cell
table_cell chapter none = NotRun
table_cell chapter (some rec) = record_cell chapter rec

-- the counts over n ids from `first` on
abbrev pub table_counts : ℕ → Table → ℕ → ℕ → Counts
table_counts chapter table first zero = no_counts
table_counts chapter table first (suc n) = plus (table_cell chapter (table (first + n))) (table_counts chapter table first n)

-- a pass record of a chapter is held
pub record PassHeld (chapter : ℕ) (held : Option (List ℕ)) : Type 0 where
  pub bytes : List ℕ
  pub says : Entry
  pub held_is : held ≡ some bytes
  pub reads : reading_of bytes ≡ Some says
  pub passes : says.verdict ≡ Pass
  pub of_chapter : says.chapter ≡ chapter

-- ---- over a server that returns what was last written

abbrev pub row_in : TreeState → ℕ → ℕ → ℕ → List ℕ → RowResult
row_in ts chapter first end draws = row_of ts.state.desk ts.tree chapter first end draws

-- what a row leaves is a state that is reached, and its table is the one before: whatever the row answers, demand 2 goes on from there
pub record LeavesTable (b : Start) (ts : TreeState) (r : RowResult) : Type 0 where
  pub after : TreeState
  pub reached : TreeReached (ours real) b after
  pub desk_is : r.desk ≡ after.state.desk
  pub tree_is : r.tree ≡ after.tree
  pub table_is : (id : ℕ) → after.state.table id ≡ ts.state.table id

-- the counts are those over the plain table; the row is complete exactly if every id of the range has, in the table, a pass record of that chapter
pub record CountsTable (ts : TreeState) (chapter first end : ℕ) (c : Counts) (complete : Bool) : Type 0 where
  pub counts_are : c ≡ table_counts chapter ts.state.table first (end - first)
  pub complete_if : (complete ≡ true) ↔ ((id : ℕ) → first ≤ id → id < end → PassHeld chapter (ts.state.table id))

-- every draw is a leaf
abbrev pub AllLeaves : Start → List ℕ → Type 0
AllLeaves b draws = (i : ℕ) → i < length draws → get_or draws i 0 < leaves b.sizes

-- a row may begin: its desk is ready, its own checks refuse nothing, and its draws are leaves
pub record MayBegin (b : Start) (ts : TreeState) (first end : ℕ) (draws : List ℕ) : Type 0 where
  pub ready : status_of ts.state.desk ≡ ready_status
  pub checked : row_checked ts.state.desk ts.tree first end draws ≡ Ok tt
  pub all_leaves : AllLeaves b draws

pub record HonestRows : Type 0 where
  pub counts : (b : Start) → b.room < 256 → (ts : TreeState) → TreeReached (ours real) b ts → (chapter first end : ℕ) (draws : List ℕ) (c : Counts) (complete : Bool)
      → (row_in ts chapter first end draws).answer ≡ counted c complete → CountsTable ts chapter first end c complete
  pub leaves : (b : Start) → b.room < 256 → (ts : TreeState) → TreeReached (ours real) b ts → (chapter first end : ℕ) (draws : List ℕ)
      → LeavesTable b ts (row_in ts chapter first end draws)
  pub never_forged : (b : Start) → b.room < 256 → (ts : TreeState) → TreeReached (ours real) b ts → (chapter first end : ℕ) (draws : List ℕ)
      → (row_in ts chapter first end draws).answer ≢ Err Forged
  -- a row that may begin is counted, or it ends as Worn or Full: no other refusal ends it
  pub answers : (b : Start) → b.room < 256 → (ts : TreeState) → TreeReached (ours real) b ts → (chapter first end : ℕ) (draws : List ℕ)
      → MayBegin b ts first end draws → (q : Refusal) → (row_in ts chapter first end draws).answer ≡ Err q → (q ≡ Worn) ⊎ (q ≡ Full)
  -- where the stash has room for every id, as Worn alone
  pub roomy : (b : Start) → b.room < 256 → b.ids ≤ b.room → (ts : TreeState) → TreeReached (ours real) b ts → (chapter first end : ℕ) (draws : List ℕ)
      → MayBegin b ts first end draws → (q : Refusal) → (row_in ts chapter first end draws).answer ≡ Err q → q ≡ Worn
  -- there are counted rows: on a fresh store, over a tree with any bytes, a row of one id is counted, and its case is not run
  pub first_row : (b : Start) (lent : List ℕ) → Proper b lent → 1 ≤ b.room → (tree : List ℕ) → length tree ≡ tree_len b.sizes
      → (chapter id draw : ℕ) → 1 ≤ id → id ≤ b.ids → AllLeaves b (draw ∷ [])
      → (row_of (format_for b lent).desk tree chapter id (id + 1) (draw ∷ [])).answer ≡ counted (plus NotRun no_counts) false

-- ---- on every input, whatever desk and tree are

pub record AnyRow : Type 0 where
  -- the six counts add up to the range's length, and complete says that all have passed
  pub adds_up : (desk tree : List ℕ) (chapter first end : ℕ) (draws : List ℕ) (c : Counts) (complete : Bool)
      → (row_of desk tree chapter first end draws).answer ≡ counted c complete
      → (sum c ≡ end - first) × ((complete ≡ true) ↔ (c.passed ≡ end - first))
  -- a refusal before any ask changes nothing
  pub refuses : (desk tree : List ℕ) (chapter first end : ℕ) (draws : List ℕ) (q : Refusal) → row_checked desk tree first end draws ≡ Err q
      → ((row_of desk tree chapter first end draws).answer ≡ Err q) × ((row_of desk tree chapter first end draws).desk ≡ desk)
      × ((row_of desk tree chapter first end draws).tree ≡ tree)
  -- a read is never answered by Done: so the column that `found_of` gives to Done stands for no read
  pub never_done : (desk tree path buffer : List ℕ) (id draw p : ℕ) → (request_of desk tree path buffer Read id draw).answer ≢ Ok (p, Ok finished.Done)
