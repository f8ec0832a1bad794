-- A text that is read over a server that returns what was last written is what the plain table then holds, and what was done before a refusal stays.
-- Assumes nothing.
use Rattle.sizes.specs.declared.Refusal.{Refusal}
use Prim.Native.Nat.{ℕ, ◌-◌, ◌<◌, ◌≤◌}
use mathlib.Core.Path.{◌≡◌, refl, sym, ap, ◌∙◌}
use mathlib.Core.Logic.{◌≢◌}
use mathlib.Core.List.{List}
use native.Mathlib.Omega.{arith}
use Rattle.words.specs.Bytes.{zeros}
use Rattle.sizes.specs.declared.Refusal.TheVariants.{Forged}
use Rattle.sizes.specs.Sizes.{path_len}
use Rattle.desk.specs.Readers.{sizes_of}
use Rattle.items.specs.Real.{real}
use Rattle.keeping.specs.Table.{Table}
use Rattle.book.specs.MatrixRow.{row_checked}
use Rattle.book.proofs.Passed.{row-passed}
use Rattle.std.specs.Prelude.{Result, Ok, Err}
use Rattle.taking.specs.declared.BadText.{BadText}
use Rattle.taking.specs.Taking.{take_of}
use Rattle.tap.specs.declared.NotRead.{NotRead}
use Rattle.tap.specs.declared.NotRead.TheVariants as not_read
use Rattle.passing.specs.Passing.{pass_from, pass_of}
use Rattle.tap.specs.Tap.{ReadResult, read_in, read_text, read_by}
use Rattle.promises.specs.Stores.{ours, Start}
use Rattle.promises.specs.Trees.{TreeState, TreeReached}
use Rattle.promises.specs.Taps.{table_after, tap_read, sheet_of, Leaves, PartRead}
use Rattle.promises.proofs.HonestRequests.{Stands, stands-as, held-long, here}
use Rattle.promises.proofs.HonestReads.{row_low}
use Rattle.promises.proofs.AnyTaps.{taken-done, taken-same}
use Rattle.promises.proofs.TableSheets.{after_none}
use Rattle.promises.proofs.TextSheets.{taken-long}
use Rattle.promises.proofs.HonestPasses.{PassIs, passes}

module _ (b : Start) (byte : b.room < 256) (ts : TreeState) (reached : TreeReached (ours real) b ts) where
  abbrev desk : List ℕ
  desk = ts.state.desk

  abbrev tree : List ℕ
  tree = ts.tree

  abbrev table : Table
  table = ts.state.table

  module _ (chapter year first end : ℕ) (draws text : List ℕ) where
    abbrev n : ℕ
    n = end - first

    abbrev sheet : List ℕ
    sheet = sheet_of chapter year first end text

    module _ (e : row_checked desk tree first end draws ≡ Ok tt) where
      read-passes : PassIs b byte table (held-long b byte ts reached) first n sheet (taken-long chapter year n text)
          (pass_from first 0 draws desk tree (zeros (path_len (sizes_of desk))) sheet)
      read-passes = passes b byte ts reached first n sheet draws (taken-long chapter year n text) (row-passed e).draws_length

    -- what a text leaves, whatever it answers
    pub record Read (r : ReadResult) : Type 0 where
      count : ℕ
      count_low : count ≤ n
      stands : Stands b (table_after first count sheet table) r.desk r.tree
      all_done : r.answer ≡ Ok tt → count ≡ n
      pub not_forged : r.answer ≢ Err (not_read.Refused Forged)

    unread : (a : Result Unit NotRead) → a ≢ (Ok tt) → a ≢ Err (not_read.Refused Forged) → Read (read_in a desk tree)
    unread a d f =
        record {
          count = 0;
          count_low = omega arith;
          stands = stands-as b table (table_after first 0 sheet table) desk tree (λ u. sym (after_none first sheet table u)) (here b ts reached);
          all_done = λ h. absurd (d h);
          not_forged = f;
        }

    by-text : (a : Result (Unit {0}) BadText) → row_checked desk tree first end draws ≡ Ok tt → Read (read_text a desk tree first draws sheet)
    by-text (Ok u) e =
        let p = read-passes e in
        record {
          count = p.count;
          count_low = p.count_low;
          stands = p.stands;
          all_done = λ h. p.all_done (taken-done (pass_of desk tree first draws sheet).answer h);
          not_forged = λ h. p.not_forged (taken-same (pass_of desk tree first draws sheet).answer Forged h);
        }
    by-text (Err b) e =
        unread (Err (not_read.Bad b)) (λ h. let z : ◌≡◌ {A = ℕ} 0 1 = cc in omega arith) (λ h. let z : ◌≡◌ {A = ℕ} 0 1 = cc in omega arith)

    by-checks : (o : Result Unit Refusal) → row_checked desk tree first end draws ≡ o → Read (read_by o desk tree chapter year first end draws text)
    by-checks (Err q) e =
        unread (Err (not_read.Refused q)) (λ h. let z : ◌≡◌ {A = ℕ} 0 1 = cc in omega arith)
        (λ h. row_low desk tree first end draws q e (let k : q ≡ Forged = cc in k))
    by-checks (Ok tt) e = by-text (take_of chapter year n text).answer e

    pub read : Read (tap_read ts chapter year first end draws text)
    read = by-checks (row_checked desk tree first end draws) refl

    pub part_read : PartRead b ts chapter year first end draws text
    part_read =
        let r = read in
        let s = r.stands in
        record {
          count = r.count;
          count_low = r.count_low;
          leaves = record { after = s.at; reached = s.reached; desk_is = s.desk_is; tree_is = s.tree_is; table_is = s.table_is };
        }

    pub whole-read : (tap_read ts chapter year first end draws text).answer ≡ Ok tt
        → Leaves b (tap_read ts chapter year first end draws text).desk (tap_read ts chapter year first end draws text).tree
        (λ id held. held ≡ table_after first n sheet table id)
    whole-read h =
        let r = read in
        let s = r.stands in
        record {
          after = s.at;
          reached = s.reached;
          desk_is = s.desk_is;
          tree_is = s.tree_is;
          table_is = λ u. s.table_is u ∙ ap (λ (k : ℕ). table_after first k sheet table u) (r.all_done h);
        }
