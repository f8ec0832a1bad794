-- A sheet passed through the store over a server that returns what was last written: the entries that were done are in the plain table, and where all are
-- done the sheet holds what the table's requests hand back. Assumes nothing.
use Rattle.std.specs.Prelude.{Err, Ok, Result}
use Prim.Native.Nat.{ℕ, suc, ◌+◌, ◌*◌, ◌<◌, ◌≤◌}
use mathlib.Core.Path.{◌≡◌, refl, sym, ap, subst, ◌∙◌}
use mathlib.Core.Logic.{◌≢◌}
use mathlib.Core.Option.{Option, some}
use mathlib.Core.List.{List, [], ◌∷◌}
use native.Mathlib.Omega.{arith}
use lib.ListN.{length}
use Rattle.words.specs.Bytes.{splice, zeros}
use Rattle.words.proofs.Tests.{below_or}
use Rattle.words.proofs.Splice.{length_part}
use Rattle.sizes.specs.declared.Refusal.{Refusal}
use Rattle.sizes.specs.declared.Refusal.TheVariants.{Forged}
use Rattle.sizes.specs.Sizes.{record_len, path_len}
use Rattle.sizes.proofs.Rows.{not-refused}
use Rattle.desk.specs.Readers.{sizes_of}
use Rattle.items.specs.Real.{real}
use Rattle.store.specs.declared.Finished.TheVariants as finished
use Rattle.requests.specs.Request.{Answered}
use Rattle.requests.specs.Request.{requested, request_of}
use Rattle.keeping.specs.Table.{Table, plain_buffer, plain_table}
use Rattle.sheets.specs.Sheet.{entry_start, entry_at}
use Rattle.returning.proofs.Sheets.{fill-long, fill-same, fill-below, fill-above}
use Rattle.passing.specs.Passing.{kind_of, EntryResult, requested_entry, entry_by, request_entry, PassResult, passed, going_on, pass_from}
use Rattle.promises.specs.Stores.{ours, Start}
use Rattle.promises.specs.Trees.{TreeState, TreeReached}
use Rattle.promises.specs.Taps.{table_after}
use Rattle.promises.proofs.Answers.{accept-record, accept-never, accept-done}
use Rattle.promises.proofs.HonestRequests.{Stands, stands-as, here, held-long, buffer-long, RequestIs, request-is}
use Rattle.promises.proofs.TableSheets.{after_none, after-above, after_one}

-- ---- one entry: a request of its kind

module _ (b : Start) (table : Table) (id : ℕ) (entry : List ℕ) where
  record EntryIs (r : EntryResult) : Type 0 where
    done : r.answer ≡ Ok tt → Stands b (plain_table (kind_of entry) id entry table) r.desk r.tree
    entry-is : r.answer ≡ Ok tt → r.entry ≡ plain_buffer (kind_of entry) (table id) entry
    refused : (q : Refusal) → r.answer ≡ Err q → Stands b table r.desk r.tree
    not_forged : r.answer ≢ Err Forged

  module _ (d t p now : List ℕ) where
    done-is : Stands b (plain_table (kind_of entry) id entry table) d t → now ≡ plain_buffer (kind_of entry) (table id) entry
        → EntryIs (requested_entry (Ok tt) d t p now)
    done-is s e =
        record {
          done = λ h. s;
          entry-is = λ h. e;
          refused = λ q h. absurd (not-refused q (sym h));
          not_forged = λ h. not-refused Forged (sym h);
        }

    refused-is : (q : Refusal) → Stands b table d t → ◌≢◌ {A = Result Unit Refusal} (Err q) (Err Forged) → EntryIs (requested_entry (Err q) d t p now)
    refused-is q s n =
        record {
          done = λ h. absurd (not-refused q h);
          entry-is = λ h. absurd (not-refused q h);
          refused = λ r h. s;
          not_forged = n;
        }

    entry-by : (a : Answered) → RequestIs b table (kind_of entry) id entry a d t now → EntryIs (entry_by (requested a d t p now))
    entry-by (Err q) w = refused-is q w.stands w.not_forged
    entry-by (Ok (leaf, Ok finished.Record)) w = done-is w.stands (w.plain accept-record).1
    entry-by (Ok (leaf, Ok finished.Never)) w = done-is w.stands (w.plain accept-never).1
    entry-by (Ok (leaf, Ok finished.Done)) w = done-is w.stands (w.plain accept-done).1
    entry-by (Ok (leaf, Err q)) w = refused-is q w.stands w.not_forged

entry-is : (b : Start) → b.room < 256 → (table : Table) (desk tree path entry : List ℕ) (id x : ℕ) → Stands b table desk tree
    → EntryIs b table id entry (request_entry desk tree path entry id x)
unfolding request_entry
entry-is b byte table desk tree path entry id x s =
    let r = request_of desk tree path entry (kind_of entry) id x in
    entry-by b table id entry r.desk r.tree r.path r.buffer r.answer (request-is b byte table (kind_of entry) id x path entry desk tree s)

-- ---- a whole sheet, of n entries for the ids from `first` on

module _ (b : Start) (byte : b.room < 256) (table : Table) (sized : (u : ℕ) (rec : List ℕ) → table u ≡ some rec → length rec ≡ record_len)
    (first n : ℕ) (whole : List ℕ) (long : length whole ≡ n * record_len) where
  -- what entry j then holds
  abbrev pub laid : ℕ → List ℕ
  laid j = plain_buffer (kind_of (entry_at whole j)) (table (first + j)) (entry_at whole j)

  laid-long : (j : ℕ) → j < n → length (laid j) ≡ record_len
  laid-long j l =
      buffer-long (kind_of (entry_at whole j)) (table (first + j)) (entry_at whole j) (length_part whole (entry_start j) record_len (omega arith)) (sized (first + j))

  -- the first i entries are done
  pub record SheetIs (i : ℕ) (sheet : List ℕ) : Type 0 where
    pub sheet-long : length sheet ≡ n * record_len
    pub before : (j : ℕ) → j < i → entry_at sheet j ≡ laid j
    pub rest : (j : ℕ) → i ≤ j → j < n → entry_at sheet j ≡ entry_at whole j

  sheet-on : (i : ℕ) (sheet entry : List ℕ) → i < n → SheetIs i sheet → entry ≡ laid i → SheetIs (suc i) (splice sheet (entry_start i) entry)
  sheet-on i sheet entry l s e =
      let k : length entry ≡ record_len = ap length e ∙ laid-long i l in
      let fits : i * record_len + record_len ≤ length sheet = omega (arith, s.sheet-long) in
      record {
        sheet-long = fill-long i sheet entry k fits ∙ s.sheet-long;
        before =
            λ j h.
            below_or j i
            (λ g. fill-below i sheet entry k fits j g ∙ s.before j g)
            (λ g.
            let z : j ≡ i = omega arith in
            ap (entry_at (splice sheet (entry_start i) entry)) z ∙ fill-same i sheet entry k fits ∙ e ∙ ap laid (sym z));
        rest = λ j g h. fill-above i sheet entry k fits j g ∙ s.rest j (omega arith) h;
      }

  pub record PassIs (r : PassResult) : Type 0 where
    pub count : ℕ
    pub count_low : count ≤ n
    pub stands : Stands b (table_after first count whole table) r.desk r.tree
    pub all_done : r.answer ≡ Ok tt → count ≡ n
    pub sheet-is : r.answer ≡ Ok tt → SheetIs n r.sheet
    pub not_forged : r.answer ≢ Err Forged

  module _ (i : ℕ) (inside : i < n) (sheet : List ℕ) (s : SheetIs i sheet) (r : EntryResult)
      (w : EntryIs b (table_after first i whole table) (first + i) (entry_at sheet i) r) where
    same : entry_at sheet i ≡ entry_at whole i
    same = s.rest i (omega arith) inside

    on-stands : r.answer ≡ Ok tt → Stands b (table_after first (suc i) whole table) r.desk r.tree
    on-stands h =
        stands-as b (plain_table (kind_of (entry_at whole i)) (first + i) (entry_at whole i) (table_after first i whole table)) (table_after first (suc i) whole table)
        r.desk r.tree (after_one first whole table i)
        (subst (λ (e : List ℕ). Stands b (plain_table (kind_of e) (first + i) e (table_after first i whole table)) r.desk r.tree) same (w.done h))

    on-sheet : r.answer ≡ Ok tt → SheetIs (suc i) (splice sheet (entry_start i) r.entry)
    on-sheet h =
        sheet-on i sheet r.entry inside s
        (w.entry-is h ∙ ap (λ (e : List ℕ). plain_buffer (kind_of e) (table_after first i whole table (first + i)) e) same
        ∙ ap (λ (held : Option (List ℕ)). plain_buffer (kind_of (entry_at whole i)) held (entry_at whole i)) (after-above first whole table i (first + i) (omega arith)))

    pass_on : (p now : List ℕ) (more : PassResult) → (r.answer ≡ Ok tt → PassIs more) → (o : Result Unit Refusal) → r.answer ≡ o
        → PassIs (going_on (passed r.answer r.desk r.tree p now) more o)
    pass_on p now more f (Ok tt) e = f e
    pass_on p now more f (Err q) e =
        record {
          count = i;
          count_low = omega arith;
          stands = w.refused q e;
          all_done = λ h. absurd (not-refused q (sym e ∙ h));
          sheet-is = λ h. absurd (not-refused q (sym e ∙ h));
          not_forged = w.not_forged;
        }

  pub pass-is : (i : ℕ) (xs desk tree path sheet : List ℕ) → i + length xs ≡ n → Stands b (table_after first i whole table) desk tree → SheetIs i sheet
      → PassIs (pass_from first i xs desk tree path sheet)
  unfolding pass_from
  pass-is i [] desk tree path sheet l s w =
      let e : i ≡ n = omega arith in
      record {
        count = i;
        count_low = omega arith;
        stands = s;
        all_done = λ h. e;
        sheet-is = λ h. subst (λ (k : ℕ). SheetIs k sheet) e w;
        not_forged = λ h. not-refused Forged (sym h);
      }
  pass-is i (x ∷ xs) desk tree path sheet l s w =
      let r = request_entry desk tree path (entry_at sheet i) (first + i) x in
      let k = entry-is b byte (table_after first i whole table) desk tree path (entry_at sheet i) (first + i) x s in
      let Laid-in = splice sheet (entry_start i) r.entry in
      pass_on i (omega arith) sheet w r k r.path Laid-in (pass_from first (suc i) xs r.desk r.tree r.path Laid-in)
      (λ h.
      pass-is (suc i) xs r.desk r.tree r.path Laid-in (omega arith) (on-stands i (omega arith) sheet w r k h) (on-sheet i (omega arith) sheet w r k h))
      r.answer refl

-- ---- from a state that is reached, with a draw for each entry

module _ (b : Start) (byte : b.room < 256) (ts : TreeState) (reached : TreeReached (ours real) b ts) (first n : ℕ) (whole draws : List ℕ)
    (long : length whole ≡ n * record_len) (all : length draws ≡ n) where
  pub passes : PassIs b byte ts.state.table (held-long b byte ts reached) first n whole long
      (pass_from first 0 draws ts.state.desk ts.tree (zeros (path_len (sizes_of ts.state.desk))) whole)
  passes =
      pass-is b byte ts.state.table (held-long b byte ts reached) first n whole long 0 draws ts.state.desk ts.tree
      (zeros (path_len (sizes_of ts.state.desk))) whole (omega arith)
      (stands-as b ts.state.table (table_after first 0 whole ts.state.table) ts.state.desk ts.tree
      (λ u. sym (after_none first whole ts.state.table u)) (here b ts reached))
      (record { sheet-long = long; before = λ j l. absurd (omega arith); rest = λ j g l. refl })
