-- A text that is written from one store and read into another: each id holds what comes of its line. Assumes nothing.
use Rattle.std.specs.Prelude.{Ok, None, Some, Err}
use Prim.Native.Nat.{ℕ, ◌+◌, ◌-◌, ◌<◌}
use mathlib.Core.Path.{◌≡◌, refl, sym, ap, ap₂, subst, ◌∙◌}
use mathlib.Core.Logic.{◌≢◌, ◌⊎◌, inl, inr, ⊎_elim}
use mathlib.Core.Bool.{Bool, true, false, cond}
use mathlib.Core.Option.{Option, none, some}
use mathlib.Core.List.{List, []}
use native.Mathlib.Omega.{arith}
use lib.ListN.{length, take}
use Rattle.words.specs.Bytes.{zeros}
use Rattle.words.proofs.Tests.{by_cases}
use Rattle.words.proofs.Splice.{part-splice}
use Rattle.sizes.specs.Sizes.{record_len, tree_len}
use Rattle.slots.specs.Slots.{Bytes}
use Rattle.items.specs.Real.{real}
use Rattle.keeping.specs.Table.{Table}
use Rattle.verdicts.specs.declared.Verdict.{Verdict}
use Rattle.verdicts.specs.declared.Verdict.TheVariants as verdict
use Rattle.verdicts.specs.declared.Entry.{Entry}
use Rattle.verdicts.specs.Verdict.{good_record, reading_of, name_in, record_of}
use Rattle.verdicts.proofs.Laws.{verdict-laws}
use Rattle.book.proofs.Passed.{row-passed}
use Rattle.sheets.specs.Sheet.{entry_at, is_record}
use Rattle.taking.specs.declared.Trouble.{Trouble}
use Rattle.taking.specs.Taking.{in_line, TextResult, take_of}
use Rattle.printing.specs.Printing.{text_of}
use Rattle.tap.specs.declared.NotRead.TheVariants as not_read
use Rattle.tap.specs.Tap.{ReadResult}
use Rattle.returning.specs.Returning.{reading_said, is_said, Plain, back, WasPass}
use Rattle.returning.proofs.Returns.{returning}
use Rattle.promises.specs.Stores.{ours, Start, format_for}
use Rattle.promises.specs.Steps.{begin}
use Rattle.promises.specs.Trees.{TreeState, TreeReached}
use Rattle.promises.specs.Rows.{PassHeld}
use Rattle.promises.specs.Taps.{entry_or, table_after, entry_held, table_sheet, tap_read, sheet_of, Leaves}
use Rattle.promises.specs.Carried.{Comes, ComesFresh, CarriedTo, Out, text_in, Carried}
use Rattle.promises.proofs.HonestRequests.{held-long}
use Rattle.promises.proofs.AnyTaps.{good-answer, row-checked, was-written}
use Rattle.promises.proofs.TableSheets.{after-in, after-below, after-above, table-entry}
use Rattle.promises.proofs.HonestTaps.{honest_taps}

-- ---- what one entry comes to

made-record : (v : Verdict) (chapter year : ℕ) (name : List ℕ) → is_record (record_of v chapter year name) ≡ true
unfolding record_of
made-record verdict.Pass chapter year name = refl
made-record verdict.Fail chapter year name = refl
made-record verdict.Skipped chapter year name = refl
made-record verdict.Error chapter year name = refl

-- no verdict has the number 0
none-bad : reading_of (zeros record_len) ≡ None
unfolding good_record
none-bad = refl

none-unsaid : (chapter : ℕ) → is_said chapter (zeros record_len) ≡ false
none-unsaid chapter = ap (reading_said chapter (zeros record_len)) none-bad

pass_of : (chapter : ℕ) (held : Option (List ℕ)) → WasPass chapter (entry_held held) → PassHeld chapter held
pass_of chapter none w =
    let e : None ≡ Some w.says = sym none-bad ∙ w.reads in
    let z : ◌≡◌ {A = ℕ} 0 1 = cc in
    absurd (omega arith)
pass_of chapter (some rec) w = record { bytes = rec; says = w.says; held_is = refl; reads = w.reads; passes = w.passes; of_chapter = w.of_chapter }

was-pass : (chapter : ℕ) (rec : List ℕ) → PassHeld chapter (some rec) → WasPass chapter rec
was-pass chapter rec p =
    let e : p.bytes ≡ rec = cc in
    record { says = p.says; reads = ap reading_of (sym e) ∙ p.reads; passes = p.passes; of_chapter = p.of_chapter }

-- entry i of a sheet that is written and read again
module _ (chapter year n : ℕ) (low : n < 65536) (sheet : List ℕ) (i : ℕ) (inside : i < n)
    (held before : Option (List ℕ)) (is : entry_at sheet i ≡ entry_held held) where
  abbrev came : List ℕ
  came = entry_at (back chapter year n sheet).sheet i

  came-none : is_said chapter (entry_held held) ≡ false → entry_or came before ≡ before
  came-none h =
      ap (λ (entry : List ℕ). entry_or entry before) (returning.none_comes chapter year n sheet low i inside (ap (is_said chapter) is ∙ h))

  module _ (rec : List ℕ) (e : Entry) (h : held ≡ some rec) (r : reading_of rec ≡ Some e) (c : e.chapter ≡ chapter) (p : Plain (name_in rec e)) where
    here : entry_at sheet i ≡ rec
    here = is ∙ ap entry_held h

    came-back : came ≡ record_of e.verdict chapter year (name_in rec e)
    came-back =
        returning.comes_back chapter year n sheet low i inside e (ap reading_of here ∙ r) c (subst (λ (x : List ℕ). Plain (name_in x e)) (sym here) p)
        ∙ ap (λ (x : List ℕ). record_of e.verdict chapter year (name_in x e)) here

    came-some : entry_or came before ≡ some (record_of e.verdict chapter year (name_in rec e))
    came-some =
        ap (λ (entry : List ℕ). entry_or entry before) came-back
        ∙ ap (λ (x : Bool). cond x (some (record_of e.verdict chapter year (name_in rec e))) before) (made-record e.verdict chapter year (name_in rec e))

    came_same : Bytes rec → e.year ≡ year → entry_or came before ≡ some rec
    came_same bytes y =
        came-some ∙ ap (λ (x : List ℕ). some x)
        (ap₂ (λ (k l : ℕ). record_of e.verdict k l (name_in rec e)) (sym c) (sym y) ∙ (verdict-laws.read_made rec e bytes r).makes)

  came-pass : PassHeld chapter (entry_or came before) → PassHeld chapter held ⊎ (entry_or came before ≡ before)
  came-pass p =
      by_cases (is_record came)
      (λ t.
      inl
      (pass_of chapter held
      (subst (WasPass chapter) is
      (returning.only_passes chapter year n sheet low i inside
      (was-pass chapter came (subst (PassHeld chapter) (ap (λ (x : Bool). cond x (some came) before) t) p))))))
      (λ t. inr (ap (λ (x : Bool). cond x (some came) before) t))

  pub entry-comes : Comes chapter year held before (entry_or came before)
  entry-comes =
      record {
        never = λ h. came-none (ap (λ (x : Option (List ℕ)). is_said chapter (entry_held x)) h ∙ none-unsaid chapter);
        unsaid = λ rec h s. came-none (ap (λ (x : Option (List ℕ)). is_said chapter (entry_held x)) h ∙ s);
        comes = λ rec e h r c p. came-some rec e h r c p;
        same_bytes = λ rec e h bytes r c y p. came_same rec e h r c p bytes y;
        only_passes = came-pass;
      }

-- ---- the two stores

module _ (b : Start) (ts : TreeState) (chapter first end : ℕ) (o : Out b ts chapter first end) where
  abbrev table : Table
  table = ts.state.table

  abbrev n : ℕ
  n = end - first

  abbrev sheet : List ℕ
  sheet = table_sheet table first n

  sized : (u : ℕ) (rec : List ℕ) → table u ≡ some rec → length rec ≡ record_len
  sized = held-long b o.byte ts o.reached

  -- a range is short
  low : n < 65536
  low =
      let w = was-written ts.state.desk ts.tree chapter first end o.draws o.out o.len o.written in
      let p = row-passed (row-checked ts.state.desk ts.tree first end o.draws o.out w.checked) in
      omega (arith, p.range.low, p.range.high, p.known.head.ids_high)

  text_is : text_in o ≡ text_of chapter n sheet
  text_is =
      let w = honest_taps.writes b o.byte ts o.reached chapter first end o.draws o.out o.len o.written in
      ap₂ (λ (k : ℕ) (xs : List ℕ). take k xs) w.0 w.1 ∙ part-splice o.out 0 (text_of chapter n sheet) (omega arith)

  module _ (year first' end' : ℕ) (same : end' - first' ≡ n) where
    -- what the text comes to there
    taken_is : take_of chapter year (end' - first') (text_in o) ≡ back chapter year n sheet
    taken_is = ap₂ (take_of chapter year) same text_is

    module _ (ts' : TreeState) (draws : List ℕ) where
      abbrev read : ReadResult
      read = tap_read ts' chapter year first' end' draws (text_in o)

      not-bad : (t : Trouble) (line : ℕ) → read.answer ≢ Err (not_read.Bad (in_line t line))
      not-bad t line h =
          good-answer ts'.state.desk ts'.tree chapter year first' end' draws (text_in o)
          (ap (λ (r : TextResult). r.answer) taken_is ∙ returning.good chapter year n sheet low) t line h

      module _ (b' : Start) (byte : b'.room < 256) (reached : TreeReached (ours real) b' ts') (h : read.answer ≡ Ok tt) where
        abbrev table' : Table
        table' = ts'.state.table

        after_is : (id : ℕ) → table_after first' (end' - first') (sheet_of chapter year first' end' (text_in o)) table' id
            ≡ table_after first' n (back chapter year n sheet).sheet table' id
        after_is id = ap₂ (λ (k : ℕ) (s : List ℕ). table_after first' k s table' id) same (ap (λ (r : TextResult). r.sheet) taken_is)

        carried-to : (id : ℕ) → CarriedTo chapter year first n first' table table' id (table_after first' n (back chapter year n sheet).sheet table' id)
        carried-to id =
            record {
              inside =
                  λ i l e.
                  let k : i ≡ id - first' = omega arith in
                  subst (Comes chapter year (table (first + i)) (table' id))
                  (ap (λ (j : ℕ). entry_or (entry_at (back chapter year n sheet).sheet j) (table' id)) k
                  ∙ sym (after-in first' (back chapter year n sheet).sheet table' n id (omega arith) (omega arith)))
                  (entry-comes chapter year n low sheet i l (table (first + i)) (table' id) (table-entry table first sized n i l));
              outside =
                  λ w.
                  ⊎_elim (after-below first' (back chapter year n sheet).sheet table' n id) (after-above first' (back chapter year n sheet).sheet table' n id) w;
            }

        leaves : Leaves b' read.desk read.tree (CarriedTo chapter year first n first' table table')
        leaves =
            let w = honest_taps.reads b' byte ts' reached chapter year first' end' draws (text_in o) h in
            record {
              after = w.after;
              reached = w.reached;
              desk_is = w.desk_is;
              tree_is = w.tree_is;
              table_is = λ id. subst (CarriedTo chapter year first n first' table table' id) (sym (w.table_is id ∙ after_is id)) (carried-to id);
            }

-- ---- into a fresh store, which holds nothing

fresh-comes : (chapter year : ℕ) (held after : Option (List ℕ)) → Comes chapter year held none after → ComesFresh chapter held after
fresh-comes chapter year held after c =
    record {
      never = c.never;
      passed =
          λ p. ⊎_elim (λ (h : PassHeld chapter held). h) (λ (e : after ≡ none). absurd (let n : none ≡ some p.bytes = sym e ∙ p.held_is in let z : ◌≡◌ {A = ℕ} 0 1 = cc in omega arith))
          (c.only_passes p);
    }

module _ (b : Start) (ts : TreeState) (chapter first end : ℕ) (o : Out b ts chapter first end) (b' : Start) (byte : b'.room < 256)
    (lent : List ℕ) (formats : (format_for b' lent).answer ≡ Ok tt) (tree : List ℕ) (size : length tree ≡ tree_len b'.sizes) where
  abbrev begun : TreeState
  begun = record { state = begin b' lent; tree = tree }

  begun-reached : TreeReached (ours real) b' begun
  begun-reached = record { lent = lent; formats = formats; tree = tree; size = size; taken = []; here = refl }

  fresh-leaves : (year first' end' : ℕ) (draws : List ℕ) (same : end' - first' ≡ end - first) → (tap_read begun chapter year first' end' draws (text_in o)).answer ≡ Ok tt
      → Leaves b' (tap_read begun chapter year first' end' draws (text_in o)).desk (tap_read begun chapter year first' end' draws (text_in o)).tree
      (λ id held. (i : ℕ) → i < end - first → id ≡ first' + i → ComesFresh chapter (ts.state.table (first + i)) held)
  fresh-leaves year first' end' draws same h =
      let w = leaves b ts chapter first end o year first' end' same begun draws b' byte begun-reached h in
      record {
        after = w.after;
        reached = w.reached;
        desk_is = w.desk_is;
        tree_is = w.tree_is;
        table_is = λ id i l e. fresh-comes chapter year (ts.state.table (first + i)) (w.after.state.table id) ((w.table_is id).inside i l e);
      }

pub carried : Carried
carried =
    record {
      never_bad = λ b ts chapter first end o ts' year first' end' draws same. not-bad b ts chapter first end o year first' end' same ts' draws;
      carried = λ b ts chapter first end o b' byte ts' reached year first' end' draws same h. leaves b ts chapter first end o year first' end' same ts' draws b' byte reached h;
      fresh = λ b ts chapter first end o b' byte lent formats tree size. fresh-leaves b ts chapter first end o b' byte lent formats tree size;
    }
