-- What comes back of a sheet that is written as a text and read again. Assumes nothing.
use Rattle.std.specs.Prelude.{Some}
use Prim.Native.Nat.{ℕ, ◌+◌, ◌-◌, ◌*◌, ◌≤◌, ◌<◌}
use mathlib.Core.Path.{◌≡◌, refl, ap, ◌∙◌}
use mathlib.Core.Bool.{true, false}
use mathlib.Core.List.{List, ◌∷◌, ◌++◌, append_assoc}
use native.Mathlib.Nat.{min-le_left}
use native.Mathlib.Omega.{arith}
use lib.ListN.{length, take, drop, length-take, get_or-eq_default}
use Rattle.words.specs.Bytes.{part}
use Rattle.words.proofs.Tests.{below_or}
use Rattle.words.proofs.Splice.{get_d_part, length-zeros, take-zeros, drop-zeros}
use Rattle.text.specs.Text.{line_feed}
use Rattle.text.specs.Fronts.{before}
use Rattle.sizes.specs.Sizes.{record_len}
use Rattle.slots.specs.Slots.{Bytes}
use Rattle.window.specs.Pieces.{lines_of}
use Rattle.listing.specs.Listing.{decimal}
use Rattle.verdicts.specs.declared.Entry.{Entry}
use Rattle.verdicts.specs.Verdict.{reading_of, name_in}
use Rattle.verdicts.proofs.Laws.{verdict-laws}
use Rattle.lines.specs.Words.{version_line, plan_word}
use Rattle.sheets.specs.Sheet.{entry_start, entry_at, empty_sheet}
use Rattle.taking.specs.Taking.{take_lines}
use Rattle.printing.specs.Printed.{version_text, plan_text}
use Rattle.printing.specs.Printing.{entries_text, text_of}
use Rattle.returning.specs.Returning.{Plain, back, Returning}
use Rattle.returning.proofs.Free.{Free, free-append}
use Rattle.returning.proofs.Rows.{row-then}
use Rattle.returning.proofs.Decimals.{decimal-digits, digits-free}
use Rattle.returning.proofs.Turns.{goes_on, version-goes, plan-goes}
use Rattle.returning.proofs.Sheets.{Empty, Filled, all-filled}

-- ---- the sheet that is read into

zeros-empty : (n : ℕ) → Empty n 0 (empty_sheet n)
zeros-empty n =
    record {
      long = length-zeros (n * record_len);
      none = λ j h k. ap (take record_len) (drop-zeros (entry_start j) (n * record_len)) ∙ take-zeros record_len (n * record_len - entry_start j) (omega arith);
    }

-- ---- the first two lines

version-free : Free line_feed version_line
unfolding before
version-free = refl

plan-word-free : Free line_feed plan_word
unfolding before
plan-word-free = refl

module _ (chapter year n : ℕ) (low : n < 65536) (sheet : List ℕ) where
  abbrev entries : List ℕ
  entries = entries_text chapter n 0 sheet

  plan-free : Free line_feed (plan_word ++ decimal n)
  plan-free = free-append line_feed plan_word (decimal n) plan-word-free (digits-free line_feed (decimal n) (omega arith) (decimal-digits n))

  lines_are : lines_of (text_of chapter n sheet) ≡ version_line ∷ (plan_word ++ decimal n) ∷ lines_of entries
  lines_are =
      ap lines_of (append_assoc version_text (plan_text n) entries) ∙ row-then version_text version_line (plan_text n ++ entries) refl version-free
      ∙ ap (λ (l : List (List ℕ)). version_line ∷ l) (row-then (plan_text n) (plan_word ++ decimal n) entries refl plan-free)

  head_read : back chapter year n sheet ≡ take_lines chapter year n 2 true (empty_sheet n) (lines_of entries)
  head_read =
      ap (take_lines chapter year n 0 false (empty_sheet n)) lines_are
      ∙ goes_on chapter year n 0 false false (empty_sheet n) (empty_sheet n) version_line ((plan_word ++ decimal n) ∷ lines_of entries) (version-goes chapter year n (empty_sheet n))
      ∙ goes_on chapter year n 1 false true (empty_sheet n) (empty_sheet n) (plan_word ++ decimal n) (lines_of entries) (plan-goes chapter year n low 0 (empty_sheet n))

  all_back : Filled chapter year n 0 sheet (empty_sheet n) (back chapter year n sheet)
  all_back = rw head_read (all-filled chapter year n low sheet n 0 1 (empty_sheet n) (omega arith) (zeros-empty n))

-- ---- bytes of an entry are bytes

bytes-part : (xs : List ℕ) (a n : ℕ) → Bytes xs → Bytes (part xs a n)
bytes-part xs a n b i =
    below_or i n
    (λ h. rw (get_d_part xs a n i h) (b (a + i)))
    (λ h.
    let l : length (part xs a n) ≤ i = omega (arith, length-take n (drop a xs), min-le_left n (length (drop a xs))) in
    rw (get_or-eq_default (part xs a n) 0 {n = i} l) (omega arith))

same_back : (chapter year n : ℕ) (sheet : List ℕ) → n < 65536 → Bytes sheet → (i : ℕ) → i < n → (e : Entry) → reading_of (entry_at sheet i) ≡ Some e → e.chapter ≡ chapter
    → e.year ≡ year → Plain (name_in (entry_at sheet i) e) → entry_at (back chapter year n sheet).sheet i ≡ entry_at sheet i
same_back chapter year n sheet low bytes i inside e r c y p =
    ((all_back chapter year n low sheet).come i (omega arith) inside).same e r c p
    ∙ rw (← c, ← y) (verdict-laws.read_made (entry_at sheet i) e (bytes-part sheet (entry_start i) record_len bytes) r).makes

pub returning : Returning
returning =
    record {
      good = λ chapter year n sheet low. (all_back chapter year n low sheet).good;
      none_comes = λ chapter year n sheet low i inside h. ((all_back chapter year n low sheet).come i (omega arith) inside).none h;
      comes_back = λ chapter year n sheet low i inside e r c p. ((all_back chapter year n low sheet).come i (omega arith) inside).same e r c p;
      same_bytes = λ chapter year n sheet low bytes i inside e r c y p. same_back chapter year n sheet low bytes i inside e r c y p;
      only_passes = λ chapter year n sheet low i inside w. ((all_back chapter year n low sheet).come i (omega arith) inside).pass w;
    }
