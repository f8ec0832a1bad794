-- The lines of the entries, read one after another: each fills its own place, and the others stay. Assumes nothing.
use Prim.Native.Nat.{ℕ, zero, suc, ◌+◌, ◌*◌, ◌≤◌, ◌<◌}
use mathlib.Core.Path.{◌≡◌, refl, sym, ap, subst, ◌∙◌}
use mathlib.Core.Bool.{true, false}
use mathlib.Core.List.{List}
use native.Mathlib.Omega.{arith}
use lib.ListN.{length}
use Rattle.words.specs.Bytes.{part, splice, zeros}
use Rattle.words.proofs.Tests.{by_cases, below_or}
use Rattle.words.proofs.Splice.{length-splice, part-splice, part-splice-before, part-splice-after}
use Rattle.sizes.specs.Sizes.{record_len}
use Rattle.window.specs.Pieces.{lines_of}
use Rattle.window.proofs.Pieces.{none-handed}
use Rattle.verdicts.specs.Verdict.{record_of}
use Rattle.lines.specs.Line.{description_in}
use Rattle.sheets.specs.Sheet.{entry_start, entry_at}
use Rattle.std.specs.Prelude.{Ok}
use Rattle.taking.specs.Taking.{TextResult, take_lines}
use Rattle.printing.specs.Printing.{entry_text, entries_text}
use Rattle.returning.specs.Returning.{is_said}
use Rattle.returning.proofs.Rows.{row-then}
use Rattle.returning.proofs.Entries.{Comes, unsaid-text, unsaid-comes, Said, said}
use Rattle.returning.proofs.Turns.{goes_on, test-goes}

-- ---- one place filled

module _ (i : ℕ) (now out : List ℕ) (long : length out ≡ record_len) (fits : i * record_len + record_len ≤ length now) where
  abbrev then : List ℕ
  then = splice now (entry_start i) out

  pub fill-long : length then ≡ length now
  fill-long = length-splice now (entry_start i) out (omega arith)

  pub fill-same : entry_at then i ≡ out
  fill-same = ap (part then (entry_start i)) (sym long) ∙ part-splice now (entry_start i) out (omega arith)

  pub fill-below : (j : ℕ) → j < i → entry_at then j ≡ entry_at now j
  fill-below j h = part-splice-before now (entry_start i) out (entry_start j) record_len (omega arith) (omega arith)

  pub fill-above : (j : ℕ) → i < j → entry_at then j ≡ entry_at now j
  fill-above j h = part-splice-after now (entry_start i) out (entry_start j) record_len (omega arith) (omega arith)

-- ---- all of them

-- the places from i on are empty
pub record Empty (n i : ℕ) (now : List ℕ) : Type 0 where
  pub long : length now ≡ n * record_len
  pub none : (j : ℕ) → i ≤ j → j < n → entry_at now j ≡ zeros record_len

-- what was there below i stays, and the others are what comes of their entries
pub record Filled (chapter year n i : ℕ) (sheet now : List ℕ) (r : TextResult) : Type 0 where
  pub good : r.answer ≡ Ok tt
  pub kept : (j : ℕ) → j < i → entry_at r.sheet j ≡ entry_at now j
  pub come : (j : ℕ) → i ≤ j → j < n → Comes chapter year (entry_at sheet j) (entry_at r.sheet j)

module _ (chapter year n : ℕ) (low : n < 65536) (sheet : List ℕ) where
  abbrev rest : ℕ → ℕ → ℕ → List ℕ → TextResult
  rest left i b now = take_lines chapter year n (suc b) true now (lines_of (entries_text chapter left i sheet))

  end : (i b : ℕ) (now : List ℕ) → i ≡ n → Filled chapter year n i sheet now (rest 0 i b now)
  unfolding take_lines entries_text
  end i b now e = rw none-handed (record { good = refl; kept = λ j h. refl; come = λ j h k. absurd (omega arith) })

  -- the entry i has come, and those after it will
  more : (i : ℕ) (now then : List ℕ) (r : TextResult) → ((j : ℕ) → j < i → entry_at then j ≡ entry_at now j)
      → Comes chapter year (entry_at sheet i) (entry_at then i) → Filled chapter year n (suc i) sheet then r → Filled chapter year n i sheet now r
  more i now then r below here f =
      record {
        good = f.good;
        kept = λ j h. f.kept j (omega arith) ∙ below j h;
        come = λ j h k.
            below_or i j
            (λ l. f.come j l k)
            (λ l.
            let e : i ≡ j = omega arith in
            subst (λ (x : ℕ). Comes chapter year (entry_at sheet x) (entry_at r.sheet x)) e
            (rw (f.kept i (omega arith)) here));
      }

  module _ (left i b : ℕ) (now : List ℕ) (inside : i < n) (empty : Empty n i now) where
    abbrev rec : List ℕ
    rec = entry_at sheet i

    none_here : entry_at now i ≡ zeros record_len
    none_here = empty.none i (omega arith) inside

    unsaid-turn : is_said chapter rec ≡ false → rest (suc left) i b now ≡ rest left (suc i) b now
    unfolding entries_text
    unsaid-turn h = rw (unsaid-text chapter (i + 1) rec h)

    module _ (s : Said chapter year (i + 1) rec) where
      abbrev out : List ℕ
      out = record_of s.says.verdict chapter year (description_in s.row s.says)

      said-turn : rest (suc left) i b now ≡ rest left (suc i) (suc b) (splice now (entry_start i) out)
      unfolding entries_text
      said-turn =
          ap (take_lines chapter year n (suc b) true now)
          (row-then (entry_text chapter (i + 1) rec) s.row (entries_text chapter left (suc i) sheet) s.text_is s.free)
          ∙ goes_on chapter year n (suc b) true true now (splice now (entry_start i) out) s.row (lines_of (entries_text chapter left (suc i) sheet))
          (test-goes chapter year n i now inside none_here s.row s.says s.number_is b s.reads)

      fits : i * record_len + record_len ≤ length now
      fits = omega (arith, empty.long)

      said-empty : Empty n (suc i) (splice now (entry_start i) out)
      said-empty =
          record {
            long = fill-long i now out s.long fits ∙ empty.long;
            none = λ j h k. fill-above i now out s.long fits j h ∙ empty.none j (omega arith) k;
          }

      said_more : Filled chapter year n (suc i) sheet (splice now (entry_start i) out) (rest left (suc i) (suc b) (splice now (entry_start i) out))
          → Filled chapter year n i sheet now (rest (suc left) i b now)
      said_more f =
          rw said-turn
          (more i now (splice now (entry_start i) out) (rest left (suc i) (suc b) (splice now (entry_start i) out)) (fill-below i now out s.long fits)
          (rw (fill-same i now out s.long fits) s.comes) f)

    unsaid-more : is_said chapter rec ≡ false → Filled chapter year n (suc i) sheet now (rest left (suc i) b now) → Filled chapter year n i sheet now (rest (suc left) i b now)
    unsaid-more h f =
        rw (unsaid-turn h)
        (more i now now (rest left (suc i) b now) (λ j k. refl) (rw none_here (unsaid-comes chapter year rec h)) f)

  pub all-filled : (left i b : ℕ) (now : List ℕ) → i + left ≡ n → Empty n i now → Filled chapter year n i sheet now (rest left i b now)
  all-filled zero i b now e m = end i b now (omega arith)
  all-filled (suc left) i b now e m =
      by_cases (is_said chapter (entry_at sheet i))
      (λ h.
      let s = said chapter year (i + 1) (entry_at sheet i) (omega arith) h in
      let then = splice now (entry_start i) (record_of s.says.verdict chapter year (description_in s.row s.says)) in
      said_more left i b now (omega arith) m s (all-filled left (suc i) (suc b) then (omega arith) (said-empty left i b now (omega arith) m s)))
      (λ h.
      unsaid-more left i b now (omega arith) m h
      (all-filled left (suc i) b now (omega arith) (record { long = m.long; none = λ j l k. m.none j (omega arith) k })))
