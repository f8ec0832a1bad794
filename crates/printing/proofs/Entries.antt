-- The lines of a sheet's entries: what each entry comes to, and all of them one after another. Assumes nothing.
use Rattle.std.specs.Prelude.{None, Some}
use Prim.Native.Nat.{ℕ, zero, suc, ◌+◌, ◌*◌, ◌≤◌, ◌<◌}
use mathlib.Core.Path.{◌≡◌, refl, sym, ap, ◌∙◌}
use mathlib.Core.Bool.{Bool, true, false, ◌&&◌}
use mathlib.Core.List.{List, [], ◌++◌, append_assoc, append-nil}
use native.Mathlib.Omega.{arith}
use lib.ListN.{length}
use lib.Dec.{eqb}
use borrow.Author.Tests.{eqb-true, eqb-false}
use Rattle.words.proofs.Tests.{by_cases}
use Rattle.words.proofs.Splice.{splice-nil}
use Rattle.sizes.specs.Sizes.{record_len}
use Rattle.listing.specs.Listing.{Wrote}
use Rattle.listing.specs.Writer.{Adds}
use Rattle.listing.specs.declared.writer.Writer.{Writer}
use Rattle.listing.proofs.Written.{◌then◌}
use Rattle.verdicts.specs.declared.Entry.{Entry}
use Rattle.verdicts.specs.Verdict.{reading_of, name_in}
use Rattle.verdicts.proofs.GoodRecord.{bad-length}
use Rattle.sheets.specs.Sheet.{entry_at}
use Rattle.printing.specs.Printed.{verdict_text, is_printable, line_room}
use Rattle.printing.specs.Printing.{entry_text, entries_text}

-- nothing written
pub wrote_none : (xs : List ℕ) (at : ℕ) → Wrote xs at [] xs at
wrote_none xs at = record { is = sym (splice-nil xs at); next_is = omega arith }

pub adds_none : (w : Writer) → Adds w [] w
adds_none w = record { same = refl; room = refl; wrote = record { is = sym (splice-nil w.out.now w.at); next_is = omega arith } }

-- ---- one entry

-- what can be read has a record's length
pub good_length : (rec : List ℕ) (e : Entry) → reading_of rec ≡ Some e → length rec ≡ record_len
good_length rec e h =
    by_cases (eqb (length rec) record_len) (eqb-true (length rec) record_len)
    (λ b. let k = bad-length rec (eqb-false (length rec) record_len b) in let z : ◌≡◌ {A = ℕ} 0 1 = cc in absurd (omega arith))

pub entry-bad : (chapter number : ℕ) (rec : List ℕ) → reading_of rec ≡ None → entry_text chapter number rec ≡ []
unfolding entry_text
entry-bad chapter number rec h = rw h

module _ (chapter number : ℕ) (rec : List ℕ) (e : Entry) (h : reading_of rec ≡ Some e) {p : Bool} (k : p ≡ is_printable (name_in rec e)) where
  pub entry-none : (eqb e.chapter chapter && p) ≡ false → entry_text chapter number rec ≡ []
  unfolding entry_text
  entry-none g = rw (h, ← k, g)

  pub entry-line : (eqb e.chapter chapter && p) ≡ true → entry_text chapter number rec ≡ verdict_text number e.verdict (name_in rec e)
  unfolding entry_text
  entry-line g = rw (h, ← k, g)

-- ---- one entry after another

-- the last of k + 1 entries is the one at j
entries-more : (chapter k i j : ℕ) (sheet : List ℕ) → j ≡ i + k
    → entries_text chapter (suc k) i sheet ≡ entries_text chapter k i sheet ++ entry_text chapter (j + 1) (entry_at sheet j)
unfolding entries_text
entries-more chapter zero i j sheet h =
    let e : i ≡ j = omega (arith, h) in
    append-nil (entry_text chapter (i + 1) (entry_at sheet i)) ∙ ap (λ (x : ℕ). entry_text chapter (x + 1) (entry_at sheet x)) e
entries-more chapter (suc k) i j sheet h =
    let e : j ≡ suc i + k = omega (arith, h) in
    ap (λ (t : List ℕ). entry_text chapter (i + 1) (entry_at sheet i) ++ t) (entries-more chapter k (suc i) j sheet e)
    ∙ sym (append_assoc (entry_text chapter (i + 1) (entry_at sheet i)) (entries_text chapter k (suc i) sheet) (entry_text chapter (j + 1) (entry_at sheet j)))

-- the lines of the first i entries are written
pub record SoFar (chapter n : ℕ) (sheet : List ℕ) (first : Writer) (i : ℕ) (w : Writer) : Type 0 where
  pub to_end : i ≤ n
  pub place : w.at ≤ first.at + i * line_room
  pub wrote : Adds first (entries_text chapter i 0 sheet) w

module _ (chapter n : ℕ) (sheet : List ℕ) (first : Writer) where
  pub begun : SoFar chapter n sheet first 0 first
  unfolding entries_text
  begun = record { to_end = omega arith; place = omega arith; wrote = adds_none first }

  module _ (i : ℕ) (w : Writer) (here : SoFar chapter n sheet first i w) where
    pub turn : {v : Writer} {entry : List ℕ} → i < n → entry ≡ entry_at sheet i
        → Adds w (entry_text chapter (i + 1) entry) v → v.at ≤ w.at + line_room → SoFar chapter n sheet first (i + 1) v
    turn {v} {entry} l e t p =
        record { to_end = omega arith; place = omega (arith, here.place, p); wrote = rw more (here.wrote then (rw e at t)) }
      where
        more : entries_text chapter (i + 1) 0 sheet ≡ entries_text chapter i 0 sheet ++ entry_text chapter (i + 1) (entry_at sheet i)
        more =
            let s : i + 1 ≡ suc i = omega arith in
            ap (λ (k : ℕ). entries_text chapter k 0 sheet) s ∙ entries-more chapter i 0 i sheet (omega arith)
