-- What comes back of a sheet that is written as a text and read again, on bytes. Assumes nothing.
use Rattle.std.specs.Prelude.{ℕ, ◌-◌, ◌<◌, ◌≡◌, ◌≢◌, Bool, true, false, ◌&&◌, List, length, get_or, eqb, None, Option, Some, Ok}
use Rattle.words.specs.Bytes.{zeros}
use Rattle.text.specs.Text.{space}
use Rattle.text.specs.Fronts.{before}
use Rattle.sizes.specs.Sizes.{record_len}
use Rattle.slots.specs.Slots.{Bytes}
use Rattle.verdicts.specs.declared.Verdict.TheVariants as verdict
use Rattle.verdicts.specs.declared.Entry.{Entry}
use Rattle.verdicts.specs.Verdict.{reading_of, name_in, record_of}
use Rattle.lines.specs.Words.{hash}
use Rattle.sheets.specs.Sheet.{entry_at}
use Rattle.taking.specs.Taking.{TextResult, take_of}
use Rattle.printing.specs.Printed.{is_printable}
use Rattle.printing.specs.Printing.{text_of}

-- whether an entry gets a line
abbrev pub reading_said : ℕ → List ℕ → Option Entry → Bool
reading_said chapter rec (Some e) = eqb e.chapter chapter && is_printable (name_in rec e)
reading_said chapter rec None = false

abbrev pub is_said : ℕ → List ℕ → Bool
is_said chapter rec = reading_said chapter rec (reading_of rec)

-- the names that come back as they are: no `#` and no line end in them, no space at either end. A good record's name has no zero
pub record Plain (name : List ℕ) : Type 0 where
  pub no_hash : length (before hash name) ≡ length name
  pub one_line : is_printable name ≡ true
  pub no_space_before : get_or name 0 0 ≢ space
  pub no_space_behind : get_or name (length name - 1) 0 ≢ space

-- a sheet written for a chapter, and the text read again for a chapter and year
abbrev pub back : ℕ → ℕ → ℕ → List ℕ → TextResult
back chapter year n sheet = take_of chapter year n (text_of chapter n sheet)

-- an entry was a pass of the chapter
pub record WasPass (chapter : ℕ) (rec : List ℕ) : Type 0 where
  pub says : Entry
  pub reads : reading_of rec ≡ Some says
  pub passes : says.verdict ≡ verdict.Pass
  pub of_chapter : says.chapter ≡ chapter

pub record Returning : Type 0 where
  -- what is written is never refused as a text, whatever the sheet holds
  pub good : (chapter year n : ℕ) (sheet : List ℕ) → n < 65536 → (back chapter year n sheet).answer ≡ Ok tt
  -- an entry that got no line comes back as none: so an id that is Never before is Never after
  pub none_comes : (chapter year n : ℕ) (sheet : List ℕ) → n < 65536
      → (i : ℕ) → i < n → is_said chapter (entry_at sheet i) ≡ false → entry_at (back chapter year n sheet).sheet i ≡ zeros record_len
  -- verdict and name come back, with the chapter and the year that are read for
  pub comes_back : (chapter year n : ℕ) (sheet : List ℕ) → n < 65536
      → (i : ℕ) → i < n → (e : Entry) → reading_of (entry_at sheet i) ≡ Some e → e.chapter ≡ chapter → Plain (name_in (entry_at sheet i) e)
      → entry_at (back chapter year n sheet).sheet i ≡ record_of e.verdict chapter year (name_in (entry_at sheet i) e)
  -- of the same year, every byte does
  pub same_bytes : (chapter year n : ℕ) (sheet : List ℕ) → n < 65536 → Bytes sheet
      → (i : ℕ) → i < n → (e : Entry) → reading_of (entry_at sheet i) ≡ Some e → e.chapter ≡ chapter → e.year ≡ year → Plain (name_in (entry_at sheet i) e)
      → entry_at (back chapter year n sheet).sheet i ≡ entry_at sheet i
  -- only a pass comes back as a pass, whatever the names are: no skip, no error, no failure does, and nothing comes of nothing
  pub only_passes : (chapter year n : ℕ) (sheet : List ℕ) → n < 65536
      → (i : ℕ) → i < n → WasPass chapter (entry_at (back chapter year n sheet).sheet i) → WasPass chapter (entry_at sheet i)
