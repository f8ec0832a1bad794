-- A verdict in a record: where its parts stand, which records can be read, what they say, and the record that is made of a verdict. Assumes nothing.
use Rattle.std.specs.Prelude.{ℕ, ◌-◌, ◌<◌, ◌≡◌, Bool, true, false, cond, ◌&&◌, List, ◌∷◌, ◌++◌, length, get_or, leb, eqb, None, Option, Some, Result, MatchResult}
use Rattle.words.specs.Bytes.{part, zeros}
use Rattle.words.specs.Numbers.{number, bytes_of}
use Rattle.words.specs.Tests.{all_zero}
use Rattle.text.specs.Fronts.{before}
use Rattle.sizes.specs.Sizes.{record_len}
use Rattle.slots.specs.Slots.{Bytes}
use Rattle.verdicts.specs.declared.Verdict.{Verdict}
use Rattle.verdicts.specs.declared.Verdict.TheVariants.{Pass, Fail, Skipped, Error}
use Rattle.verdicts.specs.declared.NoVerdict.{NoVerdict}
use Rattle.verdicts.specs.declared.Entry.{Entry}

-- ---- verdict 1, chapter 1, suite year 2, and the name in the rest

abbrev pub verdict_at : ℕ
verdict_at = 0

abbrev pub chapter_at : ℕ
chapter_at = 1

abbrev pub year_at : ℕ
year_at = 2

abbrev pub year_len : ℕ
year_len = 2

abbrev pub name_at : ℕ
name_at = 4

abbrev pub most_name : ℕ
most_name = record_len - name_at

abbrev pub most_chapter : ℕ
most_chapter = 31

-- ---- the verdicts' numbers

abbrev pub verdict_number : Verdict → ℕ
verdict_number Pass = 1
verdict_number Fail = 2
verdict_number Skipped = 3
verdict_number Error = 4

abbrev pub is_verdict : ℕ → Bool
is_verdict x = leb 1 x && leb x 4

-- of 1 to 4; others are no verdict
abbrev pub verdict_of : ℕ → Verdict
verdict_of x = cond (eqb x 1) Pass (cond (eqb x 2) Fail (cond (eqb x 3) Skipped Error))

-- a number names a verdict, or none, and is then what the error holds
abbrev pub Names : ℕ → Result Verdict NoVerdict → Type 0
Names x r = MatchResult r (λ v. (is_verdict x ≡ true) × (v ≡ verdict_of x)) (λ e. (is_verdict x ≡ false) × (e.0 ≡ x))

-- ---- reading: the name is what stands before the first zero, and zeros follow it

abbrev pub until_zero : List ℕ → ℕ
until_zero xs = length (before 0 xs)

abbrev pub is_padded : List ℕ → ℕ → Bool
is_padded name len = all_zero (part name len (length name - len))

abbrev pub name_field : List ℕ → List ℕ
name_field rec = part rec name_at most_name

unfoldable pub name_length : List ℕ → ℕ
name_length rec = until_zero (name_field rec)

unfoldable pub good_record : List ℕ → Bool
good_record rec =
    eqb (length rec) record_len && (is_verdict (get_or rec verdict_at 0) && leb (get_or rec chapter_at 0) most_chapter && is_padded (name_field rec) (name_length rec))

unfoldable pub entry_in : List ℕ → Entry
entry_in rec =
    record { verdict = verdict_of (get_or rec verdict_at 0); chapter = get_or rec chapter_at 0; year = number year_len rec year_at; length = name_length rec }

abbrev pub reading_of : List ℕ → Option Entry
reading_of rec = cond (good_record rec) (Some (entry_in rec)) None

-- the name that an entry of a record speaks of
abbrev pub name_in : List ℕ → Entry → List ℕ
name_in rec e = part rec name_at e.length

-- ---- making

-- what can be read back
unfoldable pub can_be_read : ℕ → List ℕ → Bool
can_be_read chapter name = leb chapter most_chapter && leb (length name) most_name && eqb (until_zero name) (length name)

abbrev pub head_of : Verdict → ℕ → ℕ → List ℕ
head_of v chapter year = verdict_number v ∷ chapter ∷ bytes_of year_len year

unfoldable pub record_of : Verdict → ℕ → ℕ → List ℕ → List ℕ
record_of v chapter year name = head_of v chapter year ++ (name ++ zeros (most_name - length name))

pub record MakeResult : Type 0 where
  pub made : Bool
  pub buffer : List ℕ

abbrev pub making : Bool → List ℕ → MakeResult
making m b = record { made = m; buffer = b }

-- into a lent record, which stays as it was where nothing is made
abbrev pub can_be_made : List ℕ → ℕ → List ℕ → Bool
can_be_made lent chapter name = eqb (length lent) record_len && can_be_read chapter name

abbrev pub make_of : List ℕ → Verdict → ℕ → ℕ → List ℕ → MakeResult
make_of lent v chapter year name = making (can_be_made lent chapter name) (cond (can_be_made lent chapter name) (record_of v chapter year name) lent)

-- ---- the laws: made, then read, gives the same; a record that reads as a verdict is the one that making gives

abbrev pub entry : Verdict → ℕ → ℕ → ℕ → Entry
entry v chapter year len = record { verdict = v; chapter = chapter; year = year; length = len }

pub record ReadsBack (v : Verdict) (chapter year : ℕ) (name : List ℕ) : Type 0 where
  pub reads : reading_of (record_of v chapter year name) ≡ Some (entry v chapter year (length name))
  pub name_is : name_in (record_of v chapter year name) (entry v chapter year (length name)) ≡ name

pub record MadeAgain (rec : List ℕ) (e : Entry) : Type 0 where
  pub can : can_be_read e.chapter (name_in rec e) ≡ true
  pub makes : record_of e.verdict e.chapter e.year (name_in rec e) ≡ rec

pub record VerdictLaws : Type 0 where
  pub made_read : (v : Verdict) (chapter year : ℕ) (name : List ℕ) → year < 65536 → can_be_read chapter name ≡ true → ReadsBack v chapter year name
  pub read_made : (rec : List ℕ) (e : Entry) → Bytes rec → reading_of rec ≡ Some e → MadeAgain rec e
