-- A text of TAP for n numbers, read line by line into a sheet: what each line does, and which refusal the text comes to. Assumes nothing.
use Rattle.std.specs.Prelude.{ℕ, suc, ◌+◌, ◌-◌, Bool, false, cond, not, ◌&&◌, ◌||◌, List, [], ◌∷◌, leb, eqb, Result, Ok, Err}
use Rattle.words.specs.Bytes.{splice}
use Rattle.window.specs.Pieces.{lines_of}
use Rattle.verdicts.specs.Verdict.{record_of}
use Rattle.lines.specs.declared.Test.{Test}
use Rattle.lines.specs.declared.Line.{Line}
use Rattle.lines.specs.declared.Line.TheVariants as line
use Rattle.lines.specs.Line.{line_of, description_in}
use Rattle.taking.specs.declared.Trouble.{Trouble}
use Rattle.taking.specs.declared.Trouble.TheVariants.{Malformed, BadPlan}
use Rattle.taking.specs.declared.BadText.{BadText}
use Rattle.sheets.specs.Sheet.{entry_start, is_held, empty_sheet}

-- ---- the refusals of a text, numbered on from the store's

abbrev pub trouble_number : Trouble → ℕ
trouble_number Malformed = 12
trouble_number BadPlan = 13

-- ---- one line: whether the plan has come then, or the line's trouble; and the sheet

pub record StepResult : Type 0 where
  pub step : Result Bool Trouble
  pub sheet : List ℕ

abbrev pub stepped : Result Bool Trouble → List ℕ → StepResult
stepped s sheet = record { step = s; sheet = sheet }

-- numbers are 1 to n, each once
abbrev pub is_bad_number : ℕ → List ℕ → ℕ → Bool
is_bad_number n sheet k = not (leb 1 k && leb k n) || is_held sheet (k - 1)

-- a test line's record goes to its number's place
abbrev pub take_test : ℕ → ℕ → ℕ → Bool → List ℕ → List ℕ → Test → StepResult
take_test chapter year n planned sheet xs t =
    cond (is_bad_number n sheet t.number) (stepped (Err BadPlan) sheet)
    (stepped (Ok planned) (splice sheet (entry_start (t.number - 1)) (record_of t.verdict chapter year (description_in xs t))))

-- the plan comes once; a second one is malformed, whatever it says
abbrev pub take_plan : ℕ → Bool → ℕ → Result Bool Trouble
take_plan n planned k = cond planned (Err Malformed) (cond (eqb k n) (Ok (not planned)) (Err BadPlan))

-- the first line is the version
abbrev pub take_first : Line → Result Bool Trouble
take_first line.Version = Ok false
take_first (line.Plan k) = Err Malformed
take_first (line.Test t) = Err Malformed
take_first line.Comment = Err Malformed
take_first line.Malformed = Err Malformed

-- and no other line is
abbrev pub take_later : ℕ → ℕ → ℕ → Bool → List ℕ → List ℕ → Line → StepResult
take_later chapter year n planned sheet xs line.Version = stepped (Err Malformed) sheet
take_later chapter year n planned sheet xs (line.Plan k) = stepped (take_plan n planned k) sheet
take_later chapter year n planned sheet xs (line.Test t) = take_test chapter year n planned sheet xs t
take_later chapter year n planned sheet xs line.Comment = stepped (Ok planned) sheet
take_later chapter year n planned sheet xs line.Malformed = stepped (Err Malformed) sheet

-- `before` lines came before this one
unfoldable pub take_line : ℕ → ℕ → ℕ → ℕ → Bool → List ℕ → List ℕ → StepResult
take_line chapter year n before planned sheet xs =
    cond (eqb before 0) (stepped (take_first (line_of chapter xs)) sheet) (take_later chapter year n planned sheet xs (line_of chapter xs))

-- ---- the lines of a text, in order: the earlier line decides

pub record TextResult : Type 0 where
  pub answer : Result (Unit {0}) BadText
  pub sheet : List ℕ

abbrev pub took : Result (Unit {0}) BadText → List ℕ → TextResult
took a sheet = record { answer = a; sheet = sheet }

abbrev pub in_line : Trouble → ℕ → BadText
in_line t line = record { trouble = t; line = line }

-- a plan that is missing, or a version, is malformed one line past the end
abbrev pub at_end : ℕ → Bool → Result (Unit {0}) BadText
at_end before planned = cond planned (Ok tt) (Err (in_line Malformed (before + 1)))

abbrev pub going_on : ℕ → StepResult → (Bool → TextResult) → Result Bool Trouble → TextResult
going_on before r more (Ok planned) = more planned
going_on before r more (Err t) = took (Err (in_line t (before + 1))) r.sheet

unfoldable pub take_lines : ℕ → ℕ → ℕ → ℕ → Bool → List ℕ → List (List ℕ) → TextResult
take_lines chapter year n before planned sheet [] = took (at_end before planned) sheet
take_lines chapter year n before planned sheet (xs ∷ more) =
    let r = take_line chapter year n before planned sheet xs in
    going_on before r (λ p. take_lines chapter year n (suc before) p r.sheet more) r.step

-- a whole text into a sheet
abbrev pub take_into : ℕ → ℕ → ℕ → List ℕ → List ℕ → TextResult
take_into chapter year n sheet text = take_lines chapter year n 0 false sheet (lines_of text)

abbrev pub take_of : ℕ → ℕ → ℕ → List ℕ → TextResult
take_of chapter year n text = take_into chapter year n (empty_sheet n) text
