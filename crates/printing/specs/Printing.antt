-- The text that says a sheet: version, plan, and a line for each entry that is a verdict of the chapter. Assumes nothing.
use Rattle.verdicts.specs.declared.Entry.{Entry}
use Rattle.std.specs.Prelude.{ℕ, zero, suc, ◌+◌, cond, ◌&&◌, List, [], ◌++◌, eqb, None, Option, Some}
use Rattle.verdicts.specs.Verdict.{reading_of, name_in}
use Rattle.printing.specs.Printed.{version_text, plan_text, verdict_text, is_printable}
use Rattle.sheets.specs.Sheet.{entry_at}

-- a record that is bad or of another chapter gets no line, nor does a name that no line can say
abbrev pub reading_text : ℕ → ℕ → List ℕ → Option Entry → List ℕ
reading_text chapter number rec (Some e) =
    cond (eqb e.chapter chapter && is_printable (name_in rec e)) (verdict_text number e.verdict (name_in rec e)) []
reading_text chapter number rec None = []

unfoldable pub entry_text : ℕ → ℕ → List ℕ → List ℕ
entry_text chapter number rec = reading_text chapter number rec (reading_of rec)

-- those of `left` entries from entry i on, whose number is i + 1
unfoldable pub entries_text : ℕ → ℕ → ℕ → List ℕ → List ℕ
entries_text chapter zero i sheet = []
entries_text chapter (suc left) i sheet = entry_text chapter (i + 1) (entry_at sheet i) ++ entries_text chapter left (suc i) sheet

-- the plan counts all n
abbrev pub head_text : ℕ → List ℕ
head_text n = version_text ++ plan_text n

abbrev pub text_of : ℕ → ℕ → List ℕ → List ℕ
text_of chapter n sheet = head_text n ++ entries_text chapter n 0 sheet
