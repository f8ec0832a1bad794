-- The lines that are printed: version, plan, and a line for a verdict. Each has its line feed. Assumes nothing.
use Rattle.std.specs.Prelude.{ℕ, ◌+◌, ◌*◌, Bool, List, [], ◌∷◌, ◌++◌, length, eqb}
use Rattle.text.specs.Text.{line_feed}
use Rattle.text.specs.Fronts.{most_digits, before}
use Rattle.listing.specs.Listing.{decimal}
use Rattle.verdicts.specs.declared.Verdict.{Verdict}
use Rattle.verdicts.specs.declared.Verdict.TheVariants.{Pass, Fail, Skipped, Error}
use Rattle.verdicts.specs.Verdict.{most_name}
use Rattle.lines.specs.Words.{version_line, plan_word, ok_word, not_ok_word, dash_text, skip_text, todo_text}

abbrev pub feed : List ℕ
feed = line_feed ∷ []

abbrev pub version_text : List ℕ
version_text = version_line ++ feed

abbrev pub plan_text : ℕ → List ℕ
plan_text n = plan_word ++ decimal n ++ feed

-- skipped is `ok` with SKIP, an error `not ok` with TODO
abbrev pub kind_text : Verdict → List ℕ
kind_text Pass = ok_word
kind_text Fail = not_ok_word
kind_text Skipped = ok_word
kind_text Error = not_ok_word

abbrev pub directive_text : Verdict → List ℕ
directive_text Pass = []
directive_text Fail = []
directive_text Skipped = skip_text
directive_text Error = todo_text

abbrev pub verdict_text : ℕ → Verdict → List ℕ → List ℕ
verdict_text number v name = kind_text v ++ decimal number ++ dash_text ++ name ++ directive_text v ++ feed

-- a name with a line feed in it would be two lines: no line says it
abbrev pub is_printable : List ℕ → Bool
is_printable name = eqb (length (before line_feed name)) (length name)

-- ---- none is longer: a number up to 4,096 has at most four digits

abbrev pub head_room : ℕ
head_room = length version_text + (length plan_word + most_digits + 1)

abbrev pub line_room : ℕ
line_room = length not_ok_word + most_digits + length dash_text + most_name + length todo_text + 1

-- the room that a text of n numbers has
abbrev pub room_of : ℕ → ℕ
room_of n = head_room + n * line_room
