-- The fixed byte strings of the script and of the listing. Assumes nothing.
use Rattle.std.specs.Prelude.{ℕ, List, [], ◌∷◌}

abbrev pub line_feed : ℕ
line_feed = 10

abbrev pub space : ℕ
space = 32

-- ---- the words that a script's lines begin with, each with its space

-- `store `
abbrev pub store_word : List ℕ
store_word = 115 ∷ 116 ∷ 111 ∷ 114 ∷ 101 ∷ 32 ∷ []

-- `start `
abbrev pub start_word : List ℕ
start_word = 115 ∷ 116 ∷ 97 ∷ 114 ∷ 116 ∷ 32 ∷ []

-- `write `
abbrev pub write_word : List ℕ
write_word = 119 ∷ 114 ∷ 105 ∷ 116 ∷ 101 ∷ 32 ∷ []

-- `read `
abbrev pub read_word : List ℕ
read_word = 114 ∷ 101 ∷ 97 ∷ 100 ∷ 32 ∷ []

-- ---- what the listing has

-- `n op id leaf answer`
abbrev pub header_line : List ℕ
header_line = 110 ∷ 32 ∷ 111 ∷ 112 ∷ 32 ∷ 105 ∷ 100 ∷ 32 ∷ 108 ∷ 101 ∷ 97 ∷ 102 ∷ 32 ∷ 97 ∷ 110 ∷ 115 ∷ 119 ∷ 101 ∷ 114 ∷ 10 ∷ []

-- `bad line`
abbrev pub bad_line : List ℕ
bad_line = 98 ∷ 97 ∷ 100 ∷ 32 ∷ 108 ∷ 105 ∷ 110 ∷ 101 ∷ 10 ∷ []

-- `0 format - - `
abbrev pub format_word : List ℕ
format_word = 48 ∷ 32 ∷ 102 ∷ 111 ∷ 114 ∷ 109 ∷ 97 ∷ 116 ∷ 32 ∷ 45 ∷ 32 ∷ 45 ∷ 32 ∷ []

-- `-`
abbrev pub dash : List ℕ
dash = 45 ∷ []

-- `done`
abbrev pub done_word : List ℕ
done_word = 100 ∷ 111 ∷ 110 ∷ 101 ∷ []

-- `never`
abbrev pub never_word : List ℕ
never_word = 110 ∷ 101 ∷ 118 ∷ 101 ∷ 114 ∷ []

-- `record `
abbrev pub record_word : List ℕ
record_word = 114 ∷ 101 ∷ 99 ∷ 111 ∷ 114 ∷ 100 ∷ 32 ∷ []

-- `refused `
abbrev pub refused_word : List ℕ
refused_word = 114 ∷ 101 ∷ 102 ∷ 117 ∷ 115 ∷ 101 ∷ 100 ∷ 32 ∷ []
