-- The fixed byte strings of the Test Anything Protocol, version 13, and what letters are. Assumes nothing.
use Rattle.std.specs.Prelude.{ℕ, ◌-◌, Bool, cond, ◌&&◌, ◌||◌, List, [], ◌∷◌, leb, eqb}
use Rattle.text.specs.Fronts.{is_digit}

abbrev pub hash : ℕ
hash = 35

abbrev pub hyphen : ℕ
hyphen = 45

-- ---- what lines begin with

-- `TAP version 13`
abbrev pub version_line : List ℕ
version_line = 84 ∷ 65 ∷ 80 ∷ 32 ∷ 118 ∷ 101 ∷ 114 ∷ 115 ∷ 105 ∷ 111 ∷ 110 ∷ 32 ∷ 49 ∷ 51 ∷ []

-- `1..`
abbrev pub plan_word : List ℕ
plan_word = 49 ∷ 46 ∷ 46 ∷ []

-- `ok `
abbrev pub ok_word : List ℕ
ok_word = 111 ∷ 107 ∷ 32 ∷ []

-- `not ok `
abbrev pub not_ok_word : List ℕ
not_ok_word = 110 ∷ 111 ∷ 116 ∷ 32 ∷ 111 ∷ 107 ∷ 32 ∷ []

-- ---- the directives

-- `SKIP`
abbrev pub skip_word : List ℕ
skip_word = 83 ∷ 75 ∷ 73 ∷ 80 ∷ []

-- `TODO`
abbrev pub todo_word : List ℕ
todo_word = 84 ∷ 79 ∷ 68 ∷ 79 ∷ []

-- ---- what is printed around a name

-- ` - `
abbrev pub dash_text : List ℕ
dash_text = 32 ∷ 45 ∷ 32 ∷ []

-- ` # SKIP`
abbrev pub skip_text : List ℕ
skip_text = 32 ∷ 35 ∷ 32 ∷ 83 ∷ 75 ∷ 73 ∷ 80 ∷ []

-- ` # TODO`
abbrev pub todo_text : List ℕ
todo_text = 32 ∷ 35 ∷ 32 ∷ 84 ∷ 79 ∷ 68 ∷ 79 ∷ []

-- ---- letters

abbrev pub is_capital : ℕ → Bool
is_capital x = leb 65 x && leb x 90

abbrev pub is_small : ℕ → Bool
is_small x = leb 97 x && leb x 122

abbrev pub capital : ℕ → ℕ
capital x = cond (is_small x) (x - 32) x

unfoldable pub capitals : List ℕ → List ℕ
capitals [] = []
capitals (x ∷ xs) = capital x ∷ capitals xs

-- what words are made of: letters, digits, and the underscore
abbrev pub is_word_byte : ℕ → Bool
is_word_byte x = is_capital x || is_small x || is_digit x || eqb x 95
