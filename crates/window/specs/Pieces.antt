-- Lines end at a line feed; the last one may lack it. A script is read in pieces: what the text that was read so far has to say. Assumes nothing.
use Rattle.std.specs.Prelude.{ℕ, zero, suc, ◌+◌, ◌≤◌, ◌<◌, Bool, cond, List, [], ◌∷◌, length, drop, ltb, eqb}
use Rattle.text.specs.Text.{line_feed}
use Rattle.text.specs.Fronts.{before}
use Rattle.window.specs.declared.Next.{Next}
use Rattle.window.specs.declared.Next.TheVariants as next

-- how many bytes the first line has
abbrev pub line_len : List ℕ → ℕ
line_len xs = length (before line_feed xs)

-- the lines of a text, at most n of them; a text has no more lines than bytes
unfoldable pub lines_up_to : ℕ → List ℕ → List (List ℕ)
lines_up_to zero xs = []
lines_up_to (suc n) [] = []
lines_up_to (suc n) (x ∷ xs) = before line_feed (x ∷ xs) ∷ lines_up_to n (drop (suc (line_len (x ∷ xs))) (x ∷ xs))

abbrev pub lines_of : List ℕ → List (List ℕ)
lines_of xs = lines_up_to (length xs) xs

-- the next line of a text that stands at `from`, where `ended` says whether it is all that is left
abbrev pub next_of : ℕ → List ℕ → Bool → Next
next_of from xs ended =
    cond (ltb (line_len xs) (length xs)) (next.Line (from + line_len xs) (from + line_len xs + 1))
    (cond ended (cond (eqb (length xs) 0) next.Over (next.Line (from + length xs) (from + length xs))) next.More)

-- a line lies in the window, and takes something of it
abbrev pub Ahead : ℕ → ℕ → Next → Type 0
Ahead from to (next.Line end after) = (from ≤ end) × (end ≤ after) × (from < after) × (after ≤ to)
Ahead from to next.More = Unit
Ahead from to next.Over = Unit
