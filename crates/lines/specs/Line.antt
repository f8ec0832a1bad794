-- What a line of TAP is: version, plan, test, comment, or malformed. Definitions go by the bytes of the line, without its line feed. Assumes nothing.
use Rattle.std.specs.Prelude.{ℕ, zero, suc, ◌+◌, ◌≤◌, ◌≡◌, Bool, true, false, cond, not, ◌&&◌, List, [], ◌∷◌, length, take, drop, get_or, leb, ltb, eqb, Option, Some, None}
use Rattle.words.specs.Bytes.{part, same}
use Rattle.text.specs.Text.{space}
use Rattle.text.specs.Fronts.{begins, digits, value}
use Rattle.verdicts.specs.declared.Verdict.{Verdict}
use Rattle.verdicts.specs.declared.Verdict.TheVariants as verdict
use Rattle.verdicts.specs.Verdict.{can_be_read}
use Rattle.lines.specs.declared.Directive.{Directive}
use Rattle.lines.specs.declared.Directive.TheVariants.{Skip, Todo}
use Rattle.lines.specs.declared.Count.{Count}
use Rattle.lines.specs.declared.Cut.{Cut}
use Rattle.lines.specs.declared.Test.{Test}
use Rattle.lines.specs.declared.Line.{Line}
use Rattle.lines.specs.declared.Line.TheVariants as line
use Rattle.lines.specs.Words.{hash, hyphen, version_line, plan_word, ok_word, not_ok_word, skip_word, todo_word, capitals, is_word_byte}

-- ---- spaces

-- how many stand at the front
unfoldable pub leading : List ℕ → ℕ
leading [] = 0
leading (x ∷ xs) = cond (eqb x space) (suc (leading xs)) 0

abbrev pub after_spaces : List ℕ → List ℕ
after_spaces xs = drop (leading xs) xs

abbrev pub only_spaces : List ℕ → Bool
only_spaces xs = eqb (leading xs) (length xs)

-- how many of the first n bytes are left without the spaces at their end
unfoldable pub trimmed : ℕ → List ℕ → ℕ
trimmed zero xs = 0
trimmed (suc n) xs = cond (eqb (get_or xs n 0) space) (trimmed n xs) (suc n)

-- ---- a number: the digits at the front, however many. No range is longer than 65,535, so that 65,536 stands for all that are larger

abbrev pub most_count : ℕ
most_count = 65536

abbrev pub capped : ℕ → ℕ
capped v = cond (ltb v most_count) v most_count

-- so nothing is hidden from a range of n: whether a number is n, or among 1 to n, is the same of the capped one
pub record HidesNothing (n : ℕ) : Type 0 where
  pub same_n : (v : ℕ) → eqb (capped v) n ≡ eqb v n
  pub same_low : (v : ℕ) → leb 1 (capped v) ≡ leb 1 v
  pub same_high : (v : ℕ) → leb (capped v) n ≡ leb v n

abbrev pub count : ℕ → ℕ → Count
count v n = record { value = v; length = n }

abbrev pub count_of : List ℕ → Count
count_of xs = count (capped (value 0 (digits xs))) (length (digits xs))

-- ---- the directives: a # that is followed by optional spaces and the word SKIP or TODO, in any case

-- the word, and after it no byte that would make it a longer one
abbrev pub is_word : List ℕ → List ℕ → Bool
is_word word xs = same (capitals (take (length word) xs)) word && not (is_word_byte (get_or xs (length word) 0))

abbrev pub directive_word : List ℕ → Option Directive
directive_word xs = cond (is_word skip_word xs) (Some Skip) (cond (is_word todo_word xs) (Some Todo) None)

-- the one that begins at the front of xs
abbrev pub directive_at : List ℕ → Option Directive
directive_at xs = cond (eqb (get_or xs 0 0) hash) (directive_word (after_spaces (drop 1 xs))) None

abbrev pub is_directive : Option Directive → Bool
is_directive None = false
is_directive (Some d) = true

-- how many bytes stand before the first one; all of them where there is none
unfoldable pub until_directive : List ℕ → ℕ
until_directive [] = 0
until_directive (x ∷ xs) = cond (is_directive (directive_at (x ∷ xs))) 0 (suc (until_directive xs))

abbrev pub cut : ℕ → Option Directive → Cut
cut n d = record { at = n; directive = d }

abbrev pub cut_of : List ℕ → Cut
cut_of xs = cut (until_directive xs) (directive_at (drop (until_directive xs) xs))

-- with SKIP either kind is skipped, with TODO an error
abbrev pub verdict_by : Bool → Option Directive → Verdict
verdict_by ok (Some Skip) = verdict.Skipped
verdict_by ok (Some Todo) = verdict.Error
verdict_by true None = verdict.Pass
verdict_by false None = verdict.Fail

-- ---- a description

-- one hyphen at the front with the spaces after it
abbrev pub hyphen_len : List ℕ → ℕ
hyphen_len xs = cond (eqb (get_or xs 0 0) hyphen) (1 + leading (drop 1 xs)) 0

-- how many bytes at the front are no part of it: spaces, then one hyphen with its spaces
abbrev pub front_len : List ℕ → ℕ
front_len xs = leading xs + hyphen_len (after_spaces xs)

-- after a number that ends at `at`: the line ends there, or a space follows
abbrev pub ends_number : ℕ → List ℕ → Bool
ends_number at xs = eqb (get_or xs at space) space

-- where what follows the space begins; at the line's end there is none
abbrev pub past_space : ℕ → ℕ → ℕ
past_space at len = cond (ltb at len) (at + 1) at

-- where the description begins after a number that ends at `at`, and how long it is
abbrev pub description_at : ℕ → List ℕ → ℕ
description_at at xs = past_space at (length xs) + front_len (drop (past_space at (length xs)) xs)

abbrev pub description_len : ℕ → List ℕ → ℕ
description_len from xs = trimmed (until_directive (drop from xs)) (drop from xs)

-- ---- a test line, after a word of w bytes

abbrev pub test : Verdict → ℕ → ℕ → ℕ → Test
test v number from len = record { verdict = v; number = number; from = from; length = len }

abbrev pub test_from : Bool → ℕ → List ℕ → ℕ → Test
test_from ok number xs from = test (verdict_by ok (cut_of (drop from xs)).directive) number from (description_len from xs)

-- a description that no record of the chapter can hold makes the line malformed: one above 60 bytes, or with a zero in it
abbrev pub held_by : ℕ → List ℕ → Test → Line
held_by chapter xs t = cond (can_be_read chapter (part xs t.from t.length)) (line.Test t) line.Malformed

abbrev pub test_by : ℕ → Bool → ℕ → List ℕ → Count → Line
test_by chapter ok w xs c =
    cond (leb 1 c.length && ends_number (w + c.length) xs)
    (held_by chapter xs (test_from ok c.value xs (description_at (w + c.length) xs)))
    line.Malformed

unfoldable pub test_after : ℕ → Bool → ℕ → List ℕ → Line
test_after chapter ok w xs = test_by chapter ok w xs (count_of (drop w xs))

-- ---- the plan: 1..n, and nothing behind it but spaces

abbrev pub plan_by : List ℕ → Count → Line
plan_by xs c = cond (leb 1 c.length && only_spaces (drop c.length xs)) (line.Plan c.value) line.Malformed

unfoldable pub plan_after : List ℕ → Line
plan_after xs = plan_by xs (count_of xs)

-- ---- a line of a text for a chapter

unfoldable pub line_of : ℕ → List ℕ → Line
line_of chapter xs =
    cond (same xs version_line) line.Version
    (cond (eqb (get_or xs 0 0) hash) line.Comment
    (cond (begins xs ok_word) (test_after chapter true (length ok_word) xs)
    (cond (begins xs not_ok_word) (test_after chapter false (length not_ok_word) xs)
    (cond (begins xs plan_word) (plan_after (drop (length plan_word) xs)) line.Malformed))))

-- the description of a test line
abbrev pub description_in : List ℕ → Test → List ℕ
description_in xs t = part xs t.from t.length

-- and it lies in the line
abbrev pub Inside : ℕ → Line → Type 0
Inside end line.Version = Unit
Inside end (line.Plan n) = Unit
Inside end (line.Test t) = t.from + t.length ≤ end
Inside end line.Comment = Unit
Inside end line.Malformed = Unit
