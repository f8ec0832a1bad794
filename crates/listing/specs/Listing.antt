-- What a line of the listing says: request number, kind, id, leaf asked for, answer. Assumes nothing.
use Rattle.std.specs.Prelude.{ℕ, zero, suc, ◌+◌, ◌/◌, ◌%◌, ◌≡◌, cond, List, [], ◌∷◌, ◌++◌, length, ltb, Option, Some, None, Result, Ok, Err}
use Rattle.words.specs.Bytes.{splice}
use Rattle.sizes.specs.Sizes.{record_len}
use Rattle.sizes.specs.declared.Refusal.{Refusal}
use Rattle.sizes.specs.Refusals.{number_of}
use Rattle.desk.specs.declared.Kind.{Kind}
use Rattle.desk.specs.declared.Kind.TheVariants.{Read, Write}
use Rattle.text.specs.Text.{line_feed, space, write_word, read_word, dash, done_word, never_word, record_word, refused_word, format_word}
use Rattle.text.specs.Fronts.{zero_digit, ten, before}
use Rattle.store.specs.declared.Finished.{Finished}
use Rattle.store.specs.declared.Finished.TheVariants as finished

-- the decimal digits of x, the highest first, at most n of them
unfoldable pub digits_up_to : ℕ → ℕ → List ℕ
digits_up_to zero x = []
digits_up_to (suc n) x = cond (ltb x ten) ((zero_digit + x) ∷ []) (digits_up_to n (x / ten) ++ ((zero_digit + x % ten) ∷ []))

-- a number of 64 bits has at most twenty
abbrev pub most_decimal : ℕ
most_decimal = 20

abbrev pub decimal : ℕ → List ℕ
decimal x = digits_up_to most_decimal x

-- what a list holds once bytes were laid into it at a place, and the place after them
pub record Wrote (xs : List ℕ) (at : ℕ) (bytes now : List ℕ) (next : ℕ) : Type 0 where
  pub is : now ≡ splice xs at bytes
  pub next_is : next ≡ at + length bytes

-- ---- the fields of a line

abbrev pub kind_text : Kind → List ℕ
kind_text Read = read_word
kind_text Write = write_word

abbrev pub leaf_text : Option ℕ → List ℕ
leaf_text (Some l) = decimal l
leaf_text None = dash

abbrev pub refused_text : Refusal → List ℕ
refused_text r = refused_word ++ decimal (number_of r)

-- a record's text is what stands before its first zero
abbrev pub record_text : List ℕ → List ℕ
record_text «record» = record_word ++ before 0 «record»

abbrev pub answer_text : Result Finished Refusal → List ℕ → List ℕ
answer_text (Ok finished.Record) «record» = record_text «record»
answer_text (Ok finished.Never) «record» = never_word
answer_text (Ok finished.Done) «record» = done_word
answer_text (Err r) «record» = refused_text r

-- ---- the lines

abbrev pub request_text : ℕ → Kind → ℕ → List ℕ
request_text n kind id = decimal n ++ (space ∷ []) ++ kind_text kind ++ decimal id ++ (space ∷ [])

abbrev pub row_of : ℕ → Kind → ℕ → Option ℕ → Result Finished Refusal → List ℕ → List ℕ
row_of n kind id leaf answer «record» =
    request_text n kind id ++ leaf_text leaf ++ (space ∷ []) ++ answer_text answer «record» ++ (line_feed ∷ [])

abbrev pub format_row : Refusal → List ℕ
format_row r = format_word ++ refused_text r ++ (line_feed ∷ [])

-- none is longer: number, kind and id, each with a space; then leaf, answer and line feed
abbrev pub most_request : ℕ
most_request = most_decimal + 1 + length write_word + most_decimal + 1

abbrev pub most_row : ℕ
most_row = most_request + most_decimal + 1 + (length record_word + record_len) + 1
