-- What a line of requests means, and the record of its text. Definitions go by the bytes of the line, without its line feed. Assumes nothing.
use Rattle.std.specs.Prelude.{ℕ, ◌-◌, Bool, true, cond, ◌&&◌, List, [], ◌∷◌, ◌++◌, length, drop, get_or, leb, eqb, Option, Some, None}
use Rattle.words.specs.Bytes.{zeros}
use Rattle.sizes.specs.Sizes.{record_len}
use Rattle.desk.specs.declared.Kind.{Kind}
use Rattle.desk.specs.declared.Kind.TheVariants.{Read, Write}
use Rattle.text.specs.Text.{space, write_word, read_word}
use Rattle.text.specs.Fronts.{before, begins, values, are_there, numbers_in, rest_in}
use Rattle.script.specs.declared.Request.{Request}

-- ---- `write ` id leaf text, and `read ` id leaf

-- text: 0 to 64 bytes without zeros
abbrev pub text_good : List ℕ → Bool
text_good text = leb (length text) record_len && eqb (length (before 0 text)) (length text)

-- what stands after the leaf: of a read nothing; of a write one space and the text. Where the text is empty, the space may be missing
abbrev pub rest_good : Kind → List ℕ → Bool
rest_good Read rest = eqb (length rest) 0
rest_good Write [] = true
rest_good Write (x ∷ text) = eqb x space && text_good text

-- a request after a word of w bytes: kind, id, leaf, and where the text stands, up to the line's end
abbrev pub request_after : Kind → ℕ → List ℕ → Option Request
request_after kind w xs =
    cond (are_there 2 (numbers_in w xs) && rest_good kind (rest_in w 2 xs))
    (Some (record { kind = kind; id = get_or (values 2 (numbers_in w xs)) 0 0; leaf = get_or (values 2 (numbers_in w xs)) 1 0; text = length xs - length (drop 1 (rest_in w 2 xs)) }))
    None

abbrev pub request_of : List ℕ → Option Request
request_of xs =
    cond (begins xs write_word) (request_after Write (length write_word) xs)
    (cond (begins xs read_word) (request_after Read (length read_word) xs) None)

-- the record of a text: padded with zeros
abbrev pub record_of : List ℕ → List ℕ
record_of text = text ++ zeros (record_len - length text)
