-- What the script's first two lines mean. Definitions go by the bytes of a line, without its line feed. Assumes nothing.
use Rattle.std.specs.Prelude.{ℕ, zero, suc, ◌+◌, ◌*◌, ◌-◌, min, Bool, cond, ◌&&◌, List, length, get_or, leb, eqb, Option, Some, None}
use Rattle.words.specs.Bytes.{splice}
use Rattle.sizes.specs.Sizes.{most_ids}
use Rattle.text.specs.Text.{store_word, start_word}
use Rattle.text.specs.Fronts.{begins, most_digits, values, values_len, are_there, numbers_in, rest_in}
use Rattle.setup.specs.declared.Store.{Store}

-- ---- `store ` L Z S N: L at most 3, S at most 255

abbrev pub most_shelf_height : ℕ
most_shelf_height = 3

abbrev pub most_byte : ℕ
most_byte = 255

-- a Z above a byte is out of range, as 255 is
abbrev pub store_by : ℕ → ℕ → ℕ → ℕ → Option Store
store_by l z s n = cond (leb l most_shelf_height && leb s most_byte) (Some (record { height = l; slots = min z most_byte; room = s; ids = n })) None

abbrev pub store_with : List ℕ → Option Store
store_with vs = store_by (get_or vs 0 0) (get_or vs 1 0) (get_or vs 2 0) (get_or vs 3 0)

abbrev pub store_of : List ℕ → Option Store
store_of xs =
    cond (begins xs store_word && are_there 4 (numbers_in (length store_word) xs) && eqb (length (rest_in (length store_word) 4 xs)) 0)
    (store_with (values 4 (numbers_in (length store_word) xs)))
    None

-- ---- `start ` and exactly n leaves

-- nothing after the last; where there are none, the word alone
abbrev pub start_end : ℕ → ℕ → ℕ
start_end zero len = length start_word
start_end (suc n) len = length start_word - 1 + len

abbrev pub start_good : ℕ → List ℕ → Bool
start_good n xs =
    begins xs start_word && are_there n (numbers_in (length start_word) xs)
    && eqb (length xs) (start_end n (values_len n (numbers_in (length start_word) xs)))

-- the leaves that are then laid into a list
abbrev pub start_leaves : List ℕ → List ℕ → List ℕ
start_leaves leaves xs = cond (begins xs start_word) (splice leaves 0 (values (length leaves) (numbers_in (length start_word) xs))) leaves

-- no line that can be read is longer: that is `start ` and the most leaves, each of four digits
abbrev pub most_line : ℕ
most_line = length start_word - 1 + (1 + most_digits) * most_ids
