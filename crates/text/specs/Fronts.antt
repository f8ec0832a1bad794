-- What stands at the front of a text: the bytes before the first b, a word, a number, numbers in a row. Assumes nothing.
use Rattle.std.specs.Prelude.{ℕ, zero, suc, ◌+◌, ◌*◌, ◌-◌, ◌≤◌, Bool, cond, ◌&&◌, List, [], ◌∷◌, length, take, drop, get_or, leb, eqb, Option, Some, None}
use Rattle.words.specs.Bytes.{same}
use Rattle.text.specs.declared.Number.{Number}
use Rattle.text.specs.Text.{space}

-- the bytes of xs before the first b; all of them where there is none
unfoldable pub before : ℕ → List ℕ → List ℕ
before b [] = []
before b (x ∷ xs) = cond (eqb x b) [] (x ∷ before b xs)

-- xs begins with the bytes of a word
abbrev pub begins : List ℕ → List ℕ → Bool
begins xs word = same (take (length word) xs) word

-- ---- a number: one to four decimal digits of value at most 4,096

abbrev pub zero_digit : ℕ
zero_digit = 48

abbrev pub nine_digit : ℕ
nine_digit = 57

abbrev pub ten : ℕ
ten = 10

abbrev pub most_digits : ℕ
most_digits = 4

abbrev pub most_number : ℕ
most_number = 4096

abbrev pub is_digit : ℕ → Bool
is_digit x = leb zero_digit x && leb x nine_digit

-- the digits at the front of xs
unfoldable pub digits : List ℕ → List ℕ
digits [] = []
digits (x ∷ xs) = cond (is_digit x) (x ∷ digits xs) []

-- the value of digits, the highest first, after those of value v
unfoldable pub value : ℕ → List ℕ → ℕ
value v [] = v
value v (d ∷ ds) = value (v * ten + (d - zero_digit)) ds

-- n digits of value v, and the number at the front of xs
abbrev pub number_by : ℕ → ℕ → Option Number
number_by n v = cond (leb 1 n && leb n most_digits && leb v most_number) (Some (record { value = v; len = n })) None

abbrev pub number_of : List ℕ → Option Number
number_of xs = number_by (length (digits xs)) (value 0 (digits xs))

-- ---- n numbers, each after one space: the first after that of the line's word

abbrev pub spaced : List ℕ → Option Number
spaced xs = cond (eqb (get_or xs 0 0) space) (number_of (drop 1 xs)) None

-- what a number and those after it come to, by how many bytes it takes with its space
abbrev pub then_values : Option Number → (ℕ → List ℕ) → List ℕ
then_values (Some x) others = x.value ∷ others (1 + x.len)
then_values None others = []

abbrev pub then_len : Option Number → (ℕ → ℕ) → ℕ
then_len (Some x) others = 1 + x.len + others (1 + x.len)
then_len None others = 0

-- the values of those at the front of xs, at most n, and how many bytes they take
unfoldable pub values : ℕ → List ℕ → List ℕ
values zero xs = []
values (suc n) xs = then_values (spaced xs) (λ len. values n (drop len xs))

unfoldable pub values_len : ℕ → List ℕ → ℕ
values_len zero xs = 0
values_len (suc n) xs = then_len (spaced xs) (λ len. values_len n (drop len xs))

-- all n are there
abbrev pub are_there : ℕ → List ℕ → Bool
are_there n xs = eqb (length (values n xs)) n

abbrev pub taken_of : ℕ → List ℕ → Option ℕ
taken_of n xs = cond (are_there n xs) (Some (values_len n xs)) None

-- a place that was reached is inside
abbrev pub Inside : Option ℕ → ℕ → Type 0
Inside (Some n) end = n ≤ end
Inside None end = Unit

-- the numbers of a line after a word of w bytes, and what stands after n of them
abbrev pub numbers_in : ℕ → List ℕ → List ℕ
numbers_in w xs = drop (w - 1) xs

abbrev pub rest_in : ℕ → ℕ → List ℕ → List ℕ
rest_in w n xs = drop (values_len n (numbers_in w xs)) (numbers_in w xs)
