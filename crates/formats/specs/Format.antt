-- Format: a good desk with nothing written, or a refusal, on every input. Assumes nothing.
use Rattle.std.specs.Prelude.{ℕ, Bool, not, ◌&&◌, List, [], ◌∷◌, ◌++◌, length, get_or, ltb, eqb, Err, Ok, Result}
use Rattle.words.specs.Bytes.{zeros}
use Rattle.words.specs.Numbers.{bytes_of}
use Rattle.words.specs.Tests.{all}
use Rattle.sizes.specs.Sizes.{sized, sizes_good, ids_good, leaves, desk_len, key_len, digest_len}
use Rattle.sizes.specs.Refusals.{number_of, first_of}
use Rattle.sizes.specs.declared.Refusal.{Refusal}
use Rattle.sizes.specs.declared.Refusal.TheVariants.{BadLeaf, BadLength, BadSize}
use Rattle.desk.specs.declared.Shape.{Shape}
use Rattle.desk.specs.Layout.{shape_by, contents, c_len, e_len}
use Rattle.desk.specs.Status.{ready_status, stopped_or}

-- ---- the refusals, in order; L, Z, S and N are given as l, z, room and n

-- every starting leaf is a leaf
abbrev pub are_leaves : ℕ → List ℕ → Bool
are_leaves most starts = all (length starts) (λ i. ltb (get_or starts i 0) most)

abbrev pub format_rows : List ℕ → ℕ → ℕ → ℕ → ℕ → List ℕ → List ℕ → List (Bool × Refusal)
format_rows desk l z room n key starts =
    (not (sizes_good (sized l z) && ids_good n), BadSize)
    ∷ (not (eqb (length desk) (desk_len n room) && eqb (length starts) n && eqb (length key) key_len), BadLength)
    ∷ (not (are_leaves (leaves (sized l z)) starts), BadLeaf)
    ∷ []

unfoldable pub format_checked : List ℕ → ℕ → ℕ → ℕ → ℕ → List ℕ → List ℕ → Result Unit Refusal
format_checked desk l z room n key starts = first_of (format_rows desk l z room n key starts)

-- ---- the desk: status 0, root written 0, root digest zero, no request, marks 0, empty stash

abbrev pub new_shape : ℕ → ℕ → Shape
new_shape n room = shape_by n room

abbrev pub head_bytes : ℕ → ℕ → ℕ → ℕ → List ℕ
head_bytes l z room n = l ∷ z ∷ room ∷ ready_status ∷ 0 ∷ 0 ∷ bytes_of 2 n

-- body (d): each id's leaf, not marked
unfoldable pub unmarked : List ℕ → List ℕ
unmarked [] = []
unmarked (leaf ∷ starts) = (bytes_of 2 leaf ++ (0 ∷ [])) ++ unmarked starts

-- contents, then bodies (a) to (e)
unfoldable pub formatted : ℕ → ℕ → ℕ → ℕ → List ℕ → List ℕ → List ℕ
formatted l z room n key starts =
    contents (new_shape n room)
    ++ (head_bytes l z room n
    ++ (key ++ (zeros digest_len
    ++ (zeros (c_len (new_shape n room))
    ++ (unmarked starts
    ++ zeros (e_len (new_shape n room)))))))

-- ---- what format answers, and what the desk then holds

pub record FormatResult : Type 0 where
  pub answer : Result Unit Refusal
  pub desk : List ℕ

abbrev pub format_result : Result Unit Refusal → List ℕ → FormatResult
format_result a d = record { answer = a; desk = d }

abbrev pub format_of : List ℕ → ℕ → ℕ → ℕ → ℕ → List ℕ → List ℕ → FormatResult
format_of desk l z room n key starts =
    format_result (format_checked desk l z room n key starts) (stopped_or (format_checked desk l z room n key starts) desk (formatted l z room n key starts))

-- the paper's number of an answer, 0 where nothing is refused
abbrev pub format_value : Result Unit Refusal → ℕ
format_value (Ok tt) = 0
format_value (Err r) = number_of r
