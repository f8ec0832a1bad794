-- What stands after the leaf of a line of requests, and a text laid into a record. Assumes nothing.
use Prim.Native.Nat.{ℕ, ◌-◌, ◌≤◌, ◌<◌}
use mathlib.Core.Path.{◌≡◌, refl, sym, ap, ◌∙◌}
use mathlib.Core.Bool.{true, not, ◌&&◌}
use mathlib.Core.List.{List, [], ◌∷◌}
use native.Mathlib.Nat.{zero-add}
use native.Mathlib.Omega.{arith}
use borrow.Author.Tests.{le-leb}
use lib.ListN.{length, take, drop, get_or, length-append}
use lib.Dec.{eqb}
use lib.Pointwise.{pointwise}
use Rattle.std.specs.List.{list_any}
use Rattle.words.specs.Bytes.{splice, zeros}
use Rattle.words.proofs.Splice.{splice-whole, splice-next, length-zeros}
use Rattle.sizes.specs.Sizes.{record_len}
use Rattle.desk.specs.declared.Kind.TheVariants.{Write}
use Rattle.words.proofs.Tests.{and_left}
use Rattle.text.specs.Text.{space}
use Rattle.text.proofs.Fronts.{absent-before}
use Rattle.script.specs.Lines.{text_good, rest_good, record_of}

-- ---- what stands after the leaf

pub rest-empty : (xs : List ℕ) → length xs ≡ 0 → true ≡ rest_good Write xs
rest-empty [] h = refl
rest-empty (x ∷ xs) h = absurd (omega arith)

pub rest-text : (xs : List ℕ) → 0 < length xs → rest_good Write xs ≡ (eqb (get_or xs 0 0) space && text_good (drop 1 xs))
rest-text [] h = absurd (omega arith)
rest-text (x ∷ xs) h = refl

-- a space, and a text that the library finds no zero in
pub rest-spaced : (xs text : List ℕ) → pointwise eqb (take 1 xs) (space ∷ []) ≡ true → text ≡ drop 1 xs → length text ≤ record_len
    → not (list_any (λ x. eqb x 0) text) ≡ rest_good Write xs
rest-spaced [] text e d h = absurd (cc)
rest-spaced (x ∷ xs) text e d h =
    rw d (rw (and_left (eqb x space) true e, le-leb (length xs) record_len (rw d at h)) (absent-before 0 xs))

-- ---- a text laid into a record

pub laid-text : (rec text : List ℕ) → length rec ≡ record_len → length text ≤ record_len
    → splice (splice rec 0 text) (length text) (zeros (record_len - length text)) ≡ record_of text
laid-text rec text h k =
    ap (λ (j : ℕ). splice (splice rec 0 text) j (zeros (record_len - length text))) (sym (zero-add (length text)))
    ∙ splice-next rec 0 text (zeros (record_len - length text)) (length text) refl (omega arith)
    ∙ splice-whole rec (record_of text) (omega (arith, length-append text (zeros (record_len - length text)), length-zeros (record_len - length text)))
