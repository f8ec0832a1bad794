-- A whole sheet, whose path begins as zeros. Assumes nothing.
use Rattle.std.specs.Prelude.{Result}
use Rattle.sizes.specs.declared.Refusal.{Refusal}
use Prim.Native.Nat.{ℕ}
use mathlib.Core.Path.{◌≡◌, ap, ◌∙◌}
use mathlib.Core.List.{List}
use Rattle.words.specs.Bytes.{zeros}
use Rattle.sizes.specs.Sizes.{path_len}
use Rattle.desk.specs.Readers.{sizes_of}
use Rattle.passing.specs.Passing.{passed, pass_from, sheet_passed, without_path, pass_of}

-- a pass whose path begins as zeros is the whole sheet's
pub sheet-passed : (desk tree : List ℕ) (first : ℕ) (draws sheet : List ℕ) {path : List ℕ} → path ≡ zeros (path_len (sizes_of desk))
    → {a : Result Unit Refusal} {d t p s : List ℕ} → passed a d t p s ≡ pass_from first 0 draws desk tree path sheet → sheet_passed a d t s ≡ pass_of desk tree first draws sheet
sheet-passed desk tree first draws sheet e h = ap without_path (h ∙ ap (λ (p : List ℕ). pass_from first 0 draws desk tree p sheet) e)
