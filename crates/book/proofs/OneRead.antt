-- One read of a row: what the request is known for gives its column, or the store's refusal. Assumes nothing.
use Rattle.verdicts.specs.declared.counts.Cell.{Cell}
use Rattle.std.specs.Prelude.{Result, Err, Ok}
use Prim.Native.Nat.{ℕ}
use mathlib.Core.Path.{◌≡◌, sym, ap, ◌∙◌}
use mathlib.Core.List.{List}
use Rattle.sizes.specs.declared.Refusal.{Refusal}
use Rattle.desk.specs.declared.Kind.TheVariants.{Read}
use Rattle.store.specs.declared.Finished.{Finished}
use Rattle.requests.specs.Request.{Answered}
use Rattle.requests.specs.Request.{requested, request_of}
use Rattle.verdicts.specs.Cells.{found_of}
use Rattle.book.specs.MatrixRow.{looked, found_by, looked_by, read_of}

module _ (chapter : ℕ) (desk tree path buffer : List ℕ) (id draw : ℕ) {a : Answered} {d t p b : List ℕ}
    (e : requested a d t p b ≡ request_of desk tree path buffer Read id draw) where
  looked-at : {r : Result Cell Refusal} → r ≡ found_by chapter a b → looked r d t p b ≡ read_of chapter desk tree path buffer id draw
  unfolding read_of
  looked-at h = ap (λ (r : Result Cell Refusal). looked r d t p b) h ∙ ap (looked_by chapter) e

  pub read-refused : {q : Refusal} → a ≡ Err q → looked (Err q) d t p b ≡ read_of chapter desk tree path buffer id draw
  read-refused h = looked-at (sym (ap (λ (x : Answered). found_by chapter x b) h))

  pub read-finished : {leaf : ℕ} {f : Result Finished Refusal} {r : Result Cell Refusal} → a ≡ Ok (leaf, f) → r ≡ found_of chapter f b → looked r d t p b ≡ read_of chapter desk tree path buffer id draw
  read-finished h k = looked-at (k ∙ sym (ap (λ (x : Answered). found_by chapter x b) h))
