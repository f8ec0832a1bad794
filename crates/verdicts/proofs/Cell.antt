-- A record's column, by what was read. Assumes nothing.
use Rattle.std.specs.Prelude.{None, Some}
use Prim.Native.Nat.{ℕ}
use mathlib.Core.Path.{◌≡◌, ap, ◌∙◌}
use mathlib.Core.List.{List}
use borrow.Author.Tests.{eq-eqb, ne_eqb}
use Rattle.verdicts.specs.declared.Entry.{Entry}
use Rattle.verdicts.specs.declared.counts.Cell.TheVariants.{Bad}
use Rattle.verdicts.specs.Verdict.{reading_of}
use Rattle.verdicts.specs.Cells.{verdict_cell, reading_cell, record_cell}

module _ (chapter : ℕ) (rec : List ℕ) where
  pub cell-bad : reading_of rec ≡ None → record_cell chapter rec ≡ Bad
  unfolding record_cell
  cell-bad h = ap (reading_cell chapter) h

  pub cell_other : (e : Entry) → reading_of rec ≡ Some e → (e.chapter ≡ chapter → ⊥) → record_cell chapter rec ≡ Bad
  unfolding record_cell
  cell_other e h k = ap (reading_cell chapter) h ∙ rw (ne_eqb e.chapter chapter k)

  pub cell-verdict : (e : Entry) → reading_of rec ≡ Some e → e.chapter ≡ chapter → record_cell chapter rec ≡ verdict_cell e.verdict
  unfolding record_cell
  cell-verdict e h k = ap (reading_cell chapter) h ∙ rw (eq-eqb e.chapter chapter k)
