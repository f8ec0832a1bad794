-- Reading: what a text came to, and the pass of its sheet, give the answer. Assumes nothing.
use Prim.Native.Nat.{ℕ, ◌-◌}
use mathlib.Core.Path.{◌≡◌, sym, ap, ◌∙◌}
use mathlib.Core.List.{List}
use Rattle.sizes.specs.declared.Refusal.{Refusal}
use Rattle.book.specs.MatrixRow.{row_checked}
use Rattle.sheets.specs.Sheet.{empty_sheet}
use Rattle.taking.specs.declared.BadText.{BadText}
use Rattle.std.specs.Prelude.{Result, Ok, Err}
use Rattle.taking.specs.Taking.{TextResult, took, take_into, take_of}
use Rattle.tap.specs.declared.NotRead.{NotRead}
use Rattle.tap.specs.declared.NotRead.TheVariants as not_read
use Rattle.passing.specs.Passing.{sheet_passed, pass_of}
use Rattle.tap.specs.Tap.{read_in, taken_by, read_passed, read_text, read_taken, read_by, read_of}

module _ (desk tree : List ℕ) (chapter year first n : ℕ) (draws words : List ℕ) {sheet : List ℕ} (z : sheet ≡ empty_sheet n) {r : Result (Unit {0}) BadText} {s : List ℕ}
    (e : took r s ≡ take_into chapter year n sheet words) where
  by-text : {x : Result (Unit {0}) BadText} → r ≡ x → read_text x desk tree first draws s ≡ read_taken (take_of chapter year n words) desk tree first draws
  by-text h =
      ap (λ (x : Result (Unit {0}) BadText). read_text x desk tree first draws s) (sym h)
      ∙ ap (λ (x : TextResult). read_taken x desk tree first draws) (e ∙ ap (λ (y : List ℕ). take_into chapter year n y words) z)

  pub text-bad : {b : BadText} → r ≡ Err b → read_in (Err (not_read.Bad b)) desk tree ≡ read_taken (take_of chapter year n words) desk tree first draws
  text-bad h = by-text h

  pub text-good : r ≡ Ok tt → {o p : Result Unit Refusal} {d t y : List ℕ} → sheet_passed o d t y ≡ pass_of desk tree first draws s → o ≡ p
      → read_in (taken_by p) d t ≡ read_taken (take_of chapter year n words) desk tree first draws
  text-good h {d = d} {t = t} k g = ap (λ (x : Result Unit Refusal). read_in (taken_by x) d t) (sym g) ∙ ap read_passed k ∙ by-text h

-- ---- by the checks

module _ (desk tree : List ℕ) (chapter year first end : ℕ) (draws words : List ℕ) where
  by-checks : {o : Result Unit Refusal} → row_checked desk tree first end draws ≡ o → read_by o desk tree chapter year first end draws words ≡ read_of desk tree chapter year first end draws words
  by-checks h = ap (λ (x : Result Unit Refusal). read_by x desk tree chapter year first end draws words) (sym h)

  pub read-refused : {q : Refusal} → row_checked desk tree first end draws ≡ Err q → read_in (Err (not_read.Refused q)) desk tree ≡ read_of desk tree chapter year first end draws words
  read-refused h = by-checks h

  pub read_done : row_checked desk tree first end draws ≡ Ok tt → {a : Result Unit NotRead} {d t : List ℕ} → read_in a d t ≡ read_taken (take_of chapter year (end - first) words) desk tree first draws
      → read_in a d t ≡ read_of desk tree chapter year first end draws words
  read_done h k = k ∙ by-checks h
