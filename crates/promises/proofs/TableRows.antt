-- The plain table's rows: a cell is passed exactly if a pass record of the chapter is held, and as many are counted as have passed. Assumes nothing.
use Rattle.std.specs.Prelude as std
use Rattle.std.specs.Prelude.{None, Some}
use Rattle.verdicts.specs.declared.Entry.{Entry}
use Prim.Native.Nat.{ℕ, zero, suc, ◌+◌, ◌<◌, ◌≤◌}
use mathlib.Core.Path.{◌≡◌, refl, sym, ap, ap₂, ◌∙◌}
use mathlib.Core.Bool.{Bool, cond}
use mathlib.Core.Option.{Option, none, some}
use mathlib.Core.List.{List}
use native.Mathlib.Omega.{arith}
use lib.Dec.{eqb}
use borrow.Author.Tests.{eqb-true, eq-eqb}
use Rattle.words.proofs.Tests.{by_cases, below_or}
use Rattle.keeping.specs.Table.{Table}
use Rattle.verdicts.specs.declared.Verdict.{Verdict}
use Rattle.verdicts.specs.declared.Verdict.TheVariants as verdict
use Rattle.verdicts.specs.declared.counts.Cell.{Cell}
use Rattle.verdicts.specs.declared.counts.Cell.TheVariants.{Passed, Failed, Skipped, Errors, Bad, NotRun}
use Rattle.verdicts.specs.declared.counts.Counts.{Counts}
use Rattle.verdicts.specs.Verdict.{reading_of}
use Rattle.verdicts.specs.Cells.{verdict_cell, reading_cell, record_cell, plus}
use Rattle.promises.specs.Rows.{table_cell, table_counts, PassHeld}

-- ---- a cell is passed exactly if a pass record of the chapter is held

not-bad : Bad ≡ Passed → ⊥
not-bad h = let z : ◌≡◌ {A = ℕ} 0 1 = cc in omega arith

pass-verdict : (v : Verdict) → verdict_cell v ≡ Passed → v ≡ verdict.Pass
pass-verdict verdict.Pass h = refl
pass-verdict verdict.Fail h = let z : ◌≡◌ {A = ℕ} 0 1 = cc in absurd (omega arith)
pass-verdict verdict.Skipped h = let z : ◌≡◌ {A = ℕ} 0 1 = cc in absurd (omega arith)
pass-verdict verdict.Error h = let z : ◌≡◌ {A = ℕ} 0 1 = cc in absurd (omega arith)

pass-reading : (chapter : ℕ) (rec : List ℕ) (r : std.Option Entry) → reading_of rec ≡ r → reading_cell chapter r ≡ Passed → PassHeld chapter (some rec)
pass-reading chapter rec (Some e) k h =
    by_cases (eqb e.chapter chapter)
    (λ t.
    record {
      bytes = rec;
      says = e;
      held_is = refl;
      reads = k;
      passes = pass-verdict e.verdict (sym (ap (λ (x : Bool). cond x (verdict_cell e.verdict) Bad) t) ∙ h);
      of_chapter = eqb-true e.chapter chapter t;
    })
    (λ t. absurd (not-bad (sym (ap (λ (x : Bool). cond x (verdict_cell e.verdict) Bad) t) ∙ h)))
pass-reading chapter rec None k h = absurd (not-bad h)

pub pass-held : (chapter : ℕ) (held : Option (List ℕ)) → table_cell chapter held ≡ Passed → PassHeld chapter held
unfolding record_cell
pass-held chapter none h = let z : ◌≡◌ {A = ℕ} 0 1 = cc in absurd (omega arith)
pass-held chapter (some rec) h = pass-reading chapter rec (reading_of rec) refl h

pub held-pass : (chapter : ℕ) (held : Option (List ℕ)) → PassHeld chapter held → table_cell chapter held ≡ Passed
unfolding record_cell
held-pass chapter held p =
    ap (table_cell chapter) p.held_is ∙ ap (reading_cell chapter) p.reads
    ∙ ap₂ (λ (x : Bool) (v : Verdict). cond x (verdict_cell v) Bad) (eq-eqb p.says.chapter chapter p.of_chapter) p.passes

-- ---- all of a table's cells are passed exactly if that many are counted

abbrev is_pass : Cell → ℕ
is_pass Passed = 1
is_pass Failed = 0
is_pass Skipped = 0
is_pass Errors = 0
is_pass Bad = 0
is_pass NotRun = 0

pass-or-less : (cell : Cell) → is_pass cell ≤ 1
pass-or-less Passed = omega arith
pass-or-less Failed = omega arith
pass-or-less Skipped = omega arith
pass-or-less Errors = omega arith
pass-or-less Bad = omega arith
pass-or-less NotRun = omega arith

is-pass : (cell : Cell) → is_pass cell ≡ 1 → cell ≡ Passed
is-pass Passed h = refl
is-pass Failed h = absurd (omega arith)
is-pass Skipped h = absurd (omega arith)
is-pass Errors h = absurd (omega arith)
is-pass Bad h = absurd (omega arith)
is-pass NotRun h = absurd (omega arith)

passed-plus : (cell : Cell) (c : Counts) → (plus cell c).passed ≡ c.passed + is_pass cell
passed-plus Passed c = refl
passed-plus Failed c = omega arith
passed-plus Skipped c = omega arith
passed-plus Errors c = omega arith
passed-plus Bad c = omega arith
passed-plus NotRun c = omega arith

-- one more cell: all have passed exactly if those before have, and this one
more-pass : (cell : Cell) (c : Counts) (n : ℕ) → c.passed ≤ n → (plus cell c).passed ≤ suc n
more-pass cell c n l = omega (arith, passed-plus cell c, pass-or-less cell)

pass-before : (cell : Cell) (c : Counts) (n : ℕ) → c.passed ≤ n → (plus cell c).passed ≡ suc n → (c.passed ≡ n) × (cell ≡ Passed)
pass-before cell c n l e =
    let p = passed-plus cell c in
    let q = pass-or-less cell in
    (omega arith, is-pass cell (omega arith))

module _ (chapter : ℕ) (table : Table) (first : ℕ) where
  abbrev cell_at : ℕ → Cell
  cell_at k = table_cell chapter (table (first + k))

  abbrev up_to : ℕ → Counts
  up_to n = table_counts chapter table first n

  no_more : (n : ℕ) → (up_to n).passed ≤ n
  no_more zero = omega arith
  no_more (suc n) = more-pass (cell_at n) (up_to n) n (no_more n)

  pub all-passed : (n : ℕ) → (up_to n).passed ≡ n → (k : ℕ) → k < n → cell_at k ≡ Passed
  all-passed zero e k l = absurd (omega arith)
  all-passed (suc n) e k l =
      let p = pass-before (cell_at n) (up_to n) n (no_more n) e in
      below_or k n (all-passed n p.0 k) (λ g. let i : k ≡ n = omega arith in ap cell_at i ∙ p.1)

  pub passed-all : (n : ℕ) → ((k : ℕ) → k < n → cell_at k ≡ Passed) → (up_to n).passed ≡ n
  passed-all zero h = refl
  passed-all (suc n) h =
      ap (λ (x : Cell). (plus x (up_to n)).passed) (h n (omega arith)) ∙ omega (arith, passed-all n (λ k l. h k (omega arith)))
