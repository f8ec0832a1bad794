-- The six columns of a matrix row: which one a case stands in, and counts of them. Assumes nothing.
use Rattle.sizes.specs.declared.Refusal.{Refusal}
use Rattle.std.specs.Prelude.{ℕ, ◌+◌, Bool, cond, List, eqb, Err, Ok, Result, None, Option, Some}
use Rattle.store.specs.declared.Finished.{Finished}
use Rattle.store.specs.declared.Finished.TheVariants as finished
use Rattle.verdicts.specs.declared.Verdict.{Verdict}
use Rattle.verdicts.specs.declared.Verdict.TheVariants as verdict
use Rattle.verdicts.specs.declared.Entry.{Entry}
use Rattle.verdicts.specs.declared.counts.Cell.{Cell}
use Rattle.verdicts.specs.declared.counts.Cell.TheVariants.{Passed, Failed, Skipped, Errors, Bad, NotRun}
use Rattle.verdicts.specs.declared.counts.Counts.{Counts}
use Rattle.verdicts.specs.declared.counts.Row.{Row}
use Rattle.verdicts.specs.Verdict.{reading_of}

-- ---- which column

abbrev pub verdict_cell : Verdict → Cell
verdict_cell verdict.Pass = Passed
verdict_cell verdict.Fail = Failed
verdict_cell verdict.Skipped = Skipped
verdict_cell verdict.Error = Errors

-- a record of another chapter, or one that is no verdict, is bad
abbrev pub entry_cell : ℕ → Entry → Cell
entry_cell chapter e = cond (eqb e.chapter chapter) (verdict_cell e.verdict) Bad

abbrev pub reading_cell : ℕ → Option Entry → Cell
reading_cell chapter (Some e) = entry_cell chapter e
reading_cell chapter None = Bad

unfoldable pub record_cell : ℕ → List ℕ → Cell
record_cell chapter rec = reading_cell chapter (reading_of rec)

-- a read's column, by its answer and the record that it left in the buffer. Never is not run, and nothing else is. A read is never answered by Done
-- (`never_done`, in the promises); it would be no verdict
abbrev pub found_of : ℕ → Result Finished Refusal → List ℕ → Result Cell Refusal
found_of chapter (Ok finished.Record) rec = Ok (record_cell chapter rec)
found_of chapter (Ok finished.Never) rec = Ok NotRun
found_of chapter (Ok finished.Done) rec = Ok Bad
found_of chapter (Err q) rec = Err q

-- ---- counts

abbrev pub counts : ℕ → ℕ → ℕ → ℕ → ℕ → ℕ → Counts
counts p f s e b n = record { passed = p; failed = f; skipped = s; errors = e; bad = b; not_run = n }

abbrev pub no_counts : Counts
no_counts = counts 0 0 0 0 0 0

-- one more in a column
abbrev pub plus : Cell → Counts → Counts
plus Passed c = counts (c.passed + 1) c.failed c.skipped c.errors c.bad c.not_run
plus Failed c = counts c.passed (c.failed + 1) c.skipped c.errors c.bad c.not_run
plus Skipped c = counts c.passed c.failed (c.skipped + 1) c.errors c.bad c.not_run
plus Errors c = counts c.passed c.failed c.skipped (c.errors + 1) c.bad c.not_run
plus Bad c = counts c.passed c.failed c.skipped c.errors (c.bad + 1) c.not_run
plus NotRun c = counts c.passed c.failed c.skipped c.errors c.bad (c.not_run + 1)

-- what a row that was read whole answers
abbrev pub counted : Counts → Bool → Result Row Refusal
counted c complete = Ok (record { counts = c; complete = complete })

-- all six together
abbrev pub sum : Counts → ℕ
sum c = c.passed + c.failed + c.skipped + c.errors + c.bad + c.not_run
