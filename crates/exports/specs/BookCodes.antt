-- The numbers that the C interface of the verdict book answers with, and what it hands out beside them. Assumes nothing.
use Rattle.sizes.specs.declared.Refusal.{Refusal}
use Rattle.std.specs.Prelude.{ℕ, ◌≡◌, Bool, false, cond, List, [], ◌∷◌, ℤ, pos, None, Option, Some, Ok, Err, Result}
use Rattle.verdicts.specs.declared.Entry.{Entry}
use Rattle.verdicts.specs.declared.counts.Counts.{Counts}
use Rattle.verdicts.specs.declared.counts.Row.{Row}
use Rattle.verdicts.specs.Verdict.{verdict_number, is_verdict, verdict_of, MakeResult, making, make_of}
use Rattle.book.specs.MatrixRow.{RowResult}
use Rattle.exports.specs.Codes.{refusal_code}

-- ---- a record: its verdict is 1 to 4. 0 is none of them, so that memory nobody wrote is never a verdict

abbrev pub no_verdict : ℕ
no_verdict = 0

unfoldable pub reading_code : Option Entry → ℤ
reading_code (Some e) = pos (verdict_number e.verdict)
reading_code None = pos no_verdict

-- what a record says beside its verdict: chapter, suite year, the name's length
abbrev pub said_of : Entry → List ℕ
said_of e = e.chapter ∷ e.year ∷ e.length ∷ []

-- a bad record says nothing: what was lent stays
unfoldable pub said_or : Option Entry → List ℕ → List ℕ
said_or (Some e) lent = said_of e
said_or None lent = lent

-- ---- a record made of a verdict's number: of another number none is made

unfoldable pub made_of : List ℕ → ℕ → ℕ → ℕ → List ℕ → MakeResult
made_of lent verdict chapter year name = cond (is_verdict verdict) (make_of lent (verdict_of verdict) chapter year name) (making false lent)

-- the verdict, if a record was made
unfoldable pub made_code : ℕ → Bool → ℤ
made_code verdict made = pos (cond made verdict no_verdict)

-- ---- a row. 0 is no answer of it, so that memory nobody wrote is never a row

abbrev pub complete_code : ℕ
complete_code = 1

abbrev pub incomplete_code : ℕ
incomplete_code = 2

unfoldable pub row_code : Result Row Refusal → ℤ
row_code (Err r) = refusal_code r
row_code (Ok row) = pos (cond row.complete complete_code incomplete_code)

-- the six counts, in this order
abbrev pub six_of : Counts → List ℕ
six_of c = c.passed ∷ c.failed ∷ c.skipped ∷ c.errors ∷ c.bad ∷ c.not_run ∷ []

-- beside a refusal there are none: what was lent stays
unfoldable pub counts_or : Result Row Refusal → List ℕ → List ℕ
counts_or (Err r) lent = lent
counts_or (Ok row) lent = six_of row.counts

-- a row's number, and what desk, tree and the counts, which were lent as `lent`, then hold
pub record RowAnswers (number : ℤ) (desk tree counts lent : List ℕ) (due : RowResult) : Type 0 where
  pub number_is : number ≡ row_code due.answer
  pub desk_is : desk ≡ due.desk
  pub tree_is : tree ≡ due.tree
  pub counts_is : counts ≡ counts_or due.answer lent
