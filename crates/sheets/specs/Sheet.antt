-- A sheet has a record's room for each number of a text, number 1 first. Zeros are no record, so that they stand where there is none. Assumes nothing.
use Rattle.std.specs.Prelude.{ℕ, ◌*◌, Bool, not, List, get_or, eqb}
use Rattle.words.specs.Bytes.{part, zeros}
use Rattle.sizes.specs.Sizes.{record_len}
use Rattle.verdicts.specs.Verdict.{verdict_at}

-- where entry i stands; i counts from 0
abbrev pub entry_start : ℕ → ℕ
entry_start i = i * record_len

abbrev pub entry_at : List ℕ → ℕ → List ℕ
entry_at sheet i = part sheet (entry_start i) record_len

-- no verdict has the number 0
abbrev pub is_record : List ℕ → Bool
is_record entry = not (eqb (get_or entry verdict_at 0) 0)

abbrev pub is_held : List ℕ → ℕ → Bool
is_held sheet i = is_record (entry_at sheet i)

abbrev pub empty_sheet : ℕ → List ℕ
empty_sheet n = zeros (n * record_len)
