-- What a record that was made, and one of zeros, read as. Assumes nothing.
use Rattle.std.specs.Prelude.{None, Some}
use Prim.Native.Nat.{ℕ}
use mathlib.Core.Path.{◌≡◌, refl, sym, ap, ◌∙◌}
use mathlib.Core.List.{List}
use native.Mathlib.Omega.{arith}
use Rattle.words.specs.Bytes.{zeros}
use Rattle.sizes.specs.Sizes.{record_len}
use Rattle.verdicts.specs.declared.Verdict.{Verdict}
use Rattle.verdicts.specs.declared.Entry.{Entry}
use Rattle.verdicts.specs.Verdict.{good_record, entry_in, reading_of, record_of}
use Rattle.verdicts.proofs.Readable.{entry_read}
use Rattle.verdicts.proofs.Laws.{verdict-back}

pub good-bad : {A : Type 0} (e : Entry) → None ≡ Some e → A
good-bad e h = absurd (let z : ◌≡◌ {A = ℕ} 0 1 = cc in omega arith)

-- zeros are no record
pub zeros-bad : reading_of (zeros record_len) ≡ None
unfolding good_record
zeros-bad = refl

pub verdict-made : (v : Verdict) (chapter year : ℕ) (name : List ℕ) (e : Entry) → reading_of (record_of v chapter year name) ≡ Some e → e.verdict ≡ v
unfolding entry_in record_of
verdict-made v chapter year name e h = ap (λ (x : Entry). x.verdict) (sym (entry_read (record_of v chapter year name) e h).1) ∙ verdict-back v
