-- What the verdict book's functions answer, by what was read, made and counted. Assumes nothing.
use Rattle.sizes.specs.declared.Refusal.{Refusal}
use Rattle.std.specs.Prelude.{None, Option, Some, Ok, Err, Result}
use Prim.Native.Nat.{ℕ, ◌^◌, ◌<◌}
use mathlib.Core.Path.{◌≡◌, refl, sym, ap, ◌∙◌}
use mathlib.Core.Bool.{Bool, true, false, cond}
use mathlib.Core.List.{List}
use lib.IntN.{ℤ, pos}
use mir.Syntax.{w32}
use mir.Val.{to_z, of_z}
use mir.Facts.{to_z_pos}
use Rattle.verdicts.specs.declared.Entry.{Entry}
use Rattle.verdicts.specs.declared.counts.Row.{Row}
use Rattle.verdicts.specs.Verdict.{verdict_number, is_verdict, verdict_of, MakeResult, making, make_of}
use Rattle.exports.specs.Codes.{Answered}
use Rattle.exports.specs.BookCodes.{no_verdict, reading_code, said_of, said_or, made_of, made_code, row_code, complete_code, incomplete_code}
use Rattle.exports.proofs.Signed.{code-back}

-- ---- reading

module _ {r : Option Entry} (lent : List ℕ) where
  pub read-good : (e : Entry) → r ≡ Some e → {n : ℕ} → n < 2 ^ 31 → n ≡ verdict_number e.verdict → Answered (to_z w32 n) (said_of e) (reading_code r) (said_or r lent)
  unfolding reading_code said_or
  read-good e h s k =
      record {
        number_is = to_z_pos w32 s ∙ ap pos k ∙ sym (ap reading_code h);
        buffer_is = sym (ap (λ (t : Option Entry). said_or t lent) h);
      }

  pub read-bad : r ≡ None → Answered (pos no_verdict) lent (reading_code r) (said_or r lent)
  unfolding reading_code said_or
  read-bad h =
      record {
        number_is = sym (ap reading_code h);
        buffer_is = sym (ap (λ (t : Option Entry). said_or t lent) h);
      }

-- ---- making

module _ (lent : List ℕ) (verdict chapter year : ℕ) (name : List ℕ) where
  pub of_none : is_verdict verdict ≡ false → made_of lent verdict chapter year name ≡ making false lent
  unfolding made_of
  of_none h = rw h

  pub of-verdict : is_verdict verdict ≡ true → made_of lent verdict chapter year name ≡ make_of lent (verdict_of verdict) chapter year name
  unfolding made_of
  of-verdict h = rw h

module _ (verdict : ℕ) {due : MakeResult} {b : List ℕ} where
  pub not_made : due ≡ making false b → Answered (pos no_verdict) b (made_code verdict due.made) due.buffer
  unfolding made_code
  not_made e =
      record {
        number_is = sym (ap (λ (t : MakeResult). made_code verdict t.made) e);
        buffer_is = sym (ap (λ (t : MakeResult). t.buffer) e);
      }

  pub made : verdict < 2 ^ 31 → due ≡ making true b → Answered (to_z w32 verdict) b (made_code verdict due.made) due.buffer
  unfolding made_code
  made s e =
      record {
        number_is = to_z_pos w32 s ∙ sym (ap (λ (t : MakeResult). made_code verdict t.made) e);
        buffer_is = sym (ap (λ (t : MakeResult). t.buffer) e);
      }

-- ---- a row: its number fits, so that it is read back as it was

pub row_back : (r : Result Row Refusal) {z : ℤ} → z ≡ row_code r → to_z w32 (of_z w32 z) ≡ row_code r
unfolding row_code
row_back (Err q) e = code-back q e
row_back (Ok row) e = ap (λ (z : ℤ). to_z w32 (of_z w32 z)) e ∙ either row.complete
  where
    either : (b : Bool) → to_z w32 (of_z w32 (pos (cond b complete_code incomplete_code))) ≡ pos (cond b complete_code incomplete_code)
    either true = refl
    either false = refl
