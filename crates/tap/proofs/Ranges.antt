-- What is known of a range whose checks refuse nothing, and what comes of a sheet for it. Assumes nothing.
use Prim.Native.Nat.{ℕ, ◌-◌, ◌*◌, ◌≤◌}
use mathlib.Core.Path.{◌≡◌, ap, ◌∙◌}
use mathlib.Core.List.{List}
use native.Mathlib.Omega.{arith}
use lib.ListN.{length}
use Rattle.words.proofs.Splice.{length-zeros}
use Rattle.sizes.specs.Sizes.{record_len, most_ids}
use Rattle.book.proofs.Passed.{RowPassed}
use Rattle.sheets.specs.Sheet.{empty_sheet}

-- a range of ids that there are
pub record Good (first end : ℕ) : Type 0 where
  pub rising : first ≤ end
  pub some : 1 ≤ end - first
  pub few : end - first ≤ most_ids

pub good-range : {desk tree : List ℕ} {first end : ℕ} {draws : List ℕ} → RowPassed desk tree first end draws → Good first end
good-range p =
    record {
      rising = omega (arith, p.range.rising);
      some = omega (arith, p.range.rising);
      few = omega (arith, p.range.low, p.range.rising, p.range.high, p.known.head.ids_high);
    }

pub empty-long : (n : ℕ) {sheet : List ℕ} → sheet ≡ empty_sheet n → length sheet ≡ n * record_len
empty-long n e = ap (λ (xs : List ℕ). length xs) e ∙ length-zeros (n * record_len)
