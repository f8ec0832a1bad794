-- Small numbers as signed ones of 32 bits, and their negatives. Assumes nothing.
use Rattle.std.specs.Prelude.{Err, Ok, Result}
use mathlib.Core.Path.{◌≡◌, refl, ap, ◌∙◌}
use Prim.Native.Nat.{ℕ, zero, suc, ◌-◌, ◌^◌, ◌≤◌, ◌<◌}
use native.Mathlib.Omega.{arith}
use lib.IntN.{ℤ, pos, neg_ℤ, ◌-ℤ◌}
use borrow.Author.Tests.{le-leb}
use mir.Syntax.{w32}
use mir.Val.{SFits, to_z, of_z}
use mir.Facts.{to_z_pos, to_z-of_z}
use Rattle.sizes.specs.declared.Refusal.{Refusal}
use Rattle.sizes.specs.declared.Refusal.TheVariants.{BadDesk, Stopped, Open, NotOpen, BadId, BadLeaf, BadLength, BadSize, Forged, Worn, Full}
use Rattle.sizes.specs.Refusals.{number_of}
use Rattle.exports.specs.Codes.{refusal_code, outcome_code}

zero_minus : (n : ℕ) → pos 0 -ℤ pos n ≡ neg_ℤ (pos n)
zero_minus zero = refl
zero_minus (suc n) = let e : suc n - 1 ≡ n = omega arith in rw (le-leb 1 (suc n) (omega arith), e)

pub minus_is : (n : ℕ) → n < 2 ^ 31 → pos 0 -ℤ to_z w32 n ≡ neg_ℤ (pos n)
minus_is n h = ap (λ (z : ℤ). pos 0 -ℤ z) (to_z_pos w32 h) ∙ zero_minus n

pub minus-fits : (n : ℕ) → n < 2 ^ 31 → SFits w32 (neg_ℤ (pos n))
minus-fits zero h = record { sfits = omega arith }
minus-fits (suc n) h = record { sfits = omega arith }

pub plus-fits : (n : ℕ) → n < 2 ^ 31 → SFits w32 (pos n)
plus-fits n h = record { sfits = h }

-- a number that fits is read back as it was
pub back : {z : ℤ} → SFits w32 z → to_z w32 (of_z w32 z) ≡ z
back f = to_z-of_z {w = w32} f

-- a refusal's number is one of eleven
pub number-most : (r : Refusal) → number_of r ≤ 11
number-most BadDesk = omega arith
number-most Stopped = omega arith
number-most Open = omega arith
number-most NotOpen = omega arith
number-most BadId = omega arith
number-most BadLeaf = omega arith
number-most BadLength = omega arith
number-most BadSize = omega arith
number-most Forged = omega arith
number-most Worn = omega arith
number-most Full = omega arith

pub refusal-fits : (r : Refusal) → SFits w32 (refusal_code r)
unfolding refusal_code
refusal-fits r = minus-fits (number_of r) (omega (arith, number-most r))

pub code-back : (r : Refusal) {z : ℤ} → z ≡ refusal_code r → to_z w32 (of_z w32 z) ≡ refusal_code r
code-back r e = ap (λ (z : ℤ). to_z w32 (of_z w32 z)) e ∙ back (refusal-fits r)

-- so is the code of an outcome read back as it was
pub outcome-back : (o : Result Unit Refusal) {z : ℤ} → z ≡ outcome_code o → to_z w32 (of_z w32 z) ≡ outcome_code o
unfolding outcome_code
outcome-back (Ok tt) e = ap (λ (z : ℤ). to_z w32 (of_z w32 z)) e
outcome-back (Err r) e = code-back r e
