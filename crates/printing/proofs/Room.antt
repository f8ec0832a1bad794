-- How long what is printed can be: a number below 10,000 has at most four digits. Assumes nothing.
use Prim.Native.Nat.{ℕ, zero, suc, ◌+◌, ◌*◌, ◌/◌, ◌%◌, ◌^◌, ◌≤◌, ◌<◌}
use mathlib.Core.List.{[], ◌∷◌}
use native.Mathlib.Nat.{pow-suc}
use native.Mathlib.Omega.{arith}
use borrow.Author.Tests.{lt-ltb}
use lib.ListN.{length, length-append}
use lib.Dec.{ltb}
use Rattle.words.proofs.Tests.{by_cases}
use Rattle.text.specs.Fronts.{zero_digit, most_digits}
use Rattle.listing.specs.Listing.{digits_up_to, decimal, most_decimal}
use Rattle.listing.specs.Writer.{Adds}
use Rattle.listing.specs.declared.writer.Writer.{Writer}

-- a number below the power k + 1 of ten has at most k + 1 digits
digits-few : (k n x : ℕ) → x < 10 ^ (suc k) → length (digits_up_to n x) ≤ suc k
unfolding digits_up_to
digits-few k zero x h = omega arith
digits-few zero (suc n) x h = let l : x < 10 = omega (arith, h) in rw (lt-ltb x 10 l) (omega arith)
digits-few (suc k) (suc n) x h =
    let p : x < 10 ^ suc k * 10 = rw pow-suc at h in
    by_cases (ltb x 10) (λ e. rw e (omega arith))
    (λ e. rw e (omega (arith, length-append (digits_up_to n (x / 10)) ((zero_digit + x % 10) ∷ []), digits-few k n (x / 10) (omega (arith, p)))))

pub decimal-short : (x : ℕ) → x < 10000 → length (decimal x) ≤ most_digits
decimal-short x h = digits-few 3 most_decimal x h

-- the place after a number
pub after-decimal : {w v : Writer} (x : ℕ) → x < 10000 → Adds w (decimal x) v → v.at ≤ w.at + most_digits
after-decimal x h a = omega (arith, a.wrote.next_is, decimal-short x h)
