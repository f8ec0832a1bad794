-- Buckets of one level. Assumes nothing.
-- for sizes
use Prim.Native.Nat.{ℕ}
use mathlib.Core.Path.{◌≡◌, sym, ap, ◌∙◌}
use native.Mathlib.Omega.{arith}
use lib.Dec.{eqb}
use borrow.Author.Tests.{eq-eqb, ne_eqb, eqb-true, eqb-false}
use Rattle.words.proofs.Tests.{by_cases}
use Rattle.sizes.specs.Sizes.{bucket_no}

-- they are the same exactly where their places are
pub same_place : (k a b : ℕ) → eqb a b ≡ eqb (bucket_no k a) (bucket_no k b)
same_place k a b =
    by_cases (eqb a b)
    (λ e. e ∙ sym (eq-eqb (bucket_no k a) (bucket_no k b) (ap (bucket_no k) (eqb-true a b e))))
    (λ e. e ∙ sym (ne_eqb (bucket_no k a) (bucket_no k b) (λ f. eqb-false a b e (omega arith))))
