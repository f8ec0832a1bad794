-- An array made place by place: if each call gives the number that is wanted there, the array has those numbers. Assumes nothing.
use Rattle.std.proofs.Common.{◌≡◌, ℕ, zero, suc, ◌+◌, ◌<◌, List, get_or, ◌∙◌, subst, add-zero, zero-add, arith}
use Rattle.std.specs.Array.{IsFromFnResult, IsFromFnResultFrom}
use Rattle.std.specs.Fn.{Mut, Called}

module _ {F : Type 0} (g : Mut F (ℕ × Unit {0}) ℕ) (want : ℕ → ℕ) (f : F)
    (call : (i y : ℕ) (q : F) → Called g f (i, tt) y q → (y ≡ want i) × (q ≡ f)) where
  from : (ys : List ℕ) (n i : ℕ) → IsFromFnResultFrom g f ys i n → (j : ℕ) → j < n → get_or ys (i + j) 0 ≡ want (i + j)
  from ys zero i made j h = absurd (omega arith)
  from ys (suc n) i (q, y, at, called, rest) zero h = rw add-zero (at.1 0 ∙ (call i y q called).0)
  from ys (suc n) i (q, y, at, called, rest) (suc j) h =
      let k = call i y q called in
      let r = from ys n (i + 1) (subst (λ (p : F). IsFromFnResultFrom g p ys (i + 1) n) k.1 rest) j (omega arith) in
      let e : i + 1 + j ≡ i + suc j = omega arith in
      rw e at r

  pub made : (ys : List ℕ) (n : ℕ) → IsFromFnResult g f ys n → (j : ℕ) → j < n → get_or ys j 0 ≡ want j
  made ys n m j h = rw zero-add at (from ys n 0 m.each j h)
