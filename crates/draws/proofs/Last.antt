-- The leaf shown is the one last drawn for the id. Assumes nothing.
use mathlib.Core.Path.{◌≡◌, refl, sym}
use mathlib.Core.Bool.{cond}
use mathlib.Core.List.{List, [], ◌∷◌}
use Prim.Native.Nat.{ℕ, zero, suc, pred, ◌≤◌, ◌<◌}
use native.Mathlib.Nat.{le_of_suc-le-suc, not-suc-le-zero, suc_inj, suc-ne-zero}
use native.Mathlib.Omega.{arith}
use lib.ListN.{length, get_or, set, take, length-set}
use lib.Seq.{get_or-set_same, get_or-set_other}
use lib.Dec.{eqb}
use borrow.Author.Tests.{eqb-true, eqb-false}
use Rattle.words.proofs.Tests.{by_cases}
use Rattle.draws.specs.Draws.{AllGood, shown, last_drawn}

pub good-at : (n : ℕ) (us : List ℕ) → AllGood n us → (j : ℕ) → j < length us → (0 < get_or us j 0) × (get_or us j 0 ≤ n)
good-at n [] g j h = absurd (not-suc-le-zero h)
good-at n (u ∷ us) g zero h = (g.0, g.1)
good-at n (u ∷ us) g (suc j) h = good-at n us g.2 j (le_of_suc-le-suc h)

after-set : (p : List ℕ) (u v x : ℕ) → 0 < u → u ≤ length p → 0 < v → get_or (set p (pred v) x) (pred u) 0 ≡ cond (eqb u v) x (get_or p (pred u) 0)
after-set p u v x hu lu hv =
    by_cases (eqb u v)
    (λ e. rw (e, ← (eqb-true u v e)) (get_or-set_same p (pred u) x 0 (omega arith)))
    (λ e. rw e (get_or-set_other p (pred v) (pred u) x 0 (λ q. eqb-false u v e (omega arith))))

pub shown_last : (p us xs : List ℕ) → AllGood (length p) us → length xs ≡ length us → (j : ℕ) → j < length us
    → get_or (shown p us xs) j 0 ≡ last_drawn (get_or p (pred (get_or us j 0)) 0) (get_or us j 0) (take j us) (take j xs)
unfolding shown
shown_last p [] xs g l j h = absurd (not-suc-le-zero h)
shown_last p (u ∷ us) [] g l j h = absurd (suc-ne-zero _ (sym l))
shown_last p (u ∷ us) (x ∷ xs) g l zero h = refl
shown_last p (v ∷ us) (x ∷ xs) g l (suc j) h =
    let k = good-at (length p) us g.2 j (le_of_suc-le-suc h) in
    rw (← (after-set p (get_or us j 0) v x k.0 k.1 g.0))
    (shown_last (set p (pred v) x) us xs (rw length-set g.2) (suc_inj l) j (le_of_suc-le-suc h))
