-- A desk written part by part, each right after the one before, is the parts and nothing else. Assumes nothing.
use Prim.Native.Nat.{ℕ, ◌+◌, ◌≤◌}
use mathlib.Core.Path.{◌≡◌, sym, ap, ◌∙◌}
use mathlib.Core.List.{List, ◌++◌, append_assoc}
use native.Mathlib.Nat.{zero-add}
use native.Mathlib.Omega.{arith}
use lib.ListN.{length, length-append}
use Rattle.words.specs.Bytes.{splice}
use Rattle.words.proofs.Splice.{splice-next, splice-whole}

-- the next part, at n, after the parts so far
next : (xs s t : List ℕ) (n : ℕ) → length s ≡ n → n ≤ length xs → splice (splice xs 0 s) n t ≡ splice xs 0 (s ++ t)
next xs s t n e h = let z : 0 + n ≡ n = zero-add n in ap (λ (k : ℕ). splice (splice xs 0 s) k t) (sym z) ∙ splice-next xs 0 s t n e (omega arith)

pub parts-written : (xs p a k z q u w : List ℕ) {b r c d e n : ℕ} → length p ≡ n → n + length a ≡ b → b + length k ≡ r → r + length z ≡ c → c + length q ≡ d → d + length u ≡ e → e + length w ≡ length xs
    → splice (splice (splice (splice (splice (splice (splice xs 0 p) n a) b k) r z) c q) d u) e w ≡ p ++ (a ++ (k ++ (z ++ (q ++ (u ++ w)))))
parts-written xs p a k z q u w {b} {r} {c} {d} {e} {n} lp la lk lz lq lu lw =
    let s1 : List ℕ = p ++ a in
    let s2 : List ℕ = s1 ++ k in
    let s3 : List ℕ = s2 ++ z in
    let s4 : List ℕ = s3 ++ q in
    let s5 : List ℕ = s4 ++ u in
    let n1 : length s1 ≡ b = omega (arith, length-append p a) in
    let n2 : length s2 ≡ r = omega (arith, length-append s1 k) in
    let n3 : length s3 ≡ c = omega (arith, length-append s2 z) in
    let n4 : length s4 ≡ d = omega (arith, length-append s3 q) in
    let n5 : length s5 ≡ e = omega (arith, length-append s4 u) in
    let n6 : length (s5 ++ w) ≡ length xs = omega (arith, length-append s5 w) in
    ap (λ (l : List ℕ). splice (splice (splice (splice (splice l b k) r z) c q) d u) e w) (next xs p a n lp (omega arith))
    ∙ ap (λ (l : List ℕ). splice (splice (splice (splice l r z) c q) d u) e w) (next xs s1 k b n1 (omega arith))
    ∙ ap (λ (l : List ℕ). splice (splice (splice l c q) d u) e w) (next xs s2 z r n2 (omega arith))
    ∙ ap (λ (l : List ℕ). splice (splice l d u) e w) (next xs s3 q c n3 (omega arith))
    ∙ ap (λ (l : List ℕ). splice l e w) (next xs s4 u d n4 (omega arith))
    ∙ next xs s5 w e n5 (omega arith)
    ∙ splice-whole xs (s5 ++ w) n6
    ∙ simp append_assoc
