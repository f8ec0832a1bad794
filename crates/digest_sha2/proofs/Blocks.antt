-- The hash value after some blocks: of a list with more behind it, of two lists one after the other, and after one block more.
-- Assumes nothing.
use Rattle.std.proofs.Common.{◌≡◌, ℕ, zero, suc, ◌+◌, ◌*◌, ◌≤◌, List, ◌++◌, length, take, drop, sym, refl, ap, ◌∙◌, add-zero, add-suc, mul-suc, mul-add, add-one, arith, take-append-drop}
use Rattle.words.specs.Bytes.{part}
use Rattle.words.proofs.Splice.{part_left, part_right}
use Rattle.digest_sha2.specs.Sha2.{Sha2, compress, after}

pub after-prefix : (v : Sha2) (s : List ℕ) (n : ℕ) (xs ys : List ℕ) → v.block * n ≤ length xs → after v s n (xs ++ ys) ≡ after v s n xs
unfolding after
after-prefix v s zero xs ys h = refl
after-prefix v s (suc n) xs ys h =
    let e : v.block * suc n ≡ v.block * n + v.block = mul-suc v.block n in
    rw (after-prefix v s n xs ys (omega arith), part_left xs ys (v.block * n) v.block (omega arith))

-- of the beginning alone
pub after-take : (v : Sha2) (s : List ℕ) (n m : ℕ) (xs : List ℕ) → v.block * n ≤ length (take m xs) → after v s n xs ≡ after v s n (take m xs)
after-take v s n m xs h = ap (after v s n) (sym (take-append-drop m xs)) ∙ after-prefix v s n (take m xs) (drop m xs) h

pub after-append : (v : Sha2) (s : List ℕ) (m n : ℕ) (xs ys : List ℕ) → length xs ≡ v.block * m → after v s (m + n) (xs ++ ys) ≡ after v (after v s m xs) n ys
unfolding after
after-append v s m zero xs ys h = rw add-zero (after-prefix v s m xs ys (omega arith))
after-append v s m (suc n) xs ys h =
    let e : v.block * (m + n) ≡ length xs + v.block * n = mul-add v.block m n ∙ ap (λ (k : ℕ). k + v.block * n) (sym h) in
    rw (add-suc, after-append v s m n xs ys h, part_right xs ys (v.block * n) (v.block * (m + n)) v.block e)

pub after_more : (v : Sha2) (s₀ s r bs : List ℕ) (i : ℕ) → s ≡ after v s₀ i bs → r ≡ compress v s (part bs (v.block * i) v.block) → r ≡ after v s₀ (i + 1) bs
unfolding after
after_more v s₀ s r bs i p q = rw (add-one, ← p) q
