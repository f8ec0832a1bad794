-- The words of a hash value as bytes. Assumes nothing.
use Rattle.std.proofs.Common.{◌≡◌, ℕ, ◌+◌, ◌*◌, ◌<◌, ◌≤◌, List, [], ◌∷◌, ◌++◌, length, get_or, take, drop, sym, ap, ◌∙◌, append_assoc, append-nil, mul-suc, add-one, length-append, length-take-le, take-suc, take_at}
use Rattle.words.specs.Bytes.{splice}
use Rattle.words.specs.Numbers.{big_bytes_of}
use Rattle.words.proofs.Numbers.{length-big_bytes_of}
use Rattle.digest_sha2.specs.Sha2.{all_bytes}

-- for words: what stands before the end of what is laid in
pub take-spliced : (xs : List ℕ) (at : ℕ) (ys : List ℕ) (n : ℕ) → at ≤ length xs → at + length ys ≡ n → take n (splice xs at ys) ≡ take at xs ++ ys
unfolding splice
take-spliced xs at ys n h e =
    let l : length (take at xs ++ ys) ≡ n = length-append (take at xs) ys ∙ rw (length-take-le at xs h) e in
    ap (take n) (sym (append_assoc (take at xs) ys (drop (at + length ys) xs))) ∙ take_at (take at xs ++ ys) (drop (at + length ys) xs) n l

all_snoc : (n : ℕ) (xs : List ℕ) (x : ℕ) → all_bytes n (xs ++ (x ∷ [])) ≡ all_bytes n xs ++ big_bytes_of n x
unfolding all_bytes
all_snoc n [] x = append-nil (big_bytes_of n x)
all_snoc n (y ∷ xs) x = rw (all_snoc n xs x, append_assoc)

-- one word more, laid behind those before it
pub all_more : (n : ℕ) (s d : List ℕ) (i : ℕ) → i < length s → n * i ≤ length d → take (n * i) d ≡ all_bytes n (take i s)
    → take (n * (i + 1)) (splice d (n * i) (big_bytes_of n (get_or s i 0))) ≡ all_bytes n (take (i + 1) s)
all_more n s d i h l p =
    let e : n * i + length (big_bytes_of n (get_or s i 0)) ≡ n * (i + 1) = rw (length-big_bytes_of n (get_or s i 0), add-one) (sym (mul-suc n i)) in
    take-spliced d (n * i) (big_bytes_of n (get_or s i 0)) (n * (i + 1)) l e ∙ rw (p, add-one, take-suc s i 0 h, all_snoc)
