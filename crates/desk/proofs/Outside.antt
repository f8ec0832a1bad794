-- A list that is another but for the bytes from a up to e: what is read elsewhere is the same. Assumes nothing.
-- for words
use Prim.Native.Nat.{ℕ, ◌+◌, ◌≤◌, ◌<◌}
use mathlib.Core.Path.{◌≡◌, sym, ap, ◌∙◌}
use mathlib.Core.Logic.{◌⊎◌, inl, inr, ⊎_elim}
use mathlib.Core.List.{List}
use native.Mathlib.Omega.{arith}
use lib.ListN.{length, get_or, set, drop, length-set, length-drop}
use lib.Seq.{get_or-set_other, get_or-drop, ext_get_or}
use Rattle.words.specs.Bytes.{part, splice}
use Rattle.words.specs.Numbers.{number}
use Rattle.words.proofs.Splice.{part_ext, part-splice, part-tail, splice-part, splice-in, length_part, length-splice, get_d-splice-before, get_d-splice-after}
use Rattle.words.proofs.Numbers.{number-ext}

pub record Outside (a e : ℕ) (xs ys : List ℕ) : Type 0 where
  pub size : length ys ≡ length xs
  pub off : (i : ℕ) → (i < a) ⊎ (e ≤ i) → get_or ys i 0 ≡ get_or xs i 0

-- one store, and a splice
pub set-outside : (xs : List ℕ) (i v : ℕ) → Outside i (i + 1) xs (set xs i v)
set-outside xs i v =
    record {
      size = length-set xs i v;
      off = λ j h. get_or-set_other xs i j v 0 (λ e. ⊎_elim (λ l. omega arith) (λ l. omega arith) h);
    }

pub splice-outside : (xs : List ℕ) (at : ℕ) (ys : List ℕ) → at + length ys ≤ length xs → Outside at (at + length ys) xs (splice xs at ys)
splice-outside xs at ys h =
    record {
      size = length-splice xs at ys h;
      off = λ i k. ⊎_elim (λ l. get_d-splice-before xs at ys i l (omega arith)) (λ l. get_d-splice-after xs at ys i l (omega arith)) k;
    }

module _ {a e : ℕ} {xs ys : List ℕ} (o : Outside a e xs ys) where
  pub number-outside : (n i : ℕ) → (i + n ≤ a) ⊎ (e ≤ i) → number n ys i ≡ number n xs i
  number-outside n i h =
      number-ext n ys xs i i (λ j k. o.off (i + j) (⊎_elim (λ l. inl (omega arith)) (λ l. inr (omega arith)) h))

  pub part-outside : (b n : ℕ) → b + n ≤ length xs → (b + n ≤ a) ⊎ (e ≤ b) → part ys b n ≡ part xs b n
  part-outside b n f h =
      part_ext ys xs b n (omega (arith, o.size)) o.size (λ i k l. o.off i (⊎_elim (λ m. inl (omega arith)) (λ m. inr (omega arith)) h))

  pub drop-outside : (b : ℕ) → e ≤ b → drop b ys ≡ drop b xs
  drop-outside b h =
      ext_get_or 0 (drop b ys) (drop b xs) (omega (arith, length-drop b ys, length-drop b xs, o.size))
      (λ i k. get_or-drop b ys i 0 ∙ o.off (b + i) (inr (omega arith)) ∙ sym (get_or-drop b xs i 0))

-- ---- a splice, seen from a part that it lies in, and from the end

pub part-splice-inside : (xs : List ℕ) (a n b : ℕ) (ys : List ℕ) → a + n ≤ length xs → b + length ys ≤ n → part (splice xs (a + b) ys) a n ≡ splice (part xs a n) b ys
part-splice-inside xs a n b ys h k =
    let p : List ℕ = part xs a n in
    let l : length p ≡ n = length_part xs a n h in
    let m : length (splice p b ys) ≡ n = length-splice p b ys (omega arith) ∙ l in
    ap (λ (zs : List ℕ). part (splice zs (a + b) ys) a n) (sym (splice-part xs a n h))
    ∙ ap (λ (zs : List ℕ). part zs a n) (splice-in xs a p b ys (omega arith) (omega arith))
    ∙ ap (part (splice xs a (splice p b ys)) a) (sym m) ∙ part-splice xs a (splice p b ys) (omega arith)

pub drop-splice-end : (xs : List ℕ) (a : ℕ) (ys : List ℕ) → a + length ys ≡ length xs → drop a (splice xs a ys) ≡ ys
drop-splice-end xs a ys h =
    sym (part-tail (splice xs a ys) a (length ys) (omega (arith, length-splice xs a ys (omega arith)))) ∙ part-splice xs a ys (omega arith)
