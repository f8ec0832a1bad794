-- The hash value carried through the blocks of a list, one after another. Assumes nothing.
use Rattle.std.proofs.Common.{◌≡◌, ℕ, suc, ◌+◌, ◌*◌, ◌<◌, ◌≤◌, List, [], ◌∷◌, length, get_or, take, drop, sym, refl, ap, ◌∙◌, subst, zero-mul, mul-zero, add_comm, mul-one, mul-suc, suc-mul, arith, length-drop, length-take-le, take_all, take-append-drop, drop-drop}
use Rattle.std.specs.List.{fold}
use Rattle.std.specs.Option.{IfSome, option_map}
use Rattle.std.specs.declared.option.Option.{Option}
use Rattle.std.specs.declared.option.Option.TheVariants.{Some, None}
use Rattle.words.specs.Bytes.{part}
use Rattle.digest_sha2.specs.Sha2.{Sha2, compress, after}
use Rattle.digest_sha2.proofs.Blocks.{after-append}

-- what a run of items gives of its k-th, where it is known of the one it has there
pub given : {X : Type 0} (P : X → Type 0) (o : Option X) (y : X) → option_map (λ z. z) o ≡ Some y → IfSome o P → P y
given P None y e f = cc
given P (Some x) y e f = let g : x ≡ y = cc in subst P g f

module _ (v : Sha2) {X : Type 0} (now : X → List ℕ) where
  one : (s b : List ℕ) → length b ≡ v.block → after v s 1 b ≡ compress v s b
  unfolding after
  one s b h = rw mul-zero (ap (compress v s) (take_all v.block b (omega arith)))

  pub folded : (s : List ℕ) (items : List X) (bs : List ℕ) → v.block * length items ≤ length bs
      → ((k : ℕ) (d : X) → k < length items → now (get_or items k d) ≡ part bs (k * v.block) v.block)
      → fold (λ h x. compress v h (now x)) s items ≡ after v s (length items) bs
  unfolding after
  folded s [] bs fits each = refl
  folded s (x ∷ xs) bs fits each =
      let m : v.block * suc (length xs) ≡ v.block * length xs + v.block = mul-suc v.block (length xs) in
      let b = take v.block bs in
      let rest = drop v.block bs in
      let l : length b ≡ v.block = length-take-le v.block bs (omega arith) in
      let e : now x ≡ b = rw zero-mul at (each 0 x (omega arith)) in
      let r : v.block * length xs ≤ length rest = omega (arith, length-drop v.block bs) in
      let i : fold (λ h y. compress v h (now y)) (compress v s (now x)) xs ≡ after v (compress v s (now x)) (length xs) rest =
      folded (compress v s (now x)) xs rest r (λ k d h. each (suc k) d (omega arith) ∙ rw (suc-mul k, add_comm (k * v.block)) (ap (take v.block) (sym (drop-drop (k * v.block) v.block bs)))) in
      let a : after v s (1 + length xs) bs ≡ after v (after v s 1 b) (length xs) rest =
      ap (after v s (1 + length xs)) (sym (take-append-drop v.block bs)) ∙ after-append v s 1 (length xs) b rest (l ∙ sym (mul-one v.block)) in
      let q : 1 + length xs ≡ suc (length xs) = omega arith in
      let u : after v s (suc (length xs)) bs ≡ after v (after v s 1 b) (length xs) rest =
      subst (λ (n : ℕ). after v s n bs ≡ after v (after v s 1 b) (length xs) rest) q a in
      i ∙ ap (λ (h : List ℕ). after v h (length xs) rest) (ap (compress v s) e ∙ sym (one s b l)) ∙ sym u
