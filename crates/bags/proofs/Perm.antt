-- Equal counts are a rearrangement by swaps, where equality has a test: so `Same` says what a reader takes it to say. Assumes nothing.
use mathlib.Core.Path.{◌≡◌, refl, sym}
use mathlib.Core.Bool.{Bool, true}
use mathlib.Core.List.Permᴰ
use mathlib.Core.List.{List, [], ◌∷◌, Permᴰ}
use Prim.Native.Nat.{◌<◌}
use native.Mathlib.Nat.{suc-ne-zero}
use native.Mathlib.Omega.{arith}
use Rattle.words.proofs.Tests.{by_cases}
use Rattle.bags.specs.Bags.{cnt, Same}
use Rattle.bags.proofs.Bags.{same_length, perm_same}

module _ {A : Type 0} (eq : A → A → Bool) (sound : (x y : A) → eq x y ≡ true → x ≡ y) (self : (x : A) → eq x x ≡ true) where
  pull : (x : A) (ys : List A) → 0 < cnt (eq x) ys → (zs : List A) × Permᴰ ys (x ∷ zs)
  pull x [] h = absurd (omega arith)
  pull x (y ∷ ys) h =
      by_cases (eq x y) (λ e. (ys, Permᴰ.cons (sym (sound x y e)) (Permᴰ.refl ys)))
      (λ e. let r = pull x ys (omega (arith, rw e at h)) in (y ∷ r.0, Permᴰ.trans (Permᴰ.cons refl r.1) (Permᴰ.swap refl refl)))

  pub same_perm : (xs ys : List A) → Same xs ys → Permᴰ xs ys
  same_perm [] [] s = Permᴰ.nil
  same_perm [] (y ∷ ys) s = absurd (suc-ne-zero _ (sym (same_length [] (y ∷ ys) s)))
  same_perm (x ∷ xs) ys s =
      let h : 0 < cnt (eq x) ys = rw (← (s (eq x)), self x) (omega arith) in
      let r = pull x ys h in
      Permᴰ.trans (Permᴰ.cons refl (same_perm xs r.0 (λ t. omega (arith, s t, perm_same r.1 t)))) (Permᴰ.symm r.1)
