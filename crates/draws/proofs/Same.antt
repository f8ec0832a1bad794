-- Two lists of ids of one length: under the rearrangement, which is one, the second shows the same leaves as the first. Assumes nothing.
use mathlib.Core.Path.{◌≡◌, refl, sym, ap, ap₂, ◌∙◌}
use mathlib.Core.Bool.{Bool, true, not}
use mathlib.Core.List.{List, [], ◌∷◌, ◌++◌, map, Permᴰ, map-map}
use Prim.Native.Nat.{ℕ, ◌+◌, ◌<◌}
use native.Mathlib.Nat.{zero-add}
use native.Mathlib.Omega.{arith}
use lib.ListN.{length, get_or, take, drop, length-map}
use lib.Seq.{take_at, drop_at}
use lib.Dec.{ltb}
use borrow.Author.Tests.{ltb-true}
use Rattle.bags.specs.Bags.{cnt, AllOf}
use Rattle.bags.proofs.Bags.{cnt-append, perm_same, same_length}
use Rattle.bags.proofs.All.{all_pass}
use Rattle.draws.specs.Draws.{AllGood, leaves_shown, from, indices, unshown, order, look, rearrange, rearranged}
use Rattle.draws.proofs.Numbers.{length_from, get_d-from, from-below, look-map, map-append, get_d_map}
use Rattle.draws.proofs.Shown.{length-indices, leaves_map, leaves-are}
use Rattle.draws.proofs.Order.{order-perm, order-once}

length-perm : {xs ys : List ℕ} → Permᴰ xs ys → length xs ≡ length ys
length-perm {xs} {ys} d = same_length xs ys (perm_same d)

module _ (n : ℕ) (us vs : List ℕ) (e : length us ≡ length vs) (g : AllGood n us) (h : AllGood n vs) where
  same-order : map (look (order n vs) (order n us)) (order n vs) ≡ order n us
  same-order =
      look-map (order n vs) (order n us)
      (length-perm (order-perm n vs h) ∙ ap (λ (m : ℕ). length (from 0 (n + m))) (sym e) ∙ sym (length-perm (order-perm n us g)))
      (order-once n vs h)

  pub rearrange-perm : Permᴰ (rearrange n us vs) (from 0 (n + length us))
  unfolding rearrange
  rearrange-perm =
      let p : Permᴰ (from 0 (n + length us)) (order n vs) = rw e (mathlib.Core.List.Permᴰ.symm (order-perm n vs h)) in
      let q : Permᴰ (map (look (order n vs) (order n us)) (order n vs)) (from 0 (n + length us)) = rw same-order (order-perm n us g) in
      mathlib.Core.List.Permᴰ.trans (mathlib.Core.List.Permᴰ.map (look (order n vs) (order n us)) p) q

  -- those shown to those shown, and the others to the others
  same_parts : (map (look (order n vs) (order n us)) (indices n vs) ≡ indices n us) × (map (look (order n vs) (order n us)) (unshown n vs) ≡ unshown n us)
  unfolding order
  same_parts =
      let F : ℕ → ℕ = look (order n vs) (order n us) in
      let hu : List ℕ = unshown n us in
      let hv : List ℕ = unshown n vs in
      let all : map F (indices n vs) ++ map F hv ≡ indices n us ++ hu = sym (map-append F (indices n vs) hv) ∙ same-order in
      let lu : length (indices n us) ≡ length us = length-indices n us in
      let lv : length (map F (indices n vs)) ≡ length us = length-map (indices n vs) F ∙ length-indices n vs ∙ sym e in (
        sym (take_at (map F (indices n vs)) (map F hv) (length us) lv) ∙ ap (take (length us)) all ∙ take_at (indices n us) hu (length us) lu,
        sym (drop_at (map F (indices n vs)) (map F hv) (length us) lv) ∙ ap (drop (length us)) all ∙ drop_at (indices n us) hu (length us) lu,
      )

  -- the numbers of draws are below their count
  in-range : cnt (λ k. not (ltb k (n + length us))) (indices n vs) + cnt (λ k. not (ltb k (n + length us))) (unshown n vs) ≡ 0
  unfolding order
  in-range =
      let t : ℕ → Bool = λ k. not (ltb k (n + length us)) in
      sym (cnt-append t (indices n vs) (unshown n vs)) ∙ perm_same (order-perm n vs h) t ∙ from-below 0 (n + length vs) (n + length us) (omega arith)

  rearranged-is : (ks : List ℕ) → AllOf (λ k. ltb k (n + length us) ≡ true) ks → rearranged (rearrange n us vs) ks ≡ map (look (order n vs) (order n us)) ks
  unfolding rearranged rearrange
  rearranged-is [] a = refl
  rearranged-is (k ∷ ks) a =
      let F : ℕ → ℕ = look (order n vs) (order n us) in
      let l : k < n + length us = ltb-true k (n + length us) a.0 in
      let f : get_or (map F (from 0 (n + length us))) k 0 ≡ F k =
      get_d_map F (from 0 (n + length us)) k (omega (arith, length_from 0 (n + length us))) ∙ ap F (get_d-from 0 (n + length us) k l ∙ zero-add k) in
      ap₂ (λ (x : ℕ) (xs : List ℕ). x ∷ xs) f (rearranged-is ks a.1)

  -- by the rearrangement the draws shown are the draws shown, in their order, and the others are the others, in theirs
  pub rearrange-order : (rearranged (rearrange n us vs) (indices n vs) ≡ indices n us) × (rearranged (rearrange n us vs) (unshown n vs) ≡ unshown n us)
  rearrange-order =
      let p : ℕ → Bool = λ k. ltb k (n + length us) in (
        rearranged-is (indices n vs) (all_pass p (indices n vs) (omega (arith, in-range))) ∙ same_parts.0,
        rearranged-is (unshown n vs) (all_pass p (unshown n vs) (omega (arith, in-range))) ∙ same_parts.1,
      )

  pub same-leaves : (ds : List ℕ) → length ds ≡ n + length us → leaves_shown n vs (rearranged ds (rearrange n us vs)) ≡ leaves_shown n us ds
  unfolding rearranged rearrange
  same-leaves ds l =
      let F : ℕ → ℕ = look (order n vs) (order n us) in
      let D : ℕ → ℕ = λ i. get_or ds i 0 in
      let second : leaves_shown n vs (map D (map F (from 0 (n + length us)))) ≡ map (λ i. D (F i)) (indices n vs) =
      rw (map-map D F, e) (leaves_map (λ i. D (F i)) n vs h) in
      second ∙ sym (map-map D F (indices n vs)) ∙ ap (map D) same_parts.0 ∙ sym (leaves-are n us ds g l)
