-- Bytes of items that are not reachable never matter: paths that agree where they are reachable are opened alike. Assumes nothing.
use Prim.Native.Nat.{ℕ, zero, suc, ◌≤◌}
use mathlib.Core.Path.{◌≡◌, refl, ap, ap₂, ◌∙◌}
use mathlib.Core.Bool.{Bool, true, false, not, ◌&&◌, ◌||◌}
use mathlib.Core.List.{List, [], ◌∷◌, ◌++◌}
use native.Mathlib.Omega.{arith}
use lib.Dec.{eqb, leb}
use Rattle.words.specs.Bytes.{same}
use Rattle.words.proofs.Tests.{by_cases, all-ext}
use Rattle.slots.specs.Slots.{Block}
use Rattle.desk.specs.Readers.{height_of, sizes_of, stash_of}
use Rattle.items.specs.Items.{Means, counter_of, flag_of, item_digest}
use Rattle.items.specs.Way.{reachable, Agree}
use Rattle.items.proofs.Way.{reachable-agree, due-agree}
use Rattle.opening.specs.Opening.{view_of, found_at, found_to, found, gathered, digest_fits, flags_fit, is_worn, last_counter, each_fits, genuine, worn}

-- a test under a condition, where it is the same under the condition
under : (r s a b : Bool) → r ≡ s → (r ≡ true → a ≡ b) → (not r || a) ≡ (not s || b)
under true s a b e f = rw (← e, f refl)
under false s a b e f = rw (← e)

both : (r s a b : Bool) → r ≡ s → (r ≡ true → a ≡ b) → (r && a) ≡ (s && b)
both true s a b e f = rw (← e, f refl)
both false s a b e f = rw (← e)

module _ (m : Means) (desk xs ys : List ℕ) (agree : Agree (view_of desk) xs ys) where
  module _ (k : ℕ) (h : k ≤ height_of desk) where
    here : reachable (view_of desk) xs k ≡ reachable (view_of desk) ys k
    here = reachable-agree (view_of desk) xs ys agree k h

    found-agree : found m desk xs k ≡ found m desk ys k
    unfolding found_at
    found-agree =
        by_cases (reachable (view_of desk) xs k)
        (λ e. let f = agree k h e in rw (← here, e, f))
        (λ e. rw (← here, e))

    digest-agree : digest_fits m (view_of desk) xs k ≡ digest_fits m (view_of desk) ys k
    digest-agree =
        under (reachable (view_of desk) xs k) (reachable (view_of desk) ys k) _ _ here
        (λ e. ap₂ (λ (t d : List ℕ). same (item_digest m (sizes_of desk) k t) d) (agree k h e) (due-agree (view_of desk) xs ys agree k h e))

    flags-agree : flags_fit (view_of desk) xs k ≡ flags_fit (view_of desk) ys k
    flags-agree =
        under (reachable (view_of desk) xs k) (reachable (view_of desk) ys k) _ _ here
        (λ e. ap (λ (t : List ℕ). leb (flag_of (sizes_of desk) t 0) 1 && leb (flag_of (sizes_of desk) t 1) 1) (agree k h e))

    worn-here : is_worn (view_of desk) xs k ≡ is_worn (view_of desk) ys k
    worn-here =
        both (reachable (view_of desk) xs k) (reachable (view_of desk) ys k) _ _ here
        (λ e. ap (λ (t : List ℕ). eqb (counter_of t) last_counter) (agree k h e))

  to-agree : (k : ℕ) → k ≤ suc (height_of desk) → found_to m (view_of desk) xs k ≡ found_to m (view_of desk) ys k
  unfolding found_to
  to-agree zero h = refl
  to-agree (suc k) h = ap₂ (λ (bs cs : List Block). bs ++ cs) (to-agree k (omega arith)) (found-agree k (omega arith))

  pub gathered-agree : gathered m desk xs ≡ gathered m desk ys
  unfolding gathered
  gathered-agree = ap (λ (bs : List Block). bs ++ stash_of desk) (to-agree (suc (height_of desk)) (omega arith))

  each-agree : (k : ℕ) (bs : List Block) → each_fits m desk xs k bs ≡ each_fits m desk ys k bs
  each-agree k [] = refl
  each-agree k (b ∷ bs) = rw (gathered-agree, each-agree k bs)

  pub worn-agree : worn m desk xs ≡ worn m desk ys
  unfolding worn
  worn-agree = ap not (all-ext _ _ (suc (height_of desk)) (λ k l. ap not (worn-here k (omega arith))))

  pub genuine-agree : genuine m desk xs ≡ genuine m desk ys
  unfolding genuine
  genuine-agree =
      let d = all-ext (digest_fits m (view_of desk) xs) (digest_fits m (view_of desk) ys) (suc (height_of desk)) (λ k l. digest-agree k (omega arith)) in
      let f = all-ext (flags_fit (view_of desk) xs) (flags_fit (view_of desk) ys) (height_of desk) (λ k l. flags-agree k (omega arith)) in
      let s =
      all-ext (λ k. each_fits m desk xs k (found m desk xs k)) (λ k. each_fits m desk ys k (found m desk ys k)) (suc (height_of desk))
      (λ k l. ap (each_fits m desk xs k) (found-agree k (omega arith)) ∙ each-agree k (found m desk ys k)) in
      rw (d, f, s, gathered-agree)
