-- The draws shown and those not shown are all the draws, each once. Assumes nothing.
use mathlib.Core.Path.{◌≡◌, refl, ◌∙◌}
use mathlib.Core.Logic.{◌≢◌}
use mathlib.Core.List.Permᴰ
use mathlib.Core.List.{List, [], ◌++◌, Permᴰ}
use Prim.Native.Nat.{ℕ, ◌+◌, ◌<◌}
use native.Mathlib.Nat.{zero-add}
use native.Mathlib.Omega.{arith}
use lib.ListN.{length, get_or}
use Rattle.bags.specs.Bags.{those}
use Rattle.bags.proofs.Bags.{cnt-append}
use Rattle.bags.proofs.Those.{those-append}
use Rattle.draws.specs.Draws.{AllGood, from, absent, indices, unshown, order}
use Rattle.draws.proofs.Numbers.{length_from, from-append, Once, from-once, once-perm, once-distinct, those-perm, those-in, those-out}
use Rattle.draws.proofs.Shown.{held, conserve, indices-are}

-- what was shown and what the ids hold in the end are all the draws
held-perm : (n : ℕ) (us : List ℕ) → AllGood n us → Permᴰ (indices n us ++ held (from 0 n) us (from n (length us))) (from 0 (n + length us))
held-perm n us g =
    rw (indices-are n us, from-append 0 n (length us), zero-add n)
    (conserve (from 0 n) us (from n (length us)) (length_from n (length us)) (rw length_from g))

-- so what they hold is what was not shown
held-unshown : (n : ℕ) (us : List ℕ) → AllGood n us → Permᴰ (held (from 0 n) us (from n (length us))) (unshown n us)
unfolding unshown
held-unshown n us g =
    let ks : List ℕ = indices n us in
    let hs : List ℕ = held (from 0 n) us (from n (length us)) in
    let o : Once (ks ++ hs) = once-perm (held-perm n us g) (from-once 0 (n + length us)) in
    let a : those (absent ks) ks ≡ [] = those-in ks ks (λ k h. h) in
    let b : those (absent ks) hs ≡ hs = those-out ks hs (λ k h. omega (arith, simp cnt-append at (o k))) in
    let e : those (absent ks) (ks ++ hs) ≡ hs = those-append (absent ks) ks hs ∙ rw (a, b) refl in
    rw e at (those-perm (absent ks) (held-perm n us g))

pub order-perm : (n : ℕ) (us : List ℕ) → AllGood n us → Permᴰ (order n us) (from 0 (n + length us))
unfolding order
order-perm n us g = Permᴰ.trans (Permᴰ.append_left (indices n us) (Permᴰ.symm (held-unshown n us g))) (held-perm n us g)

pub order-once : (n : ℕ) (us : List ℕ) → AllGood n us → Once (order n us)
order-once n us g = once-perm (order-perm n us g) (from-once 0 (n + length us))

-- no draw is shown twice
shown_once : (n : ℕ) (us : List ℕ) → AllGood n us → Once (indices n us)
unfolding order
shown_once n us g k = omega (arith, simp cnt-append at (order-once n us g k))

pub never-twice : (n : ℕ) (us : List ℕ) → AllGood n us → (i j : ℕ) → i < j → j < length (indices n us) → get_or (indices n us) i 0 ≢ get_or (indices n us) j 0
never-twice n us g = once-distinct (indices n us) (shown_once n us g)
