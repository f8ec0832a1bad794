-- The reachable items of a path are its first ones; what the checks look at is the same in paths that agree there. Assumes nothing.
use Prim.Native.Nat.{ℕ, zero, suc, ◌+◌, ◌-◌, ◌≤◌, ◌<◌}
use mathlib.Core.Bool.{Bool, true, false, ◌&&◌}
use mathlib.Core.Path.{◌≡◌, refl, sym, ap, ap₂, ◌∙◌}
use mathlib.Core.List.{List}
use native.Mathlib.Nat.{zero-add, suc-add}
use native.Mathlib.Numerals.{add-one}
use native.Mathlib.Omega.{arith}
use lib.Dec.{eqb}
use borrow.Author.Tests.{eq-eqb, ne_eqb, lt-ltb, le-ltb}
use Rattle.words.specs.Bytes.{part}
use Rattle.words.proofs.Tests.{by_cases, below_or, and_left}
use Rattle.sizes.specs.Sizes.{item_at, digest_len, digest_at}
use Rattle.items.specs.declared.View.{View}
use Rattle.items.specs.Items.{flag_of, digest_of}
use Rattle.items.specs.Way.{item, side, reachable, Reached, Agree, digest_due}
use Rattle.items.proofs.Fields.{digest-of}

module _ (v : View) (path : List ℕ) where
  -- an item below one that is not reachable is not, and one above one that is, is
  none_below : (j d : ℕ) → reachable v path j ≡ false → reachable v path (d + j) ≡ false
  unfolding reachable
  none_below j zero h = rw zero-add h
  none_below j (suc d) h = rw (suc-add, none_below j d h)

  pub reachable-parent : (k : ℕ) → reachable v path (suc k) ≡ true → reachable v path k ≡ true
  unfolding reachable
  reachable-parent k h = and_left _ _ h

  all_above : (j d : ℕ) → reachable v path (d + j) ≡ true → reachable v path j ≡ true
  all_above j zero h = rw zero-add at h
  all_above j (suc d) h = all_above j d (reachable-parent (d + j) (rw suc-add at h))

  -- the first n: none, those down to an item whose flag leads no further, or all
  pub reached-none : (v.written ≡ 1 → ⊥) → Reached v path 0
  unfolding reachable
  reached-none h =
      record {
        most = omega arith;
        exactly = λ k l. let e : k + 0 ≡ k = omega arith in (rw e at (none_below 0 k (ne_eqb v.written 1 h))) ∙ sym (le-ltb k 0 (omega arith));
      }

  pub reached-root : v.written ≡ 1 → reachable v path 0 ≡ true
  unfolding reachable
  reached-root h = eq-eqb v.written 1 h

  pub reached-next : (k : ℕ) → reachable v path k ≡ true → flag_of v.sizes (item v path k) (side v k) ≡ 1 → reachable v path (k + 1) ≡ true
  unfolding reachable
  reached-next k r f = rw (add-one, r, eq-eqb _ 1 f)

  reached-first : (n : ℕ) → n ≤ v.sizes.height → reachable v path n ≡ true → (k : ℕ) → k ≤ n → reachable v path k ≡ true
  reached-first n h r k l = let e : (n - k) + k ≡ n = omega arith in all_above k (n - k) (rw e r)

  pub reached-here : (n : ℕ) → n < v.sizes.height → reachable v path n ≡ true → (flag_of v.sizes (item v path n) (side v n) ≡ 1 → ⊥) → Reached v path (n + 1)
  unfolding reachable
  reached-here n h r f =
      record {
        most = omega arith;
        exactly = λ k l.
            below_or k (n + 1)
            (λ m. reached-first n (omega arith) r k (omega arith) ∙ sym (lt-ltb k (n + 1) m))
            (λ m.
            let e : (k - suc n) + suc n ≡ k = omega arith in
            let s : reachable v path (suc n) ≡ false = rw (r, ne_eqb _ 1 f) in
            (rw e at (none_below (suc n) (k - suc n) s)) ∙ sym (le-ltb k (n + 1) m));
      }

  pub reached-all : (n : ℕ) → n ≡ v.sizes.height → reachable v path n ≡ true → Reached v path (v.sizes.height + 1)
  reached-all n e r =
      record {
        most = omega arith;
        exactly = λ k l. reached-first n (omega arith) r k (omega arith) ∙ sym (lt-ltb k (v.sizes.height + 1) (omega arith));
      }

  -- of one of the first n, and of another
  module _ (n : ℕ) (reached : Reached v path n) (k : ℕ) (h : k ≤ v.sizes.height) where
    pub reached-below : k < n → reachable v path k ≡ true
    reached-below l = reached.exactly k h ∙ lt-ltb k n l

    pub reached-above : n ≤ k → reachable v path k ≡ false
    reached-above l = reached.exactly k h ∙ le-ltb k n l

  -- the digest due of the root, and of a child: that in its parent
  pub due-root : (k : ℕ) → k ≡ 0 → v.root ≡ digest_due v path k
  due-root zero e = refl
  due-root (suc k) e = absurd (omega arith)

  pub due-child : (k a n : ℕ) → 0 < k → k ≤ v.sizes.height → a ≡ item_at v.sizes (k - 1) + digest_at v.sizes (side v (k - 1)) → n ≡ digest_len → part path a n ≡ digest_due v path k
  due-child zero a n h l e f = absurd (omega arith)
  due-child (suc k) a n h l e f =
      let m : suc k - 1 ≡ k = omega arith in
      ap₂ (λ (i j : ℕ). part path i j) (rw m at e) f ∙ sym (digest-of v.sizes path k (omega arith) (side v k) (omega arith))

-- ---- paths that agree where they are reachable

module _ (v : View) (xs ys : List ℕ) (agree : Agree v xs ys) where
  pub reachable-agree : (k : ℕ) → k ≤ v.sizes.height → reachable v xs k ≡ reachable v ys k
  unfolding reachable
  reachable-agree zero h = refl
  reachable-agree (suc k) h =
      let i = reachable-agree k (omega arith) in
      by_cases (reachable v xs k)
      (λ e. let f = agree k (omega arith) e in ap₂ (λ (b : Bool) (t : List ℕ). b && eqb (flag_of v.sizes t (side v k)) 1) i f)
      (λ e. let g : reachable v ys k ≡ false = sym i ∙ e in rw (e, g))

  pub due-agree : (k : ℕ) → k ≤ v.sizes.height → reachable v xs k ≡ true → digest_due v xs k ≡ digest_due v ys k
  due-agree zero h r = refl
  due-agree (suc k) h r = ap (λ (t : List ℕ). digest_of v.sizes t (side v k)) (agree k (omega arith) (reachable-parent v xs k r))
