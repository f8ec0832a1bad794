-- Tests of each reachable item, where the reachable ones are the first n. Assumes nothing.
use Prim.Native.Nat.{ℕ, suc, ◌≤◌, ◌<◌}
use mathlib.Core.Bool.{Bool, true, false, not, ◌||◌}
use mathlib.Core.Path.{◌≡◌, sym, ◌∙◌}
use mathlib.Core.List.{List}
use native.Mathlib.Nat.{zero-add}
use native.Mathlib.Omega.{arith}
use lib.ListN.{length, get_or}
use lib.Dec.{eqb}
use borrow.Author.Tests.{eq-eqb, ne_eqb}
use Rattle.std.specs.Bool.{MatchBool}
use Rattle.std.specs.List.{range_with_len, AllWithin, HoldsAt}
use Rattle.std.proofs.lemmas.List.FromFn.{length-range_with_len, get_or-range_with_len}
use Rattle.words.specs.Tests.{all}
use Rattle.words.proofs.Tests.{below_or, all_true, all-fails, all-at}
use Rattle.items.specs.declared.View.{View}
use Rattle.items.specs.Items.{counter_of}
use Rattle.items.specs.Way.{item, reachable, Reached}
use Rattle.items.proofs.Way.{reached-below, reached-above}
use Rattle.opening.specs.Opening.{is_worn, last_counter, worn_in}

range-at : (n k : ℕ) → k < n → get_or (range_with_len 0 n) k 0 ≡ k
range-at n k h = get_or-range_with_len 0 n k 0 h ∙ zero-add k

module _ (v : View) (path : List ℕ) (n : ℕ) (reached : Reached v path n) where
  module _ (p : ℕ → Bool) (m : ℕ) (h : m ≤ suc v.sizes.height) where
    pub reached-pass : ((k : ℕ) → k < n → k < m → p k ≡ true) → all m (λ k. not (reachable v path k) || p k) ≡ true
    reached-pass f =
        all_true (λ k. not (reachable v path k) || p k) m (λ k l.
        below_or k n
        (λ b. rw (reached-below v path n reached k (omega arith) b) (f k b l))
        (λ b. rw (reached-above v path n reached k (omega arith) b)))

    pub reached-fail : (k : ℕ) → k < n → k < m → p k ≡ false → all m (λ k. not (reachable v path k) || p k) ≡ false
    reached-fail k l j e =
        all-fails (λ k. not (reachable v path k) || p k) m k j (rw (reached-below v path n reached k (omega arith) l) e)

    -- all of the first j are tested, which are those of the first n below m
    pub tested-all : (j : ℕ) (r : Bool) → j ≤ n → j ≤ m → ((k : ℕ) → k < n → k < m → k < j)
        → MatchBool r (AllWithin (λ k. p k ≡ true) (range_with_len 0 j) 0 (length (range_with_len 0 j))) ((k : ℕ) × (k < length (range_with_len 0 j)) × HoldsAt (λ k. p k ≡ false) (range_with_len 0 j) k)
        → r ≡ all m (λ k. not (reachable v path k) || p k)
    tested-all j true a b f t =
        sym (reached-pass (λ k l q. rw (range-at j k (f k l q)) at (t k 0 (omega arith) (omega (arith, length-range_with_len 0 j, f k l q)))))
    tested-all j false a b f (k, l, t) =
        let q : k < j = omega (arith, length-range_with_len 0 j) in
        sym (reached-fail k (omega arith) (omega arith) (rw (range-at j k q) at (t 0)))

  -- of the counters
  pub not_worn : all n (λ k. not (eqb (counter_of (item v path k)) last_counter)) ≡ true → worn_in v path ≡ false
  not_worn h =
      let e : all (suc v.sizes.height) (λ k. not (is_worn v path k)) ≡ true =
      all_true (λ k. not (is_worn v path k)) (suc v.sizes.height) (λ k l.
      below_or k n
      (λ b. rw (reached-below v path n reached k (omega arith) b) (all-at (λ k. not (eqb (counter_of (item v path k)) last_counter)) n k b h))
      (λ b. rw (reached-above v path n reached k (omega arith) b))) in
      rw e

  pub worn-at : (k : ℕ) → k < n → counter_of (item v path k) ≡ last_counter → worn_in v path ≡ true
  worn-at k l e =
      let m : k ≤ v.sizes.height = omega (arith, reached.most) in
      let f : all (suc v.sizes.height) (λ k. not (is_worn v path k)) ≡ false =
      all-fails (λ k. not (is_worn v path k)) (suc v.sizes.height) k (omega arith) (rw (reached-below v path n reached k m l, eq-eqb _ last_counter e)) in
      rw f

  pub worn-any : (r : Bool) → MatchBool r ((k : ℕ) × (k < length (range_with_len 0 n)) × HoldsAt (λ k. counter_of (item v path k) ≡ last_counter) (range_with_len 0 n) k)
      (AllWithin (λ k. counter_of (item v path k) ≡ last_counter → ⊥) (range_with_len 0 n) 0 (length (range_with_len 0 n))) → r ≡ worn_in v path
  worn-any true (k, l, t) = let q : k < n = omega (arith, length-range_with_len 0 n) in sym (worn-at k q (rw (range-at n k q) at (t 0)))
  worn-any false t =
      sym (not_worn (all_true (λ k. not (eqb (counter_of (item v path k)) last_counter)) n (λ k l.
      let e : counter_of (item v path k) ≡ last_counter → ⊥ = rw (range-at n k l) at (t k 0 (omega arith) (omega (arith, length-range_with_len 0 n))) in rw (ne_eqb _ _ e))))
