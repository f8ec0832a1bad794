-- What is gathered, beside another list of what the items hold: `to k` has the blocks of the first k items, and `at k` those of item k. Assumes nothing.
use Prim.Native.Nat.{ℕ, zero, suc, ◌+◌, ◌≤◌, ◌<◌}
use mathlib.Core.Path.{◌≡◌, refl, sym, ap, ap₂, ◌∙◌}
use mathlib.Core.List.{List, [], ◌++◌, append-nil}
use native.Mathlib.Nat.{add-zero, add-suc}
use native.Mathlib.Omega.{arith}
use Rattle.sizes.specs.declared.Sizes.{Sizes}
use Rattle.bags.specs.Bags.{those}
use Rattle.slots.specs.Slots.{Block, is_used, blocks_of}
use Rattle.placing.specs.Placing.{sorted}
use Rattle.gathering.specs.declared.Request.{Request}
use Rattle.gathering.specs.Gathering.{slots_at, used_to, requested, is_other, to_place}

module _ (to at : ℕ → List Block) (none : to 0 ≡ []) (more : (k : ℕ) → to (suc k) ≡ to k ++ at k) where
  -- the first n items are opened as `at` says
  pub used-found : (s : Sizes) (opened : List ℕ) (n : ℕ) → ((k : ℕ) → k < n → those is_used (blocks_of s.slots (slots_at s opened k)) ≡ at k) → used_to s opened n ≡ to n
  unfolding used_to
  used-found s opened zero f = sym none
  used-found s opened (suc k) f =
      ap₂ (λ (bs cs : List Block). bs ++ cs) (used-found s opened k (λ j h. f j (omega arith))) (f k (omega arith)) ∙ sym (more k)

  -- and those after them hold nothing
  pub found-rest : (n d : ℕ) → ((k : ℕ) → n ≤ k → at k ≡ []) → to (n + d) ≡ to n
  found-rest n zero f = ap to (add-zero n)
  found-rest n (suc d) f =
      ap to (add-suc n d) ∙ more (n + d) ∙ ap (λ (bs : List Block). to (n + d) ++ bs) (f (n + d) (omega arith)) ∙ append-nil (to (n + d)) ∙ found-rest n d f

-- what is placed, written out
pub place_is : (r : Request) (bytes : List ℕ) (blocks : List Block) → to_place r bytes blocks ≡ sorted (requested r bytes ++ those (is_other r.id) blocks)
unfolding to_place
place_is r bytes blocks = refl
