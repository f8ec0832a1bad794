-- What placing promises. Assumes nothing.
use mathlib.Core.Path.{◌≡◌}
use mathlib.Core.Logic.{◌↔◌}
use mathlib.Core.Bool.{Bool, true}
use mathlib.Core.List.{List, [], ◌++◌, Permᴰ}
use Prim.Native.Nat.{ℕ, zero, suc, ◌≤◌, ◌<◌}
use native.Mathlib.Omega.{arith}
use lib.ListN.{length, get_or}
use borrow.Author.Tests.{eqb-true, eq-eqb}
use Rattle.sizes.specs.declared.Sizes.{Sizes}
use Rattle.sizes.specs.Sizes.{bucket_at}
use Rattle.sizes.proofs.Buckets.{child-bucket, side-small}
use Rattle.bags.specs.Bags.{flat, Same}
use Rattle.bags.proofs.Perm.{same_perm}
use Rattle.slots.specs.Slots.{Block, Rising}
use Rattle.placing.specs.Filling.{Within}
use Rattle.placing.specs.Placing.{on_way, levels, placed_in, remaining}
use Rattle.placing.specs.Ids.{AllRising}
use Rattle.placing.proofs.Filling.{buckets-same, buckets-within, bucket-small, Implies, Nested, buckets-optimal}
use Rattle.placing.proofs.Rising.{same_block, same_block_lem, block_same, buckets-rising, rest-rising}

module _ (s : Sizes) (leaf : ℕ) (blocks : List Block) where
  -- buckets and rest together are the blocks given: none is lost, none is doubled
  pub placed_same : Same (flat (placed_in s leaf blocks) ++ remaining s leaf blocks) blocks
  unfolding placed_in remaining
  placed_same = buckets-same s.slots (levels s leaf s.height) blocks

  pub placed-perm : Permᴰ (flat (placed_in s leaf blocks) ++ remaining s leaf blocks) blocks
  placed-perm = same_perm same_block same_block_lem block_same (flat (placed_in s leaf blocks) ++ remaining s leaf blocks) blocks placed_same

  -- each bucket has at most Z blocks, and only such as pass it on their way
  pub placed-within : Within s.slots (levels s leaf s.height) (placed_in s leaf blocks)
  unfolding placed_in
  placed-within = buckets-within s.slots (levels s leaf s.height) blocks

  pub placed-small : (h : ℕ) → length (get_or (placed_in s leaf blocks) h []) ≤ s.slots
  unfolding placed_in
  placed-small h = bucket-small s.slots (levels s leaf s.height) blocks h

  -- by rising id in each bucket and in what remains
  pub placed-rising : Rising 0 blocks → AllRising 0 (placed_in s leaf blocks)
  unfolding placed_in
  placed-rising r = buckets-rising s.slots 0 (levels s leaf s.height) blocks r

  pub remaining-rising : Rising 0 blocks → Rising 0 (remaining s leaf blocks)
  unfolding remaining
  remaining-rising r = rest-rising s.slots 0 (levels s leaf s.height) blocks r

-- ---- what passes a bucket passes those above it

up : (s : Sizes) (leaf k : ℕ) → k < s.height → (b : Block) → on_way s leaf (suc k) b ≡ true → on_way s leaf k b ≡ true
up s leaf k h b e =
    let p = child-bucket s b.leaf k h in
    let q = child-bucket s leaf k h in
    let f : bucket_at s b.leaf (suc k) ≡ bucket_at s leaf (suc k) = eqb-true _ _ e in
    eq-eqb (bucket_at s b.leaf k) (bucket_at s leaf k) (omega (arith, side-small s b.leaf k, side-small s leaf k))

implies-up : (s : Sizes) (leaf k : ℕ) → k ≤ s.height → (t : Block → Bool) → ((b : Block) → t b ≡ true → on_way s leaf k b ≡ true) → Implies t (levels s leaf k)
implies-up s leaf zero h t f = (f, tt)
implies-up s leaf (suc k) h t f = (f, implies-up s leaf k (omega arith) t (λ b e. up s leaf k h b (f b e)))

nested : (s : Sizes) (leaf k : ℕ) → k ≤ s.height → Nested (levels s leaf k)
nested s leaf zero h = (tt, tt)
nested s leaf (suc k) h = (implies-up s leaf k (omega arith) (on_way s leaf (suc k)) (up s leaf k h), nested s leaf k (omega arith))

-- no choice of buckets on the path, within Z and each block's way, leaves fewer over
pub placed-optimal : (s : Sizes) (leaf : ℕ) (blocks : List Block) (choice : List (List Block)) (over : List Block)
    → Within s.slots (levels s leaf s.height) choice → Same (flat choice ++ over) blocks → length (remaining s leaf blocks) ≤ length over
unfolding remaining
placed-optimal s leaf blocks choice over w e =
    buckets-optimal s.slots (levels s leaf s.height) (nested s leaf s.height (omega arith)) blocks choice over w e

-- so more than `room` remain exactly if every choice leaves more
pub full-exactly : (s : Sizes) (leaf room : ℕ) (blocks : List Block) → (room < length (remaining s leaf blocks))
    ↔ ((choice : List (List Block)) (over : List Block) → Within s.slots (levels s leaf s.height) choice → Same (flat choice ++ over) blocks → room < length over)
full-exactly s leaf room blocks = (
  λ h choice over w e. omega (arith, placed-optimal s leaf blocks choice over w e),
  λ f. f (placed_in s leaf blocks) (remaining s leaf blocks) (placed-within s leaf blocks) (placed_same s leaf blocks),
)
