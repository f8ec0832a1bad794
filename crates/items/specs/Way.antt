-- Finish, step 1, and what the checks of step 2 compare: the reachable items of a path. Assumes nothing.
use Rattle.std.specs.Prelude.{ℕ, zero, suc, ◌≤◌, ◌≡◌, Bool, true, ◌&&◌, List, eqb, ltb}
use Rattle.sizes.specs.Sizes.{item_of, bucket_at, side_at}
use Rattle.items.specs.declared.View.{View}
use Rattle.items.specs.Items.{flag_of, digest_of}

-- the item at level k, its bucket, and the side on which the path goes on below it
abbrev pub item : View → List ℕ → ℕ → List ℕ
item v path k = item_of v.sizes path k

abbrev pub bucket : View → ℕ → ℕ
bucket v k = bucket_at v.sizes v.leaf k

abbrev pub side : View → ℕ → ℕ
side v k = side_at v.sizes v.leaf k

-- 1. Reachability. The root, if root written is 1; a child, if its parent is and the parent's flag for it is 1
unfoldable pub reachable : View → List ℕ → ℕ → Bool
reachable v path zero = eqb v.written 1
reachable v path (suc k) = reachable v path k && eqb (flag_of v.sizes (item v path k) (side v k)) 1

-- the reachable items are the first n
pub record Reached (v : View) (path : List ℕ) (n : ℕ) : Type 0 where
  pub most : n ≤ suc v.sizes.height
  pub exactly : (k : ℕ) → k ≤ v.sizes.height → reachable v path k ≡ ltb k n

-- two paths have the same bytes in every item that is reachable in the first
abbrev pub Agree : View → List ℕ → List ℕ → Type 0
Agree v xs ys = (k : ℕ) → k ≤ v.sizes.height → reachable v xs k ≡ true → item v xs k ≡ item v ys k

-- the digest that the item at level k must have: the root digest, or the digest in its parent
abbrev pub digest_due : View → List ℕ → ℕ → List ℕ
digest_due v path zero = v.root
digest_due v path (suc k) = digest_of v.sizes (item v path k) (side v k)
