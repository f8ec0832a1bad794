-- Finish, step 6: writing. The new items of a path, from the leaf up, of the blocks placed: `placed` has the leaf's bucket first, the root's last. Assumes nothing.
use Rattle.std.specs.Prelude.{ℕ, zero, suc, ◌+◌, ◌-◌, Bool, cond, ◌&&◌, List, [], ◌∷◌, ◌++◌, ◌==◌, slice_index_or}
use Rattle.words.specs.Bytes.{zeros}
use Rattle.sizes.specs.Sizes.{digest_len}
use Rattle.slots.specs.Slots.{Block}
use Rattle.items.specs.declared.View.{View}
use Rattle.items.specs.Items.{Means, counter_of, flag_of, digest_of, item_digest, sealed}
use Rattle.items.specs.Way.{item, bucket, side, reachable}

module _ (m : Means) (v : View) (path : List ℕ) (placed : List (List Block)) where
  -- the counter is the old one plus 1 if the item was reachable, else 1
  abbrev pub new_counter : ℕ → ℕ
  new_counter k = cond (reachable v path k) (counter_of (item v path k) + 1) 1

  -- slots hold blocks by rising id, then zeros; the slots of that item alone are enciphered
  abbrev pub new_head : ℕ → List ℕ
  new_head k = sealed m v.sizes v.key (new_counter k) (bucket v k) (slice_index_or placed (v.sizes.height - k) [])

  -- the child on the path has flag 1 and its new digest; the sibling keeps both if this item was reachable and the flag was 1, else both are zero
  abbrev pub is_kept : ℕ → ℕ → Bool
  is_kept k on = reachable v path k && flag_of v.sizes (item v path k) on == 1

  abbrev pub new_flag : ℕ → ℕ → ℕ
  new_flag k on = cond (on == side v k) 1 (cond (is_kept k on) 1 0)

  abbrev pub new_digest : ℕ → List ℕ → ℕ → List ℕ
  new_digest k new on = cond (on == side v k) new (cond (is_kept k on) (digest_of v.sizes (item v path k) on) (zeros digest_len))

  -- the inner item at level k, above a child of digest new
  unfoldable pub new_inner : ℕ → List ℕ → List ℕ
  new_inner k new = new_head k ++ (new_flag k 0 ∷ new_flag k 1 ∷ (new_digest k new 0 ++ new_digest k new 1))

  -- the items of the h lowest inner levels and the leaf's, written from the leaf up; the highest comes first
  pub record Written : Type 0 where
    pub top : List ℕ
    pub below : List ℕ

  abbrev pub above : ℕ → Written → Written
  above k w = record { top = new_inner k (item_digest m v.sizes (suc k) w.top); below = w.top ++ w.below }

  unfoldable pub written : ℕ → Written
  written zero = record { top = new_head v.sizes.height; below = [] }
  written (suc h) = above (v.sizes.height - suc h) (written h)

  abbrev pub path_written : List ℕ
  path_written = (written v.sizes.height).top ++ (written v.sizes.height).below

  abbrev pub root_written : List ℕ
  root_written = item_digest m v.sizes 0 (written v.sizes.height).top
