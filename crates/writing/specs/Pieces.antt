-- The pieces that an item is written of, and what a caller of the code learns. `new` is a path whose items' slots are the plain new ones. Assumes nothing.
use Rattle.std.specs.Prelude.{◌≡◌, ℕ, zero, suc, ◌-◌, ◌≤◌, cond, List, [], ◌∷◌, ◌++◌, take, drop, nat_lt, slice_index_or}
use Rattle.words.specs.Numbers.{bytes_of}
use Rattle.sizes.specs.Sizes.{counter_len, item_at}
use Rattle.slots.specs.Slots.{Block, slots_with}
use Rattle.items.specs.declared.View.{View}
use Rattle.items.specs.Items.{Means, nonce_of, slots_of, item_digest}
use Rattle.items.specs.Way.{item, bucket}
use Rattle.items.specs.Real.{real}
use Rattle.writing.specs.Writing.{new_counter, new_flag, new_digest, written, path_written, root_written}

-- counter and slots of the item at level k, of a counter and plain slots
unfoldable pub head_of : Means → View → ℕ → ℕ → List ℕ → List ℕ
head_of m v counter k slots = bytes_of counter_len counter ++ m.cipher v.key (nonce_of (bytes_of counter_len counter) (bucket v k)) slots

-- flags and digests of the inner item at level k, above a child of digest new
unfoldable pub links_of : View → List ℕ → ℕ → List ℕ → List ℕ
links_of v path k new =
    new_flag real v path [] k 0 ∷ new_flag real v path [] k 1 ∷ (new_digest real v path [] k new 0 ++ new_digest real v path [] k new 1)

-- the slots of `new` hold what is placed: the leaf's bucket first, the root's last
abbrev pub Holds : View → List ℕ → List (List Block) → Type 0
Holds v new placed = (k : ℕ) → k ≤ v.sizes.height → slots_of v.sizes (item v new k) ≡ slots_with v.sizes.slots (slice_index_or placed (v.sizes.height - k) [])

-- the path and the root digest that are written, whatever `new` holds
pub record WrittenBy (v : View) (path new after root : List ℕ) : Type 0 where
  pub path_is : (placed : List (List Block)) → Holds v new placed → after ≡ path_written real v path placed
  pub root_is : (placed : List (List Block)) → Holds v new placed → root ≡ root_written real v path placed

-- the item at level k, of the path as it lies and the plain slots of `new`
unfoldable pub item_written : View → List ℕ → List ℕ → ℕ → List ℕ → List ℕ
item_written v path new k d =
    head_of real v (new_counter real v path [] k) k (slots_of v.sizes (item v new k)) ++ cond (nat_lt k v.sizes.height) (links_of v path k d) []

-- the items from level L + 1 - h on
abbrev pub rest_of : View → List ℕ → List (List Block) → ℕ → List ℕ
rest_of v path placed zero = []
rest_of v path placed (suc h) = (written real v path placed h).top ++ (written real v path placed h).below

-- the loop's state: below level k as it was, from level k on as step 6 says, and d is the digest of the item at level k
pub record Climbed (v : View) (path new after d : List ℕ) (k : ℕ) : Type 0 where
  pub kept : take (item_at v.sizes k) after ≡ take (item_at v.sizes k) path
  pub rest : (placed : List (List Block)) → Holds v new placed → drop (item_at v.sizes k) after ≡ rest_of v path placed (suc v.sizes.height - k)
  pub due : (placed : List (List Block)) → Holds v new placed → k ≤ v.sizes.height
      → d ≡ item_digest real v.sizes k (written real v path placed (v.sizes.height - k)).top
