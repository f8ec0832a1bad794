-- The server, as a member thinks of it: what was last written in each bucket, and the blocks that stand there. Assumes nothing.
use Rattle.std.specs.Prelude.{ℕ, zero, suc, ◌+◌, ◌*◌, ◌≤◌, ◌≡◌, Bool, true, cond, ◌&&◌, List, [], ◌++◌, length, eqb, leb}
use Rattle.std.proofs.Math.Option.{Option, none, some}
use Rattle.sizes.specs.declared.Sizes.{Sizes}
use Rattle.sizes.specs.Sizes.{path_len, item_of, bucket_no, place_in}
use Rattle.bags.specs.Bags.{choose}
use Rattle.slots.specs.Slots.{Block}
use Rattle.items.specs.declared.View.{View}
use Rattle.items.specs.Items.{Means, flag_of, masked, blocks_in}
use Rattle.items.specs.Way.{item, reachable}

-- the item last written in the bucket at place j of level k, or nothing
abbrev pub Server : Type 0
Server = ℕ → ℕ → Option (List ℕ)

-- it returns what was last written: a path of the right length, which at every bucket that was written has that item; anything elsewhere
pub record Returns (s : Sizes) (server : Server) (leaf : ℕ) (path : List ℕ) : Type 0 where
  pub size : length path ≡ path_len s
  pub items : (k : ℕ) → k ≤ s.height → (item : List ℕ) → server k (place_in s leaf k) ≡ some item → item_of s path k ≡ item

-- the server after the items of a path to a leaf were written
abbrev pub wrote : Sizes → ℕ → List ℕ → Server → Server
wrote s leaf path server = λ k j. cond (leb k s.height && eqb j (place_in s leaf k)) (some (item_of s path k)) (server k j)

-- what stands in a bucket, nothing where none was written; whether its flag for a side is 1; its blocks
abbrev pub or_nil : Option (List ℕ) → List ℕ
or_nil none = []
or_nil (some item) = item

abbrev pub leads : Sizes → Server → ℕ → ℕ → ℕ → Bool
leads s server k j side = eqb (flag_of s (or_nil (server k j)) side) 1

abbrev pub blocks_at : Means → Sizes → List ℕ → Server → ℕ → ℕ → List Block
blocks_at m s key server k j = blocks_in m s key (bucket_no k j) (or_nil (server k j))

-- the blocks of a bucket and of those that flags lead to, h levels below it; none of a bucket that is not reachable
unfoldable pub standing : Means → Sizes → List ℕ → Server → ℕ → ℕ → ℕ → Bool → List Block
standing m s key server zero k j is_reachable = choose is_reachable (blocks_at m s key server k j) []
standing m s key server (suc h) k j is_reachable =
    choose is_reachable
    (blocks_at m s key server k j
    ++ (standing m s key server h (suc k) (2 * j) (leads s server k j 0) ++ standing m s key server h (suc k) (2 * j + 1) (leads s server k j 1)))
    []

-- a path agrees with the server where it is reachable: no digest tells its item from the one last written there. What is not reachable, and a
-- child's digest where its flag is 0, may differ. Every path that the server returns agrees
pub record Agrees (v : View) (server : Server) (path : List ℕ) : Type 0 where
  pub size : length path ≡ path_len v.sizes
  pub items : (k : ℕ) → k ≤ v.sizes.height → reachable v path k ≡ true
      → masked v.sizes k (item v path k) ≡ masked v.sizes k (or_nil (server k (place_in v.sizes v.leaf k)))
