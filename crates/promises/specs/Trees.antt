-- Demand 2 with the server's own entries: each path comes from fetch and goes back by put, over a tree that held anything before. Assumes nothing.
use Rattle.sizes.specs.declared.Refusal.{Refusal}
use Rattle.std.specs.Prelude.{ℕ, ◌<◌, ◌≤◌, ◌≡◌, List, [], ◌∷◌, ◌++◌, length, Err, Result, Ok}
use Rattle.std.proofs.Math.Option.{some}
use Rattle.sizes.specs.declared.Sizes.{Sizes}
use Rattle.sizes.specs.Sizes.{path_len, bucket_no, bucket_in, tree_len}
use Rattle.bags.specs.Bags.{those}
use Rattle.slots.specs.Slots.{Block}
use Rattle.desk.specs.Readers.{is_written, stash_of}
use Rattle.items.specs.Items.{Means}
use Rattle.opening.specs.Opening.{is_id}
use Rattle.tree.specs.Tree.{fetch_of, put_of}
use Rattle.store.specs.declared.Finished.{Finished}
use Rattle.store.specs.declared.Finished.TheVariants as finished
use Rattle.keeping.specs.Server.{Server, standing}
use Rattle.keeping.specs.Table.{place_of, ever_written}
use Rattle.promises.specs.Stores.{Store, Start, format_for, Request}
use Rattle.promises.specs.Steps.{State, begin, asks, finishes, finish_for, after}
use Rattle.promises.specs.DemandTwo.{Kept}

-- a state and the bytes of the tree
pub record TreeState : Type 0 where
  pub state : State
  pub tree : List ℕ

-- a turn: an ask; or the open request served: a lent path is filled by fetch for the leaf that was asked for and handed to finish, with a record
-- buffer, and put back if the finish is accepted
pub data Turn : Type 0 where
  asking : Request → Turn
  serving : List ℕ → List ℕ → Turn

abbrev pub fetch_for : Sizes → TreeState → List ℕ → List ℕ
fetch_for s ts lent = (fetch_of s ts.state.asked_leaf ts.tree lent).path

abbrev pub put_if : Result Finished Refusal → List ℕ → List ℕ → List ℕ
put_if (Ok finished.Record) new old = new
put_if (Ok finished.Never) new old = new
put_if (Ok finished.Done) new old = new
put_if (Err q) new old = old

abbrev pub served : Store → Sizes → TreeState → List ℕ → List ℕ → TreeState
served store s ts path buffer =
    record {
      state = after store s ts.state (finishes path buffer);
      tree =
          put_if (finish_for store ts.state path buffer).answer
          (put_of s ts.state.asked_leaf ts.tree (finish_for store ts.state path buffer).path).tree ts.tree;
    }

abbrev pub turn : Store → Sizes → TreeState → Turn → TreeState
turn store s ts (asking r) = record { state = after store s ts.state (asks r); tree = ts.tree }
turn store s ts (serving lent buffer) = served store s ts (fetch_for s ts lent) buffer

abbrev pub turns : Store → Sizes → TreeState → List Turn → TreeState
turns store s ts [] = ts
turns store s ts (t ∷ more) = turns store s (turn store s ts t) more

-- the states that a formatted desk and any tree of the right length get to
pub record TreeReached (store : Store) (b : Start) (ts : TreeState) : Type 0 where
  pub lent : List ℕ
  pub formats : (format_for b lent).answer ≡ Ok tt
  pub tree : List ℕ
  pub size : length tree ≡ tree_len b.sizes
  pub taken : List Turn
  pub here : turns store b.sizes (record { state = begin b lent; tree = tree }) taken ≡ ts

-- in each of them all of demand 2 holds of the paths that fetch hands out into a lent path of the right length
abbrev pub fetched_by : Start → TreeState → List ℕ → Type 0
fetched_by b ts path = (lent : List ℕ) × (length lent ≡ path_len b.sizes) × (path ≡ fetch_for b.sizes ts lent)

-- and of the tree's own bytes: the item in each bucket, and the blocks as far as flags lead
abbrev pub in_tree : Sizes → List ℕ → Server
in_tree s tree = λ k j. some (bucket_in s tree (bucket_no k j))

abbrev pub blocks_of_tree : Means → Start → TreeState → List Block
blocks_of_tree m b ts =
    standing m b.sizes b.key (in_tree b.sizes ts.tree) b.sizes.height 0 0 (is_written ts.state.desk) ++ stash_of ts.state.desk

pub record TreeKept (m : Means) (store : Store) (b : Start) (ts : TreeState) : Type 0 where
  pub kept : Kept m store b (fetched_by b ts) ts.state
  -- each bucket that was written stands in the tree as it was last written
  pub size : length ts.tree ≡ tree_len b.sizes
  pub items : (k j : ℕ) (item : List ℕ) → ts.state.server k j ≡ some item → bucket_in b.sizes ts.tree (bucket_no k j) ≡ item
  -- every id ever written stands in exactly one place of tree and stash, and there are no other blocks
  pub one_place : (id : ℕ) → 1 ≤ id → id ≤ b.ids → those (is_id id) (blocks_of_tree m b ts) ≡ place_of ts.state.desk id (ts.state.table id)
  pub count : length (blocks_of_tree m b ts) ≡ ever_written ts.state.table b.ids

abbrev pub DemandTwoTree : Means → Store → Type 0
DemandTwoTree m store = (b : Start) → b.room < 256 → (ts : TreeState) → TreeReached store b ts → TreeKept m store b ts
