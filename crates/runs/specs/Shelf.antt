-- The shelf: its key, its buffers, and how much of them a store of given sizes has. Assumes nothing.
use Rattle.std.specs.Prelude.{ℕ, zero, suc, ◌+◌, ◌≤◌, ◌≡◌, List, [], ◌∷◌, ◌++◌, length, drop}
use Rattle.sizes.specs.declared.Sizes.{Sizes}
use Rattle.sizes.specs.Sizes.{sized, desk_len, tree_len, path_len, record_len, most_ids, most_slots}
use Rattle.setup.specs.declared.Store.{Store}
use Rattle.setup.specs.Setup.{most_shelf_height, most_byte}
use Rattle.listing.specs.Listing.{most_row}

-- key bytes 0 to 31
abbrev pub up_to : ℕ → ℕ → List ℕ
up_to zero k = []
up_to (suc n) k = k ∷ up_to n (k + 1)

abbrev pub key : List ℕ
key = up_to 32 0

-- ---- the buffers

pub record Shelf : Type 0 where
  pub desk : List ℕ
  pub tree : List ℕ
  pub path : List ℕ
  pub buffer : List ℕ
  pub leaves : List ℕ

abbrev pub shelf : List ℕ → List ℕ → List ℕ → List ℕ → List ℕ → Shelf
shelf d t p b l = record { desk = d; tree = t; path = p; buffer = b; leaves = l }

abbrev pub nothing : Shelf
nothing = shelf [] [] [] [] []

-- a list whose first n bytes were lent, and hold others now
abbrev pub over : ℕ → List ℕ → List ℕ → List ℕ
over n xs new = new ++ drop n xs

-- ---- how much of them a store has

abbrev pub sizes_of : Store → Sizes
sizes_of x = sized x.height x.slots

abbrev pub desk_len_of : Store → ℕ
desk_len_of x = desk_len x.ids x.room

abbrev pub tree_len_of : Store → ℕ
tree_len_of x = tree_len (sizes_of x)

abbrev pub path_len_of : Store → ℕ
path_len_of x = path_len (sizes_of x)

-- the most bytes of desk, tree and path
abbrev pub most_desk : ℕ
most_desk = desk_len most_ids most_byte

abbrev pub most_tree : ℕ
most_tree = tree_len (sized most_shelf_height most_slots)

abbrev pub most_path : ℕ
most_path = path_len (sized most_shelf_height most_slots)

pub record Lent (sh : Shelf) (out : List ℕ) : Type 0 where
  pub desk_most : most_desk ≤ length sh.desk
  pub tree_most : most_tree ≤ length sh.tree
  pub path_most : most_path ≤ length sh.path
  pub buffer_is : length sh.buffer ≡ record_len
  pub leaves_most : most_ids ≤ length sh.leaves
  pub out_most : most_row ≤ length out
