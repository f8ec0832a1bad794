-- Finish, steps 3 to 6: the answer, the blocks to place, the new path and the new desk. Assumes nothing.
use Rattle.std.specs.Prelude.{ℕ, Bool, true, false, not, List, [], ◌∷◌, ◌++◌}
use Rattle.bags.specs.Bags.{those}
use Rattle.slots.specs.Slots.{Block}
use Rattle.desk.specs.declared.Kind.{Kind}
use Rattle.desk.specs.declared.Kind.TheVariants.{Read, Write}
use Rattle.desk.specs.Readers.{sizes_of, kind_asked, id_asked, new_leaf, record_asked, leaf_asked, is_marked}
use Rattle.desk.specs.Changes.{settled}
use Rattle.items.specs.Items.{Means}
use Rattle.opening.specs.Opening.{view_of, is_id, gathered}
unfoldable pub use Rattle.opening.specs.Opening.{lookup}
use Rattle.writing.specs.Writing.{path_written, root_written}
use Rattle.placing.specs.Placing.{sorted, placed_in, remaining}
use Rattle.store.specs.declared.Finished.{Finished}
use Rattle.store.specs.declared.Finished.TheVariants as finished

-- ---- 3. Answer, by the kind and whether the id is marked

abbrev pub answer_for : Kind → Bool → Finished
answer_for Read true = finished.Record
answer_for Read false = finished.Never
answer_for Write marked = finished.Done

-- what the record buffer then holds, of the record found and what it held
abbrev pub buffer_for : Kind → Bool → List ℕ → List ℕ → List ℕ
buffer_for Read true found buffer = found
buffer_for Read false found buffer = buffer
buffer_for Write marked found buffer = buffer

abbrev pub mark_for : Kind → Bool → ℕ
mark_for Read true = 1
mark_for Read false = 0
mark_for Write marked = 1

-- the record that the requested block carries on, if there is one
abbrev pub carried : Kind → Bool → List ℕ → List ℕ → List (List ℕ)
carried Read true found asked = found ∷ []
carried Read false found asked = []
carried Write marked found asked = asked ∷ []

-- under id and leaf
abbrev pub under : ℕ → ℕ → List (List ℕ) → List Block
under id leaf [] = []
under id leaf (r ∷ rs) = record { id = id; leaf = leaf; bytes = r } ∷ under id leaf rs

module _ (m : Means) (desk path : List ℕ) where
  abbrev pub was_marked : Bool
  was_marked = is_marked desk (id_asked desk)

  -- the record that a lookup of the requested id hands back
  abbrev pub record_found : List ℕ
  record_found = lookup (id_asked desk) (gathered m desk path)

  -- ---- 5. Placing: the requested block under its new leaf, and the others, by rising id

  unfoldable pub to_place : List Block
  to_place =
      sorted (under (id_asked desk) (new_leaf desk) (carried (kind_asked desk) was_marked record_found (record_asked desk))
      ++ those (λ b. not (is_id (id_asked desk) b)) (gathered m desk path))

  abbrev pub placed : List (List Block)
  placed = placed_in (sizes_of desk) (leaf_asked desk) to_place

  abbrev pub new_stash : List Block
  new_stash = remaining (sizes_of desk) (leaf_asked desk) to_place

  -- ---- 6. Writing

  abbrev pub new_path : List ℕ
  new_path = path_written m (view_of desk) path placed

  abbrev pub new_root : List ℕ
  new_root = root_written m (view_of desk) path placed

  -- 4. and 6.: the id's position and mark, the stash, root digest and root written, the request cleared, status 0
  unfoldable pub new_desk : List ℕ
  new_desk = settled (id_asked desk) (new_leaf desk) (mark_for (kind_asked desk) was_marked) new_stash new_root desk
