-- The checks of the slots as a walk: slot after slot, with the blocks met so far, the stash first. Assumes nothing.
use Rattle.std.specs.Prelude.{ℕ, suc, ◌≤◌, ◌<◌, ◌≡◌, Bool, true, not, Result, Ok, Err, is_ok, ◌&&◌, ◌||◌, List, [], ◌∷◌, ◌++◌, length, get_or, eqb}
use Rattle.sizes.specs.Sizes.{most_ids, InRange, leaves, most_path}
use Rattle.bags.specs.Bags.{cnt, those}
use Rattle.slots.specs.Slots.{Block, is_used}
use Rattle.desk.specs.Layout.{Whole, ids_of, room_of}
use Rattle.desk.specs.Readers.{sizes_of, id_asked, leaf_asked, stash_count, stash_id, stash_of}
use Rattle.items.specs.declared.View.{View}
use Rattle.items.specs.Items.{slots_of, slots_opened}
use Rattle.items.specs.Way.{item, bucket, Reached}
use Rattle.items.specs.Real.{real}
use Rattle.opening.specs.Opening.{is_id, is_placed, view_of, genuine}

-- what these steps need of a desk: a good one has it while a request is open
pub record OpenDesk (desk : List ℕ) : Type 0 where
  pub whole : Whole desk
  pub range : InRange (sizes_of desk)
  pub low : 1 ≤ id_asked desk
  pub high : id_asked desk ≤ ids_of desk
  pub leaf : leaf_asked desk < leaves (sizes_of desk)
  pub count : stash_count desk ≤ room_of desk
  pub used : (i : ℕ) → i < stash_count desk → 1 ≤ stash_id desk i
  pub known : (i : ℕ) → i < stash_count desk → stash_id desk i ≤ ids_of desk
  pub once : (id : ℕ) → cnt (is_id id) (stash_of desk) ≤ 1

-- the opened slots of the first n items, each at its place
pub record Unsealed (v : View) (path : List ℕ) (n : ℕ) (w : List ℕ) : Type 0 where
  pub size : length w ≡ most_path
  pub slots : (k : ℕ) → k < n → slots_of v.sizes (item v w k) ≡ slots_opened real v.sizes v.key (bucket v k) (item v path k)

-- the table of ids met: 0 at those that none of the blocks has
pub record Seen (seen : List ℕ) (met : List Block) : Type 0 where
  pub size : length seen ≡ suc most_ids
  pub at : (id : ℕ) → 0 < id → id ≤ most_ids → eqb (get_or seen id 0) 0 ≡ eqb (cnt (is_id id) met) 0

-- a block at level k, after blocks that were met: empty, or placed and met for the first time
abbrev pub passes : List ℕ → ℕ → List Block → Block → Bool
passes desk k met b = not (is_used b) || (is_placed desk k b && eqb (cnt (is_id b.id) met) 0)

-- blocks one after another
unfoldable pub walk : List ℕ → ℕ → List Block → List Block → Bool
walk desk k met [] = true
walk desk k met (b ∷ bs) = passes desk k met b && walk desk k (met ++ those is_used (b ∷ [])) bs

-- what a look at a block, and a walk over several, leaves in the table, whatever was met before
pub record Looked (desk : List ℕ) (k : ℕ) (b : Block) (before after : List ℕ) (r : Bool) : Type 0 where
  pub answer : (met : List Block) → Seen before met → r ≡ passes desk k met b
  pub met : (met : List Block) → Seen before met → r ≡ true → Seen after (met ++ those is_used (b ∷ []))

pub record Walked (desk : List ℕ) (k : ℕ) (bs : List Block) (before after : List ℕ) (r : Bool) : Type 0 where
  pub answer : (met : List Block) → Seen before met → r ≡ walk desk k met bs
  pub met : (met : List Block) → Seen before met → r ≡ true → Seen after (met ++ those is_used bs)

-- the number of reachable items, whether all checks pass or one fails
abbrev pub count_in : Result ℕ ℕ → ℕ
count_in (Ok n) = n
count_in (Err n) = n

-- steps 1 and 2, whole: the number of reachable items, Ok exactly if all checks pass; and the working copy that they leave
pub record Opens (desk path w : List ℕ) (o : Result ℕ ℕ) : Type 0 where
  pub good : is_ok o ≡ genuine real desk path
  pub count : Reached (view_of desk) path (count_in o)
  pub opened : (n : ℕ) → Reached (view_of desk) path n → Unsealed (view_of desk) path n w
