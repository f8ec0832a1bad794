-- What steps 3 to 6 start from: a desk with an open request, a path that passes the checks, and its working copy. Assumes nothing.
use Rattle.std.specs.Prelude.{ℕ, ◌<◌, true, ◌≡◌, List, length}
use Rattle.std.specs.Bool.{then_some}
use Rattle.sizes.specs.Sizes.{leaves, path_len}
use Rattle.desk.specs.Readers.{sizes_of, kind_asked, id_asked, new_leaf, record_asked, is_marked}
use Rattle.gathering.specs.declared.Request.{Request}
use Rattle.items.specs.declared.View.{View}
use Rattle.items.specs.Way.{Reached}
use Rattle.items.specs.Real.{real}
use Rattle.opening.specs.Opening.{view_of, genuine}
use Rattle.opening.specs.Walk.{OpenDesk, Unsealed}
use Rattle.store.specs.Steps.{record_found}
use Rattle.store.specs.Carried.{is_there, carried_on}

pub record Ready (desk path : List ℕ) (v : View) (n : ℕ) (w : List ℕ) : Type 0 where
  pub good : OpenDesk desk
  pub new_leaf_low : new_leaf desk < leaves (sizes_of desk)
  pub view : v ≡ view_of desk
  pub size : length path ≡ path_len (sizes_of desk)
  pub reached : Reached (view_of desk) path n
  pub unsealed : Unsealed (view_of desk) path n w
  pub checks : genuine real desk path ≡ true

-- the requested block, and the record that it carries on
abbrev pub request_of : List ℕ → Request
request_of desk = record { id = id_asked desk; leaf = then_some (is_there (kind_asked desk) (is_marked desk (id_asked desk))) (new_leaf desk) }

abbrev pub carried_of : List ℕ → List ℕ → List ℕ
carried_of desk path = carried_on (kind_asked desk) (is_marked desk (id_asked desk)) (record_found real desk path) (record_asked desk)
