-- How many blocks an accepted finish can leave over: at most one for each id, and one where nothing was written before. Assumes nothing but what is asked of
-- digest and cipher.
use Prim.Native.Nat.{ℕ, zero, suc, ◌<◌, ◌≤◌}
use mathlib.Core.Path.{◌≡◌, sym, ap, ◌∙◌}
use mathlib.Core.Bool.{Bool, true, false, not}
use mathlib.Core.Option.{Option, none, some}
use mathlib.Core.List.{List}
use native.Mathlib.Omega.{arith}
use lib.ListN.{length, length-append}
use lib.Dec.{eqb}
use Rattle.words.proofs.Tests.{by_cases}
use Rattle.bags.specs.Bags.{cnt}
use Rattle.bags.proofs.Bags.{cnt-true, cnt-both}
use Rattle.slots.specs.Slots.{Block}
use Rattle.desk.specs.Layout.{ids_of}
use Rattle.desk.specs.Readers.{status_of, id_asked}
use Rattle.desk.specs.Status.{open_status}
use Rattle.items.specs.Items.{Means, Sound}
use Rattle.opening.specs.Opening.{view_of, is_id}
use Rattle.store.specs.Steps.{new_stash}
use Rattle.keeping.specs.Server.{Agrees}
use Rattle.keeping.specs.Table.{Table, place_of, table_blocks}
use Rattle.keeping.proofs.Held.{none_of, few}
use Rattle.keeping.proofs.Genuine.{asks_of, agrees-genuine}
use Rattle.keeping.proofs.TableStep.{table_after}
use Rattle.keeping.proofs.MovedStep.{Checked, moved}
use Rattle.keeping.proofs.InvStep.{bag}
use Rattle.promises.specs.Stores.{Start}
use Rattle.promises.specs.Steps.{State}
use Rattle.promises.proofs.Stands.{Stands, none-some}

one_each : (desk : List ℕ) (table : Table) (n : ℕ) → length (table_blocks desk table n) ≤ n
one_each desk table zero = omega arith
one_each desk table (suc n) =
    omega (
      arith,
      length-append (table_blocks desk table n) (place_of desk (suc n) (table (suc n))),
      one_each desk table n,
      at_most (table (suc n)),
    )
  where
    at_most : (o : Option (List ℕ)) → length (place_of desk (suc n) o) ≤ 1
    at_most none = omega arith
    at_most (some r) = omega arith

module _ (m : Means) (o : Sound m) (b : Start) (byte : b.room < 256) (st : State) (v : Stands m b st) (s : status_of st.desk ≡ open_status) (path : List ℕ)
    (fair : Agrees (view_of st.desk) st.server path) where
  abbrev desk : List ℕ
  desk = st.desk

  abbrev over : List Block
  over = new_stash m desk path

  checked : Checked m desk path
  checked =
      record {
        good = v.good;
        status = s;
        byte = omega (arith, v.room);
        size = fair.size;
        genuine = agrees-genuine m desk path st.server st.table v.inv (asks_of desk v.good s) fair;
      }

  abbrev blocks : List Block
  blocks = table_blocks (moved m desk path checked) (table_after desk st.table) (ids_of desk)

  among : (t : Block → Bool) → cnt t over ≤ cnt t blocks
  among t = omega (arith, bag m o desk path st.server st.table checked v.inv fair t)

  pub left-few : length over ≤ b.ids
  left-few =
      omega (
        arith,
        cnt-true over,
        cnt-true blocks,
        among (λ x. true),
        one_each (moved m desk path checked) (table_after desk st.table) (ids_of desk),
        v.ids,
      )

  pub one_left : ((u : ℕ) → st.table u ≡ none) → length over ≤ 1
  one_left empty =
      let d = moved m desk path checked in
      let t = table_after desk st.table in
      let id = id_asked desk in
      let others : Block → Bool = λ c. not (is_id id c) in
      omega (
        arith,
        cnt-true over,
        cnt-both (is_id id) over,
        among (is_id id),
        among others,
        (few d t id (ids_of desk)).0,
        none_of d t others (ids_of desk) (λ u r g l h. only u r h) (ids_of desk) (omega arith),
      )
    where
      only : (u : ℕ) (r : List ℕ) → table_after desk st.table u ≡ some r → not (eqb u (id_asked desk)) ≡ false
      only u r h = by_cases (eqb u (id_asked desk)) (λ e. ap not e) (λ e. absurd (none-some r (sym (empty u) ∙ (rw e at h))))
