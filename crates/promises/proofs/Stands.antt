-- What stands in every state: the invariant of desk, server and table, and what the member's book has to do with the desk. It stands after format. Assumes
-- nothing.
use Rattle.std.specs.Prelude.{Ok}
use Prim.Native.Nat.{ℕ, ◌-◌, ◌≤◌}
use mathlib.Core.Path.{◌≡◌, refl, sym, ap, subst, ◌∙◌}
use mathlib.Core.Bool.{Bool, true, false, cond}
use mathlib.Core.Option.{none, some}
use mathlib.Core.List.{List, [], ◌++◌}
use native.Mathlib.Omega.{arith}
use lib.ListN.{get_or}
use lib.Dec.{eqb}
use Rattle.bags.specs.Bags.{cnt}
use Rattle.desk.specs.Layout.{ids_of, room_of}
use Rattle.desk.specs.Readers.{sizes_of, key_of, root_of, is_written, status_of, id_asked, new_leaf, leaf_asked, position_of, stash_of}
use Rattle.desk.specs.Status.{ready_status, open_status}
use Rattle.desk.specs.Good.{good_desk}
use Rattle.items.specs.Items.{Means}
use Rattle.formats.specs.Format.{formatted}
use Rattle.formats.proofs.Formatted.{formatted-good, new-status, new-written, new-sizes, new-key, new-ids, new-room, new-position, new-mark, new-blocks}
use Rattle.keeping.specs.Server.{Server, standing}
use Rattle.keeping.specs.Table.{Table, is_held}
use Rattle.keeping.proofs.Standing.{nothing-stands}
use Rattle.keeping.proofs.Held.{none_of}
use Rattle.keeping.proofs.Tied.{tied-when}
use Rattle.keeping.proofs.Genuine.{Inv}
use Rattle.promises.specs.Stores.{Start, format_for, Request}
use Rattle.promises.specs.Steps.{State, begin}
use Rattle.promises.specs.DemandTwo.{Holds}
use Rattle.opening.proofs.Tests.{no_true}
use Rattle.promises.proofs.Answers.{passed, format-desk}

-- an open request: body (c) holds it, and the leaf in the book is the id's position
pub record Opened (st : State) : Type 0 where
  pub request : Request
  pub is : st.open_request ≡ some request
  pub holds : Holds st.desk request
  pub leaf : st.asked_leaf ≡ leaf_asked st.desk

pub record Stands (m : Means) (b : Start) (st : State) : Type 0 where
  pub good : good_desk st.desk ≡ true
  pub inv : Inv m st.desk st.server st.table
  pub sizes : sizes_of st.desk ≡ b.sizes
  pub key : key_of st.desk ≡ b.key
  pub ids : ids_of st.desk ≡ b.ids
  pub room : room_of st.desk ≡ b.room
  pub opens : status_of st.desk ≡ open_status → Opened st
  pub is_ready : status_of st.desk ≡ ready_status → st.open_request ≡ none
  -- the leaf last drawn for an id is its position, but for the id of an open request: there it is the new leaf
  pub drawn : status_of st.desk ≡ ready_status → (u : ℕ) → 1 ≤ u → u ≤ b.ids → position_of st.desk u ≡ st.drawn u
  pub drawn_open : status_of st.desk ≡ open_status → (u : ℕ) → 1 ≤ u → u ≤ b.ids
      → cond (eqb u (id_asked st.desk)) (new_leaf st.desk) (position_of st.desk u) ≡ st.drawn u

-- ---- after format

pub none-some : (r : List ℕ) → none ≡ some r → ⊥
none-some r e = no_true (sym (ap is_held e))

abbrev begin_at : Start → List ℕ → State
begin_at b d =
    record {
      desk = d;
      server = λ k j. none;
      table = λ id. none;
      drawn = λ id. get_or b.starts (id - 1) 0;
      open_request = none;
      asked_leaf = 0;
    }

abbrev new : Start → List ℕ
new b = formatted b.sizes.height b.sizes.slots b.room b.ids b.key b.starts

module _ (m : Means) (b : Start) (lent : List ℕ) (f : (format_for b lent).answer ≡ Ok tt) where
  abbrev L : ℕ
  L = b.sizes.height

  abbrev Z : ℕ
  Z = b.sizes.slots

  abbrev nothing : Server
  nothing = λ k j. none

  abbrev empty : Table
  empty = λ id. none

  not_written : is_written (new b) ≡ false
  not_written = ap (λ (x : ℕ). eqb x 1) (new-written lent L Z b.room b.ids b.key b.starts (passed b lent f))

  begin-inv : Inv m (new b) nothing empty
  begin-inv =
      let p = passed b lent f in
      record {
        tied =
            tied-when m (sizes_of (new b)) (key_of (new b)) nothing (sizes_of (new b)).height 0 0 (is_written (new b)) (root_of (new b)) (λ e.
            absurd (no_true (sym e ∙ not_written)));
        bag =
            λ t.
            let st = ap (λ (w : Bool). standing m (sizes_of (new b)) (key_of (new b)) nothing (sizes_of (new b)).height 0 0 w) not_written
            ∙ nothing-stands m (sizes_of (new b)) (key_of (new b)) 0 nothing (sizes_of (new b)).height 0 0 in
            let e : standing m (sizes_of (new b)) (key_of (new b)) nothing (sizes_of (new b)).height 0 0 (is_written (new b)) ++ stash_of (new b) ≡ [] =
            rw (st, new-blocks lent L Z b.room b.ids b.key b.starts p) refl in
            ap (cnt t) e ∙ sym (none_of (new b) empty t (ids_of (new b)) (λ u r g l h. absurd (none-some r h)) (ids_of (new b)) (omega arith));
        marks =
            λ u g l.
            ap (λ (x : ℕ). eqb x 1)
            (new-mark lent L Z b.room b.ids b.key b.starts p u g (rw (new-ids lent L Z b.room b.ids b.key b.starts p) at l));
        sizes = λ u r e. absurd (none-some r e);
      }

  begin-new : Stands m b (begin_at b (new b))
  begin-new =
      let p = passed b lent f in
      let s = new-status lent L Z b.room b.ids b.key b.starts p in
      record {
        good = formatted-good lent L Z b.room b.ids b.key b.starts p;
        inv = begin-inv;
        sizes = new-sizes lent L Z b.room b.ids b.key b.starts p;
        key = new-key lent L Z b.room b.ids b.key b.starts p;
        ids = new-ids lent L Z b.room b.ids b.key b.starts p;
        room = new-room lent L Z b.room b.ids b.key b.starts p;
        opens = λ e. absurd (closed (sym s ∙ e));
        is_ready = λ e. refl;
        drawn = λ e u g l. new-position lent L Z b.room b.ids b.key b.starts p u g l;
        drawn_open = λ e u g l. absurd (closed (sym s ∙ e));
      }
    where
      closed : ready_status ≡ open_status → ⊥
      closed e = omega arith

  pub begin-stands : Stands m b (begin b lent)
  begin-stands = subst (λ (d : List ℕ). Stands m b (begin_at b d)) (sym (format-desk b lent f)) begin-new
