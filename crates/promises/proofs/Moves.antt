-- A request that is accepted, whatever path came back, sets exactly its id's position, to the draw. Assumes nothing but what is asked of digest and cipher.
use Rattle.std.specs.Prelude.{Ok}
use Prim.Native.Nat.{ℕ, pred, ◌+◌, ◌<◌, ◌≤◌}
use mathlib.Core.Path.{◌≡◌, refl, sym, ap, ◌∙◌}
use mathlib.Core.Bool.{cond}
use mathlib.Core.List.{List, map}
use native.Mathlib.Omega.{arith}
use lib.ListN.{length, get_or, set, length-map, length-set}
use lib.Seq.{get_or-set_same, get_or-set_other, ext_get_or}
use lib.Dec.{eqb}
use borrow.Author.Tests.{eqb-true, eqb-false}
use Rattle.words.proofs.Tests.{by_cases}
use Rattle.desk.specs.Layout.{ids_of, room_of}
use Rattle.desk.specs.Readers.{id_asked, new_leaf, position_of}
use Rattle.desk.proofs.Changed.{same-ids, same_room}
use Rattle.items.specs.Items.{Means, Sound}
use Rattle.draws.specs.Draws.{from}
use Rattle.draws.proofs.Numbers.{length_from, get_d_map, get_d-from}
use Rattle.asks.specs.Ask.{ask_of}
use Rattle.asks.proofs.Opened.{opened-changed, opened-id, opened-leaf}
use Rattle.keeping.proofs.Carry.{same-position}
use Rattle.promises.specs.Stores.{ours, Accepted}
use Rattle.promises.specs.DemandThree.{Around, asked_desk, finish_then}
use Rattle.promises.proofs.Answers.{asked_leaf}
use Rattle.promises.proofs.Finishes.{each_finish}

-- ---- positions as a list: that of id u at place u - 1

abbrev pub positions : ℕ → List ℕ → List ℕ
positions n desk = map (position_of desk) (from 1 n)

pub length-positions : (n : ℕ) (desk : List ℕ) → length (positions n desk) ≡ n
length-positions n desk = length-map (from 1 n) (position_of desk) ∙ length_from 1 n

pub get_d-positions : (n : ℕ) (desk : List ℕ) (i : ℕ) → i < n → get_or (positions n desk) i 0 ≡ position_of desk (1 + i)
get_d-positions n desk i h = get_d_map (position_of desk) (from 1 n) i (omega (arith, length_from 1 n)) ∙ ap (position_of desk) (get_d-from 1 n i h)

-- ---- a whole request

pub record Moved (n : ℕ) (desk : List ℕ) (u x : ℕ) (new : List ℕ) : Type 0 where
  pub ids : ids_of new ≡ n
  pub room : room_of new ≡ room_of desk
  pub now : positions n new ≡ set (positions n desk) (pred u) x

module _ (m : Means) (o : Sound m) (n : ℕ) (desk : List ℕ) (u x p : ℕ) (e : Around) (q : ids_of desk ≡ n) (byte : room_of desk < 256)
    (h : (ask_of desk e.kind u x e.content).answer ≡ Ok p) (a : Accepted (finish_then (ours m) desk u x e).answer) where
  abbrev old : List ℕ
  old = asked_desk (ours m) desk u x e

  abbrev new : List ℕ
  new = (finish_then (ours m) desk u x e).desk

  pub moves : Moved n desk u x new
  moves =
      let l = asked_leaf desk e.kind u x e.content p h in
      let k = l.passed in
      let c = opened-changed desk e.kind u x e.content k in
      let room : room_of old ≡ room_of desk = ap room_of l.after ∙ same_room c.same in
      let ids : ids_of old ≡ ids_of desk = ap ids_of l.after ∙ same-ids c.same in
      let id : id_asked old ≡ u = ap id_asked l.after ∙ opened-id desk e.kind u x e.content k in
      let leaf : new_leaf old ≡ x = ap new_leaf l.after ∙ opened-leaf desk e.kind u x e.content k in
      let f = (each_finish m o).leaves old e.path e.buffer (omega arith) a in
      let then : (v : ℕ) → 1 ≤ v → v ≤ n → position_of new v ≡ cond (eqb v u) x (position_of desk v) =
      λ v g w.
      by_cases (eqb v u)
      (λ z. rw z (ap (position_of new) (eqb-true v u z ∙ sym id) ∙ f.position ∙ leaf))
      (λ z.
      rw z
      (f.positions v g (omega arith) (λ y. eqb-false v u z (y ∙ id))
      ∙ ap (λ (d : List ℕ). position_of d v) l.after ∙ same-position c refl refl refl refl v g (omega arith))) in
      record {
        ids = f.ids ∙ ids ∙ q;
        room = f.room ∙ room;
        now =
            ext_get_or 0 (positions n new) (set (positions n desk) (pred u) x)
            (length-positions n new ∙ sym (length-set (positions n desk) (pred u) x ∙ length-positions n desk))
            (λ i g.
            let w : i < n = omega (arith, length-positions n new) in
            get_d-positions n new i w ∙ then (1 + i) (omega arith) (omega arith)
            ∙ by_cases (eqb (1 + i) u)
            (λ y.
            rw y
            (let z : i ≡ pred u = omega (arith, eqb-true (1 + i) u y) in
            sym
            (ap (λ (j : ℕ). get_or (set (positions n desk) (pred u) x) j 0) z
            ∙ get_or-set_same (positions n desk) (pred u) x 0 (omega (arith, length-positions n desk)))))
            (λ y.
            rw y
            (sym
            (get_or-set_other (positions n desk) (pred u) i x 0 (λ z. eqb-false (1 + i) u y (omega (arith, k.id_low))) ∙ get_d-positions n desk i w))));
      }
