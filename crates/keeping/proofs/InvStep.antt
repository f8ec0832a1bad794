-- The invariant after an accepted finish over a path that agrees with the server: desk, server and table go on together. Assumes nothing but what is asked
-- of digest and cipher.
use Prim.Native.Nat.{ℕ, ◌+◌, ◌≤◌}
use mathlib.Core.Path.{◌≡◌, refl, sym, ap, ◌∙◌}
use mathlib.Core.Logic.{◌≢◌}
use mathlib.Core.Bool.{Bool, true}
use mathlib.Core.List.{List, ◌++◌}
use native.Mathlib.Omega.{arith}
use mathlib.Core.Option.{Option, none, some}
use lib.ListN.{length}
use lib.Dec.{eqb}
use borrow.Author.Tests.{eqb-true, eqb-false}
use Rattle.words.proofs.Splice.{length_part}
use Rattle.words.proofs.Tests.{by_cases}
use Rattle.sizes.specs.Sizes.{record_len, request_head}
use Rattle.bags.specs.Bags.{cnt, flat}
use Rattle.bags.proofs.Bags.{cnt-append}
use Rattle.slots.specs.Slots.{Block}
use Rattle.desk.specs.declared.Kind.{Kind}
use Rattle.desk.specs.declared.Kind.TheVariants.{Read, Write}
use Rattle.desk.specs.Layout.{c_at, ids_of, room_of, shape_of}
use Rattle.desk.specs.Readers.{sizes_of, key_of, height_of, kind_asked, id_asked, record_asked, leaf_asked, mark_of, is_marked, stash_of}
use Rattle.desk.specs.Parts.{Parts}
use Rattle.desk.proofs.Changed.{Changed, same-ids, same-sizes}
use Rattle.items.specs.Items.{Means, Sound, counter_of}
use Rattle.items.specs.Way.{item, reachable}
use Rattle.opening.specs.Opening.{view_of, last_counter}
use Rattle.store.specs.Steps.{mark_for, placed, new_stash, new_path, new_root, new_desk}
use Rattle.keeping.specs.Server.{Server, Agrees, wrote, standing}
use Rattle.keeping.specs.Table.{Table, is_held, plain_held, table_blocks}
use Rattle.keeping.proofs.Tied.{Tied}
use Rattle.keeping.proofs.Genuine.{Inv}
use Rattle.keeping.proofs.Plain.{some_inj}
use Rattle.keeping.proofs.TableStep.{table_after, bag-after}
use Rattle.keeping.proofs.TreeStep.{tied-after}
use Rattle.keeping.proofs.StandStep.{standing-after}
use Rattle.keeping.proofs.Carry.{to-desk}
use Rattle.keeping.proofs.MovedStep.{Checked, moved, parts_moved, moved-changed, size, asks, position-new, position-old, mark-new, mark-old}
use Rattle.keeping.proofs.PlacedStep.{placed-length, laid}
use Rattle.keeping.proofs.DeskStep.{now-changed, now-stash}

mark-after : (kind : Kind) (o : Option (List ℕ)) (r : List ℕ) → eqb (mark_for kind (is_held o)) 1 ≡ is_held (plain_held kind o r)
mark-after Read none r = refl
mark-after Read (some x) r = refl
mark-after Write none r = refl
mark-after Write (some x) r = refl

held-size : (kind : Kind) (o : Option (List ℕ)) (r x : List ℕ) → ((y : List ℕ) → o ≡ some y → length y ≡ record_len) → length x ≡ record_len → plain_held kind o x ≡ some r → length r ≡ record_len
held-size Read o r x f l e = f r e
held-size Write o r x f l e = let q : x ≡ r = some_inj x r e in ap length (sym q) ∙ l

module _ (m : Means) (o : Sound m) (desk path : List ℕ) (server : Server) (table : Table) (c : Checked m desk path) (v : Inv m desk server table)
    (fair : Agrees (view_of desk) server path) where
  abbrev id : ℕ
  id = id_asked desk

  -- ---- the table after the request: marks, and the lengths of records

  abbrev after : Table
  after = table_after desk table

  marks-after : {ys : List ℕ} {p : Parts} → Changed desk ys p → p.places ≡ (parts_moved m desk path c).places → (u : ℕ) → 1 ≤ u → u ≤ ids_of desk
      → is_marked ys u ≡ is_held (after u)
  marks-after {ys} ch e u g l =
      by_cases (eqb u id)
      (λ q.
      let z = eqb-true u id q in
      ap (λ (x : ℕ). eqb (mark_of ys x) 1) z
      ∙ ap (λ (x : ℕ). eqb x 1) (mark-new m desk path c ch e)
      ∙ ap (λ (b : Bool). eqb (mark_for (kind_asked desk) b) 1) (v.marks id (asks m desk path c).id_low (asks m desk path c).id_high)
      ∙ mark-after (kind_asked desk) (table id) (record_asked desk)
      ∙ sym (rw q (ap (λ (x : ℕ). is_held (plain_held (kind_asked desk) (table x) (record_asked desk))) z)))
      (λ q. ap (λ (x : ℕ). eqb x 1) (mark-old m desk path c ch e u g l (eqb-false u id q)) ∙ v.marks u g l ∙ sym (rw q refl))

  sizes-after : (u : ℕ) (r : List ℕ) → after u ≡ some r → length r ≡ record_len
  sizes-after u r e =
      by_cases (eqb u id)
      (λ q.
      held-size (kind_asked desk) (table u) r (record_asked desk) (v.sizes u)
      (length_part desk (c_at (shape_of desk) + request_head) record_len (omega (arith, size m desk path c))) (rw q at e))
      (λ q. v.sizes u r (rw q at e))

  -- what is placed or remains is among the table's blocks
  pub bag : (t : Block → Bool)
      → cnt t (flat (placed m desk path)) + cnt t (new_stash m desk path) ≤ cnt t (table_blocks (moved m desk path c) (table_after desk table) (ids_of desk))
  bag t =
      let ch = moved-changed m desk path c in
      omega (
        arith,
        bag-after m desk path server table v (asks m desk path c) fair (moved m desk path c) (position-new m desk path c ch refl) (position-old m desk path c ch refl) t,
      )

  -- ---- the invariant

  abbrev now : List ℕ
  now = new_desk m desk path

  abbrev server' : Server
  server' = wrote (sizes_of desk) (leaf_asked desk) (new_path m desk path) server

  module _ (room : length (new_stash m desk path) ≤ room_of desk)
      (fresh : (k : ℕ) → k ≤ height_of desk → reachable (view_of desk) path k ≡ true → counter_of (item (view_of desk) path k) ≢ last_counter) where
    pub inv-after : Inv m now server' after
    inv-after =
        let ch = now-changed m o desk path c room in
        let s = same-sizes ch.same in
        let k = ch.same.key in
        let n : ids_of now ≡ ids_of desk = same-ids ch.same in
        let low = (asks m desk path c).low in
        let here = laid m o desk path c in
        let bs : List Block = new_stash m desk path in
        record {
          tied =
              to-desk (λ z key wr root. Tied m z key server' z.height 0 0 wr root) now (sizes_of desk) (key_of desk) 1 (new_root m desk path) s k
              ch.written ch.root (tied-after m o (view_of desk) path server low v.tied fair (placed m desk path) here fresh);
          bag =
              λ t.
              to-desk (λ z key wr root. cnt t (standing m z key server' z.height 0 0 wr ++ stash_of now) ≡ cnt t (table_blocks now after (ids_of now)))
              now (sizes_of desk) (key_of desk) 1 (new_root m desk path) s k ch.written ch.root
              (let st = standing m (sizes_of desk) (key_of desk) server' (sizes_of desk).height 0 0 true in
              let a : cnt t (st ++ stash_of now) ≡ cnt t st + cnt t bs =
              cnt-append t st (stash_of now) ∙ ap (λ (x : List Block). cnt t st + cnt t x) (now-stash m o desk path c room) in
              let b = standing-after m o (view_of desk) path server low v.tied fair (placed m desk path) here fresh (placed-length m o desk path c) t in
              let e = bag-after m desk path server table v (asks m desk path c) fair now (position-new m desk path c ch refl) (position-old m desk path c ch refl) t in
              let f : cnt t (table_blocks now after (ids_of now)) ≡ cnt t (table_blocks now after (ids_of desk)) = ap (λ (x : ℕ). cnt t (table_blocks now after x)) n in
              omega (arith, a, b, e, f));
          marks = λ u g l. marks-after ch refl u g (rw n at l);
          sizes = sizes-after;
        }
