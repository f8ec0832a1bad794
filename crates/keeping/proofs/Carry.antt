-- The invariant carried over to another desk: one that says the same of sizes, key, root and stash, and positions and marks as the table has them. Assumes nothing.
use Prim.Native.Nat.{ℕ, zero, suc, ◌+◌, ◌≤◌}
use mathlib.Core.Path.{◌≡◌, refl, sym, ap, ap₂, subst, ◌∙◌}
use mathlib.Core.Bool.{Bool}
use mathlib.Core.List.{List, [], ◌∷◌, ◌++◌}
use native.Mathlib.Omega.{arith}
use mathlib.Core.Option.{Option, none, some}
use lib.ListN.{get_or, drop}
use lib.Dec.{eqb}
use Rattle.words.specs.Numbers.{number}
use Rattle.sizes.specs.declared.Sizes.{Sizes}
use Rattle.sizes.specs.Sizes.{count_len}
use Rattle.bags.specs.Bags.{cnt}
use Rattle.slots.specs.Slots.{Block, blocks_by}
use Rattle.desk.specs.Layout.{ids_of, shape_of, place_at, mark_in}
use Rattle.desk.specs.Readers.{sizes_of, key_of, root_of, written_of, is_written, position_of, is_marked, stash_of}
use Rattle.desk.specs.Parts.{Parts, parts_of}
use Rattle.desk.proofs.Changed.{Changed, unchanged, same-ids, same-sizes}
use Rattle.desk.proofs.Read.{read-position, read-mark, read-stash}
use Rattle.items.specs.Items.{Means}
use Rattle.keeping.specs.Server.{Server, standing}
use Rattle.keeping.specs.Table.{Table, place_of, table_blocks}
use Rattle.keeping.proofs.Tied.{Tied}
use Rattle.keeping.proofs.Genuine.{Inv}

-- a statement about sizes, key, written and root, moved to another desk's
module _ (P : Sizes → List ℕ → Bool → List ℕ → Type 0) (desk : List ℕ) (s : Sizes) (key : List ℕ) (written : ℕ) (root : List ℕ) where
  pub to-desk : sizes_of desk ≡ s → key_of desk ≡ key → written_of desk ≡ written → root_of desk ≡ root → P s key (eqb written 1) root
      → P (sizes_of desk) (key_of desk) (is_written desk) (root_of desk)
  to-desk a b c d p =
      subst (λ (z : Sizes). P z (key_of desk) (is_written desk) (root_of desk)) (sym a)
      (subst (λ (z : List ℕ). P s z (is_written desk) (root_of desk)) (sym b)
      (subst (λ (z : ℕ). P s key (eqb z 1) (root_of desk)) (sym c) (subst (λ (z : List ℕ). P s key (eqb written 1) z) (sym d) p)))

place_same : (desk desk' : List ℕ) (u : ℕ) (o : Option (List ℕ)) → position_of desk' u ≡ position_of desk u → place_of desk' u o ≡ place_of desk u o
place_same desk desk' u none e = refl
place_same desk desk' u (some r) e = ap (λ (l : ℕ). record { id = u; leaf = l; bytes = r } ∷ []) e

pub blocks-same : (desk desk' : List ℕ) (table : Table) (n : ℕ) → ((u : ℕ) → 1 ≤ u → u ≤ n → position_of desk' u ≡ position_of desk u) → table_blocks desk' table n ≡ table_blocks desk table n
blocks-same desk desk' table zero f = refl
blocks-same desk desk' table (suc n) f =
    ap₂ (λ (a b : List Block). a ++ b) (blocks-same desk desk' table n (λ u g l. f u g (omega arith))) (place_same desk desk' (suc n) (table (suc n)) (f (suc n) (omega arith) (omega arith)))

-- ---- a change of status and request alone

module _ {desk ys : List ℕ} {p : Parts} (c : Changed desk ys p) (w : p.written ≡ (parts_of desk).written) (r : p.root ≡ (parts_of desk).root)
    (pl : p.places ≡ (parts_of desk).places) (st : p.stash ≡ (parts_of desk).stash) where
  pub same-position : (u : ℕ) → 1 ≤ u → u ≤ ids_of desk → position_of ys u ≡ position_of desk u
  same-position u g l =
      read-position c u g l ∙ ap (λ (d : List ℕ). number 2 d (place_at u)) pl ∙ sym (read-position (unchanged desk) u g l)

  pub same-mark : (u : ℕ) → 1 ≤ u → u ≤ ids_of desk → is_marked ys u ≡ is_marked desk u
  same-mark u g l =
      ap (λ (x : ℕ). eqb x 1)
      (read-mark c u g l ∙ ap (λ (d : List ℕ). get_or d (place_at u + mark_in) 0) pl ∙ sym (read-mark (unchanged desk) u g l))

  same-stash : stash_of ys ≡ stash_of desk
  same-stash =
      read-stash c
      ∙ ap (λ (e : List ℕ). blocks_by (shape_of desk).r (number 2 e 0) (drop count_len e)) st
      ∙ sym (read-stash (unchanged desk))

  pub inv-kept : (m : Means) (server : Server) (table : Table) → Inv m desk server table → Inv m ys server table
  inv-kept m server table v =
      let s = same-sizes c.same in
      let k = c.same.key in
      let n : ids_of ys ≡ ids_of desk = same-ids c.same in
      record {
        tied =
            to-desk (λ z key wr root. Tied m z key server z.height 0 0 wr root) ys (sizes_of desk) (key_of desk) (written_of desk) (root_of desk) s k
            (c.written ∙ w) (c.root ∙ r) v.tied;
        bag =
            λ t.
            to-desk (λ z key wr root. cnt t (standing m z key server z.height 0 0 wr ++ stash_of ys) ≡ cnt t (table_blocks ys table (ids_of ys)))
            ys (sizes_of desk) (key_of desk) (written_of desk) (root_of desk) s k (c.written ∙ w) (c.root ∙ r)
            (ap (λ (x : List Block). cnt t (standing m (sizes_of desk) (key_of desk) server (sizes_of desk).height 0 0 (is_written desk) ++ x)) same-stash ∙ v.bag t
            ∙ ap (cnt t) (sym (ap (table_blocks ys table) n ∙ blocks-same desk ys table (ids_of desk) same-position)));
        marks = λ u g l. same-mark u g (rw n at l) ∙ v.marks u g (rw n at l);
        sizes = v.sizes;
      }
