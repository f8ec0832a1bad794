-- In a state of the invariant: a lookup over a path that agrees finds the table's record, so step 3 answers as the plain table does. Assumes nothing.
use Prim.Native.Nat.{ℕ, ◌<◌}
use mathlib.Core.Path.{◌≡◌, refl, sym, ap, ◌∙◌}
use mathlib.Core.Bool.{Bool, false, not, ◌&&◌}
use mathlib.Core.List.{List, [], ◌∷◌}
use native.Mathlib.Omega.{arith}
use mathlib.Core.Option.{Option, none, some}
use lib.Dec.{eqb}
use borrow.Author.Tests.{eqb-true}
use Rattle.words.specs.Bytes.{same}
use Rattle.words.proofs.Tests.{by_cases, same-eq, same_refl}
use Rattle.bags.specs.Bags.{cnt}
use Rattle.slots.specs.Slots.{Block}
use Rattle.desk.specs.declared.Kind.{Kind}
use Rattle.desk.specs.declared.Kind.TheVariants.{Read, Write}
use Rattle.desk.specs.Layout.{ids_of}
use Rattle.desk.specs.Readers.{id_asked, kind_asked}
use Rattle.items.specs.Items.{Means}
use Rattle.opening.specs.Opening.{view_of, is_id, gathered}
use Rattle.store.specs.Steps.{lookup, answer_for, buffer_for, was_marked, record_found}
use Rattle.keeping.specs.Server.{Server, Agrees}
use Rattle.keeping.specs.Table.{Table, is_held, plain_answer, plain_buffer, table_blocks}
use Rattle.keeping.proofs.Held.{none_of, there-is}
use Rattle.keeping.proofs.Genuine.{Inv, Asks, total, not-off}

-- the one block of an id is what a lookup finds
lookup-is : (u : ℕ) (r : List ℕ) (bs : List Block) → 0 < cnt (is_id u) bs → cnt (λ b. is_id u b && not (same b.bytes r)) bs ≡ 0 → lookup u bs ≡ r
unfolding lookup
lookup-is u r [] h z = absurd (omega arith)
lookup-is u r (b ∷ bs) h z =
    by_cases (is_id u b)
    (λ e. rw e (by_cases (same b.bytes r) (λ f. same-eq b.bytes r f) (λ f. absurd (omega (arith, rw (e, f) at z)))))
    (λ e. rw e (lookup-is u r bs (omega (arith, rw e at h)) (omega (arith, rw e at z))))

pub some_inj : (a b : List ℕ) → some a ≡ some b → a ≡ b
some_inj a b q = cc

module _ (m : Means) (desk path : List ℕ) (server : Server) (table : Table) (v : Inv m desk server table) (asks : Asks desk)
    (fair : Agrees (view_of desk) server path) where
  abbrev u : ℕ
  u = id_asked desk

  pub found-record : (r : List ℕ) → table u ≡ some r → record_found m desk path ≡ r
  found-record r e =
      let w : Block → Bool = λ b. is_id u b && not (same b.bytes r) in
      let t : cnt w (table_blocks desk table (ids_of desk)) ≡ 0 = none_of desk table w (ids_of desk) (λ u' r' g l h. only u' r' h) (ids_of desk) (omega arith) in
      let p = there-is desk table u (ids_of desk) asks.id_low asks.id_high (ap is_held e) in
      lookup-is u r (gathered m desk path)
      (omega (arith, p, total m desk path server table v asks fair (is_id u), not-off m desk path server table v asks fair))
      (omega (arith, t, total m desk path server table v asks fair w))
    where
      only : (u' : ℕ) (r' : List ℕ) → table u' ≡ some r' → (eqb u' (id_asked desk) && not (same r' r)) ≡ false
      only u' r' h =
          by_cases (eqb u' (id_asked desk))
          (λ f. let q : r' ≡ r = some_inj r' r (sym h ∙ ap table (eqb-true u' (id_asked desk) f) ∙ e) in rw (f, q, same_refl r) refl)
          (λ f. rw f refl)

  plain_of : (kind : Kind) (o : Option (List ℕ)) → table u ≡ o → (buffer : List ℕ)
      → (answer_for kind (is_held o) ≡ plain_answer kind o) × (buffer_for kind (is_held o) (record_found m desk path) buffer ≡ plain_buffer kind o buffer)
  plain_of Read none e buffer = (refl, refl)
  plain_of Read (some r) e buffer = (refl, found-record r e)
  plain_of Write none e buffer = (refl, refl)
  plain_of Write (some r) e buffer = (refl, refl)

  pub answers-plain : (buffer : List ℕ)
      → (answer_for (kind_asked desk) (was_marked m desk path) ≡ plain_answer (kind_asked desk) (table u))
      × (buffer_for (kind_asked desk) (was_marked m desk path) (record_found m desk path) buffer ≡ plain_buffer (kind_asked desk) (table u) buffer)
  answers-plain buffer =
      let k : was_marked m desk path ≡ is_held (table u) = v.marks u asks.id_low asks.id_high in
      rw k (plain_of (kind_asked desk) (table u) refl buffer)
