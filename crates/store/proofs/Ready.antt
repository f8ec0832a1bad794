-- Where steps 3 to 6 start, what is gathered can be arranged, and the plan is the one of the paper. Assumes nothing.
use Prim.Native.Nat.{ℕ, ◌+◌, ◌<◌}
use mathlib.Core.Path.{◌≡◌, refl, sym, ap, subst, ◌∙◌}
use mathlib.Core.Bool.{Bool, true, false}
use mathlib.Core.List.{List}
use native.Mathlib.Omega.{arith}
use lib.ListN.{length}
use Rattle.std.specs.Bool.{then_some}
use Rattle.std.specs.Option.{IfSome}
use Rattle.words.proofs.Splice.{length_part}
use Rattle.sizes.specs.declared.Sizes.{Sizes}
use Rattle.sizes.specs.Sizes.{leaves, record_len, request_head, path_len}
use Rattle.sizes.proofs.Lengths.{path_most}
use Rattle.slots.specs.Slots.{Block}
use Rattle.desk.specs.declared.Kind.{Kind}
use Rattle.desk.specs.declared.Kind.TheVariants.{Read, Write}
use Rattle.desk.specs.Layout.{c_at, shape_of, ids_of}
use Rattle.desk.specs.Readers.{sizes_of, kind_asked, id_asked, new_leaf, is_marked, record_asked, stash_count}
use Rattle.items.specs.declared.View.{View}
use Rattle.items.specs.Way.{Reached}
use Rattle.items.specs.Real.{real}
use Rattle.items.proofs.Sound.{real-sound}
use Rattle.placing.specs.Ids.{Placeable}
use Rattle.placing.specs.Bank.{Planned}
use Rattle.gathering.specs.declared.Request.{Request}
use Rattle.gathering.specs.Gathering as gathering
use Rattle.opening.specs.Opening.{stash_slots}
use Rattle.opening.specs.Walk.{Unsealed}
use Rattle.opening.proofs.Genuine.{genuine-checks}
use Rattle.opening.proofs.Open.{stash_room}
use Rattle.opening.proofs.Gathered.{gathered-placeable, record-length}
use Rattle.store.specs.Steps.{was_marked, record_found, to_place}
use Rattle.store.specs.Carried.{is_there, carried_on}
use Rattle.store.specs.Ready.{Ready, request_of, carried_of}
use Rattle.store.proofs.Gathering.{found-is, place_same}

carried-long : (kind : Kind) (marked : Bool) (found asked : List ℕ) → (marked ≡ true → length found ≡ record_len) → length asked ≡ record_len → length (carried_on kind marked found asked) ≡ record_len
carried-long Read true found asked f a = f refl
carried-long Read false found asked f a = a
carried-long Write marked found asked f a = a

leaf-if : (there : Bool) (leaf n : ℕ) → leaf < n → IfSome (then_some there leaf) (λ l. l < n)
leaf-if true leaf n h = h
leaf-if false leaf n h = tt

module _ (desk path : List ℕ) (v : View) (n : ℕ) (w : List ℕ) (y : Ready desk path v n w) where
  pub view-reached : Reached v path n
  view-reached = subst (λ (x : View). Reached x path n) (sym y.view) y.reached

  pub view-unsealed : Unsealed v path n w
  view-unsealed = subst (λ (x : View). Unsealed x path n w) (sym y.view) y.unsealed

  pub view-size : length path ≡ path_len v.sizes
  view-size = subst (λ (x : View). length path ≡ path_len x.sizes) (sym y.view) y.size

  pub record-long : length (carried_of desk path) ≡ record_len
  record-long =
      let o = y.good in
      carried-long (kind_asked desk) (was_marked real desk path) (record_found real desk path) (record_asked desk)
      (λ h. record-length real desk path o real-sound (omega (arith, y.size)) y.checks h)
      (length_part desk (c_at (shape_of desk) + request_head) record_len (omega (arith, o.whole.size)))

  ready-opened : gathering.Opened (sizes_of desk) (ids_of desk) w n (stash_slots desk) (stash_count desk) (request_of desk)
  ready-opened =
      let o = y.good in
      record {
        range = o.range;
        ids_at_most = o.whole.small.n;
        reach = omega (arith, y.reached.most);
        path_size = omega (arith, y.unsealed.size, path_most (sizes_of desk) o.range);
        room_at_most = omega (arith, o.count, o.whole.small.s);
        stash_size = stash_room desk o;
        blocks = subst (Placeable (ids_of desk)) (sym (found-is desk path w n y.reached y.unsealed)) (gathered-placeable real desk path o (genuine-checks real desk path y.checks));
        id_low = o.low;
        id_high = o.high;
        new_leaf_low = leaf-if (is_there (kind_asked desk) (is_marked desk (id_asked desk))) (new_leaf desk) (leaves (sizes_of desk)) y.new_leaf_low;
      }

  -- with what the code reads
  module _ (s : Sizes) (ids : ℕ) (stash : List ℕ) (count : ℕ) (r : Request) (s-is : s ≡ sizes_of desk) (ids-is : ids ≡ ids_of desk) (stash-is : stash ≡ stash_slots desk)
      (count-is : count ≡ stash_count desk) (r-is : r ≡ request_of desk) where
    pub arranged : gathering.Opened s ids w n stash count r
    arranged = rw (s-is, ids-is, stash-is, count-is, r-is) ready-opened

    pub planned : (bytes : List ℕ) → bytes ≡ carried_of desk path → (leaf all over : ℕ) (bank places at : List ℕ) → Planned s leaf (gathering.to_place r bytes (gathering.found s w n stash count)) all over bank places at
        → Planned s leaf (to_place real desk path) all over bank places at
    planned bytes bytes-is leaf all over bank places at p =
        let e : gathering.to_place r bytes (gathering.found s w n stash count) ≡ to_place real desk path =
        rw (s-is, stash-is, count-is, r-is, bytes-is) (ap (gathering.to_place (request_of desk) (carried_of desk path)) (found-is desk path w n y.reached y.unsealed) ∙ place_same desk path) in
        subst (λ (bs : List Block). Planned s leaf bs all over bank places at) e p
