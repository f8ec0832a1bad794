-- What stands gives what demand 2 asks of a state, over any paths that agree with the server. Assumes nothing but what is asked of digest and cipher.
use Rattle.sizes.specs.declared.Refusal.{Refusal}
use Rattle.std.specs.Prelude.{Ok, Err, Result}
use Prim.Native.Nat.{ℕ, suc, ◌+◌, ◌-◌, ◌<◌, ◌≤◌}
use mathlib.Core.Path.{◌≡◌, refl, sym, ap, ap₂, subst, ◌∙◌}
use mathlib.Core.Logic.{◌≢◌, ◌↔◌}
use mathlib.Core.Bool.{Bool, true}
use mathlib.Core.Option.{Option, none, some}
use mathlib.Core.List.{List, [], ◌++◌}
use native.Mathlib.Omega.{arith}
use lib.ListN.{length, get_or, drop}
use lib.Dec.{eqb}
use Rattle.sizes.specs.declared.Sizes.{Sizes}
use Rattle.sizes.specs.declared.Refusal.TheVariants.{Forged, Full}
use Rattle.sizes.specs.Sizes.{record_len, count_len, item_of}
use Rattle.bags.specs.Bags.{those}
use Rattle.slots.specs.Slots.{Block}
use Rattle.slots.proofs.Blocks.{length-blocks}
use Rattle.desk.specs.declared.Kind.{Kind}
use Rattle.desk.specs.Layout.{e_at, ids_of, shape_of}
use Rattle.desk.specs.Readers.{sizes_of, height_of, key_of, root_of, is_written, status_of, kind_asked, id_asked, leaf_asked, stash_count, stash_of}
use Rattle.desk.specs.Status.{ready_status, open_status}
use Rattle.desk.proofs.Exactly.{good-conditions}
use Rattle.items.specs.Items.{Means, Sound, counter_of, flag_of, digest_of, item_digest, blocks_in, slots_opened}
use Rattle.items.specs.Way.{bucket}
use Rattle.opening.specs.Opening.{view_of, is_id, Genuine}
use Rattle.opening.proofs.Tests.{no_true}
use Rattle.writing.specs.Writing.{new_digest, written}
use Rattle.store.specs.declared.Finished.{Finished}
use Rattle.store.specs.Steps.{placed, new_stash, new_path, new_desk, was_marked}
use Rattle.store.specs.Finish.{finish_of, finish_checked}
use Rattle.keeping.specs.Server.{Agrees, standing}
use Rattle.keeping.specs.Table.{is_held, plain_answer, plain_buffer, place_of, ever_written}
use Rattle.keeping.proofs.Genuine.{asks_of, agrees-genuine}
use Rattle.keeping.proofs.Plain.{answers-plain}
use Rattle.keeping.proofs.OnePlace.{one_place, how-many}
use Rattle.keeping.proofs.PlacedStep.{laid, buckets-rising}
use Rattle.keeping.proofs.Written.{Lies, new_item, digest_below, item-new, flag-new, digest-new, blocks-new, counter-new, slots-new}
use Rattle.keeping.proofs.TreeStep.{count_low}
use Rattle.promises.specs.Stores.{ours, Start, Request, Accepted}
use Rattle.promises.specs.Steps.{State}
use Rattle.promises.specs.DemandTwo.{Ready, WornOut, blocks_of_store, Writes, Kept}
use Rattle.promises.proofs.Answers.{finished-refused, finished-done}
use Rattle.promises.proofs.Exactly.{exactly}
use Rattle.promises.proofs.Past.{late-ready, Through, done-through}
use Rattle.promises.proofs.Stands.{Stands}
use Rattle.promises.proofs.AskStep.{ask-takes, ask-shows}
use Rattle.promises.proofs.FinishStep.{checked, fresh, changed}

same-request : (q r : Request) → some q ≡ some r → q ≡ r
same-request q r e = cc

held-some : (o : Option (List ℕ)) → (is_held o ≡ true) ↔ (o ≢ none)
held-some none = ((λ h e. no_true (sym h)), λ n. absurd (n refl))
held-some (some r) = ((λ h e. no_true (ap is_held e)), λ n. refl)

module _ (m : Means) (o : Sound m) (b : Start) (byte : b.room < 256) (st : State) (v : Stands m b st) where
  abbrev desk : List ℕ
  desk = st.desk

  -- ---- one place, and how many

  abbrev blocks : List Block
  blocks = standing m (sizes_of desk) (key_of desk) st.server (height_of desk) 0 0 (is_written desk) ++ stash_of desk

  store-blocks : blocks_of_store m b st ≡ blocks
  store-blocks =
      sym
      (ap₂ (λ (s : Sizes) (k : List ℕ). standing m s k st.server s.height 0 0 (is_written desk) ++ stash_of desk) v.sizes v.key)

  places : (id : ℕ) → 1 ≤ id → id ≤ b.ids → those (is_id id) (blocks_of_store m b st) ≡ place_of desk id (st.table id)
  places id g l = ap (those (is_id id)) store-blocks ∙ one_place desk st.table (ids_of desk) blocks v.inv.bag id g (rw v.ids l)

  count-is : length (blocks_of_store m b st) ≡ ever_written st.table b.ids
  count-is = ap length store-blocks ∙ how-many desk st.table (ids_of desk) blocks v.inv.bag ∙ ap (ever_written st.table) v.ids

  room-is : length (stash_of desk) ≤ b.room
  room-is =
      let l = length-blocks record_len (stash_count desk) (drop (e_at (shape_of desk) + count_len) desk) in
      omega (arith, l, (good-conditions desk v.good).count_high, v.room)

  -- ---- a path that agrees

  module _ (path buffer : List ℕ) (fair : Agrees (view_of desk) st.server path) where
    abbrev answer : Result Finished Refusal
    answer = (finish_of m desk path buffer).answer

    genuine-is : status_of desk ≡ open_status → Genuine m desk path
    genuine-is s = agrees-genuine m desk path st.server st.table v.inv (asks_of desk v.good s) fair

    not_forged : answer ≢ Err Forged
    not_forged h =
        let c = finished-refused (finish_checked m desk path buffer) (kind_asked desk) (was_marked m desk path) Forged h in
        let r = late-ready m desk path buffer Forged (omega arith) c in
        ((exactly m).forged desk path buffer r).0 h (genuine-is r.status)

    full_is : Ready desk path buffer → (answer ≡ Err Full) ↔ ((WornOut m desk path → ⊥) × (b.room < length (new_stash m desk path)))
    full_is r =
        subst (λ (x : ℕ). (answer ≡ Err Full) ↔ ((WornOut m desk path → ⊥) × (x < length (new_stash m desk path)))) v.room
        ((exactly m).full desk path buffer r (genuine-is r.status))

    else_is : Ready desk path buffer → (WornOut m desk path → ⊥) → length (new_stash m desk path) ≤ b.room → Accepted answer
    else_is r n l = (exactly m).otherwise desk path buffer r (genuine-is r.status) n (omega (arith, v.room))

    -- ---- accepted

    module _ (a : Accepted answer) where
      is-done : finish_checked m desk path buffer ≡ Ok tt
      is-done = finished-done (finish_checked m desk path buffer) _ a

      through : Through m desk path buffer
      through = done-through m desk path buffer is-done

      plain-is : (r : Request) → st.open_request ≡ some r
          → (answer ≡ Ok (plain_answer r.kind (st.table r.id))) × ((finish_of m desk path buffer).buffer ≡ plain_buffer r.kind (st.table r.id) buffer)
      plain-is r e =
          let q = v.opens through.ready.status in
          let f : q.request ≡ r = same-request q.request r (sym q.is ∙ e) in
          let k : kind_asked desk ≡ r.kind = q.holds.kind ∙ ap (λ (x : Request). x.kind) f in
          let i : id_asked desk ≡ r.id = q.holds.id ∙ ap (λ (x : Request). x.id) f in
          let p = answers-plain m desk path st.server st.table v.inv (asks_of desk v.good through.ready.status) fair buffer in (
            rw is-done (ap Ok (p.0 ∙ ap₂ (λ (x : Kind) (u : ℕ). plain_answer x (st.table u)) k i)),
            rw is-done (p.1 ∙ ap₂ (λ (x : Kind) (u : ℕ). plain_buffer x (st.table u) buffer) k i),
          )

      lies : (k : ℕ) → k ≤ height_of desk → Lies (sizes_of desk) (leaf_asked desk) k (get_or (placed m desk path) (height_of desk - k) [])
      lies =
          laid m o desk path (checked m o b byte st v path buffer through fair)

      item-is : (k : ℕ) → k ≤ height_of desk
          → item_of (sizes_of desk) (new_path m desk path) k ≡ new_item m o (view_of desk) path (placed m desk path) fair.size lies k
      item-is = item-new m o (view_of desk) path (placed m desk path) fair.size lies

      writes-new : (k : ℕ) → k ≤ height_of desk → Writes m desk path (new_path m desk path) k
      unfolding digest_below
      writes-new k h =
          let s = sizes_of desk in
          let low = count_low m o (view_of desk) path st.server (asks_of desk v.good through.ready.status).low v.inv.tied fair (placed m desk path) lies
          (fresh m o b byte st v path buffer through fair) k h in
          record {
            counter = ap counter_of (item-is k h) ∙ counter-new m o (view_of desk) path (placed m desk path) fair.size lies k h low;
            slots = ap (slots_opened m s (key_of desk) (bucket (view_of desk) k)) (item-is k h) ∙ slots-new m o (view_of desk) path (placed m desk path) fair.size lies k h;
            rising = buckets-rising m o desk path (checked m o b byte st v path buffer through fair) (height_of desk - k);
            blocks = ap (blocks_in m s (key_of desk) (bucket (view_of desk) k)) (item-is k h) ∙ blocks-new m o (view_of desk) path (placed m desk path) fair.size lies k h;
            flags =
                λ l side j. ap (λ (x : List ℕ). flag_of s x side) (item-is k h) ∙ flag-new m o (view_of desk) path (placed m desk path) fair.size lies k side l j;
            digests =
                λ l side j.
                ap (λ (x : List ℕ). digest_of s x side) (item-is k h) ∙ digest-new m o (view_of desk) path (placed m desk path) fair.size lies k side l j
                ∙ ap (λ (x : List ℕ). new_digest m (view_of desk) path (placed m desk path) k (item_digest m s (suc k) x) side) (sym (item-is (suc k) l));
          }

      writes-is : (k : ℕ) → k ≤ b.sizes.height → Writes m desk path (finish_of m desk path buffer).path k
      writes-is k h =
          let e : (finish_of m desk path buffer).path ≡ new_path m desk path = rw is-done refl in
          subst (λ (x : List ℕ). Writes m desk path x k) (sym e) (writes-new k (omega (arith, ap (λ (z : Sizes). z.height) v.sizes)))

      root-new : root_of (new_desk m desk path) ≡ item_digest m (sizes_of desk) 0 (item_of (sizes_of desk) (new_path m desk path) 0)
      unfolding new_item
      root-new =
          let z : height_of desk - 0 ≡ height_of desk = omega arith in
          (changed m o b byte st v path buffer through fair).root
          ∙ sym
          (ap (item_digest m (sizes_of desk) 0)
          (item-is 0 (omega arith) ∙ ap (λ (n : ℕ). (written m (view_of desk) path (placed m desk path) n).top) z))

      closes-is : (status_of (finish_of m desk path buffer).desk ≡ ready_status) × (is_written (finish_of m desk path buffer).desk ≡ true)
          × (root_of (finish_of m desk path buffer).desk ≡ item_digest m b.sizes 0 (item_of b.sizes (finish_of m desk path buffer).path 0))
      closes-is =
          let c = changed m o b byte st v path buffer through fair in
          let d : (finish_of m desk path buffer).desk ≡ new_desk m desk path = rw is-done refl in
          let e : (finish_of m desk path buffer).path ≡ new_path m desk path = rw is-done refl in (
            ap status_of d ∙ c.status,
            ap (λ (x : List ℕ). is_written x) d ∙ ap (λ (x : ℕ). eqb x 1) c.written,
            ap root_of d ∙ root-new ∙ ap (λ (z : Sizes). item_digest m z 0 (item_of z (new_path m desk path) 0)) v.sizes
                ∙ ap (λ (x : List ℕ). item_digest m b.sizes 0 (item_of b.sizes x 0)) (sym e),
          )

  -- ---- all of it, for paths that agree at an open desk

  pub kept : (hands : List ℕ → Type 0) → (status_of desk ≡ open_status → (path : List ℕ) → hands path → Agrees (view_of desk) st.server path)
      → Kept m (ours m) b hands st
  kept hands agree =
      record {
        good = v.good;
        sizes = v.sizes;
        key = v.key;
        ids = v.ids;
        room = v.room;
        opens = λ s. let q = v.opens s in (q.request, q.is, q.holds);
        is_ready = v.is_ready;
        takes = ask-takes m b st v;
        shows = ask-shows m b st v;
        never_forged = λ path buffer h e. not_forged path buffer (agree (forged_open path buffer e) path h) e;
        worn = λ path buffer h r. (exactly m).worn desk path buffer r (genuine-is path buffer (agree r.status path h) r.status);
        full = λ path buffer h r. full_is path buffer (agree r.status path h) r;
        otherwise = λ path buffer h r. else_is path buffer (agree r.status path h) r;
        plain = λ path buffer h a. plain-is path buffer (agree (open_done path buffer a) path h) a;
        writes = λ path buffer h a. writes-is path buffer (agree (open_done path buffer a) path h) a;
        closes = λ path buffer h a. closes-is path buffer (agree (open_done path buffer a) path h) a;
        marks =
            λ id g l.
            subst (λ (x : Bool). (x ≡ true) ↔ (st.table id ≢ none)) (sym (v.inv.marks id g (rw v.ids l))) (held-some (st.table id));
        one_place = places;
        count = count-is;
        stash_room = room-is;
      }
    where
      forged_open : (path buffer : List ℕ) → (finish_of m desk path buffer).answer ≡ Err Forged → status_of desk ≡ open_status
      forged_open path buffer h =
          (late-ready m desk path buffer Forged (omega arith) (finished-refused (finish_checked m desk path buffer) (kind_asked desk) (was_marked m desk path) Forged h)).status

      open_done : (path buffer : List ℕ) → Accepted (finish_of m desk path buffer).answer → status_of desk ≡ open_status
      open_done path buffer a = (done-through m desk path buffer (finished-done (finish_checked m desk path buffer) _ a)).ready.status
