-- There are runs: what stands after format, and at the first request. Assumes nothing but what is asked of digest and cipher.
use Rattle.sizes.specs.declared.Refusal.{Refusal}
use Rattle.std.specs.Prelude.{Ok, Err, Result}
use Prim.Native.Nat.{ℕ, zero, suc, ◌-◌, ◌<◌, ◌≤◌}
use mathlib.Core.Path.{◌≡◌, refl, sym, ap, ap₂, subst, ◌∙◌}
use mathlib.Core.Logic.{◌≢◌}
use mathlib.Core.Bool.{true, false}
use mathlib.Core.List.{List, ◌∷◌}
use native.Mathlib.Omega.{arith}
use lib.ListN.{length, get_or, drop}
use lib.Dec.{eqb, ltb}
use borrow.Author.Tests.{eq-eqb, lt-ltb}
use Rattle.words.specs.Tests.{all}
use Rattle.words.proofs.Tests.{and_left, all_true}
use Rattle.sizes.specs.declared.Sizes.{Sizes}
use Rattle.sizes.specs.declared.Refusal.TheVariants.{Full}
use Rattle.sizes.specs.Sizes.{leaves, record_len, key_len, path_len, desk_len}
use Rattle.sizes.proofs.Lengths.{range-sizes}
use Rattle.desk.specs.Readers.{written_of, is_written, status_of, kind_asked}
use Rattle.desk.specs.Status.{ready_status, open_status}
use Rattle.desk.proofs.Known.{ids-good}
use Rattle.items.specs.declared.View.{View}
use Rattle.items.specs.Items.{Means, Sound}
use Rattle.items.specs.Way.{reachable}
use Rattle.opening.specs.Opening.{view_of}
use Rattle.opening.proofs.Tests.{no_true}
use Rattle.asks.specs.Ask.{record_fits, ask_of, opened}
use Rattle.asks.proofs.Passed.{AskPassed}
use Rattle.asks.proofs.Opened.{opened-changed}
use Rattle.formats.specs.Format.{format_checked, formatted}
use Rattle.formats.proofs.Formatted.{new-written, new-status}
use Rattle.store.specs.Steps.{new_stash, was_marked}
use Rattle.store.specs.Finish.{finish_checked}
use Rattle.promises.specs.Stores.{ours, Start, format_for, Request, Accepted}
use Rattle.promises.specs.Steps.{State, begin, asks, after_ask, ask_for, finish_for, returned, Reached}
use Rattle.promises.specs.Steps as steps
use Rattle.promises.specs.DemandTwo.{Ready, WornOut}
use Rattle.promises.specs.DemandThree.{Around, finish_then, shown_if, go_on, shows, Run, leaves_of}
use Rattle.promises.specs.Exists.{Proper, InBounds, Exists}
use Rattle.promises.proofs.Answers.{finished-refused, asked_leaf, passed, format-desk}
use Rattle.promises.proofs.Stands.{Stands, none-some, begin-stands}
use Rattle.promises.proofs.AskStep.{ask-takes, opened-stands}
use Rattle.promises.proofs.Kept.{kept}
use Rattle.promises.proofs.Two.{returned-agrees, reached-stands}
use Rattle.promises.proofs.Room.{left-few, one_left}
use Rattle.promises.proofs.Past.{late-ready}

-- ---- format takes a proper start

pub proper-formats : (b : Start) (lent : List ℕ) → Proper b lent → (format_for b lent).answer ≡ Ok tt
unfolding format_checked
proper-formats b lent p =
    let a : all (length b.starts) (λ i. ltb (get_or b.starts i 0) (leaves b.sizes)) ≡ true =
    all_true (λ i. ltb (get_or b.starts i 0) (leaves b.sizes)) (length b.starts)
    (λ i l. lt-ltb (get_or b.starts i 0) (leaves b.sizes) (p.all_leaves i (omega (arith, p.starts_length)))) in
    rw (
      range-sizes b.sizes p.range,
      ids-good b.ids p.ids_low p.ids_high,
      eq-eqb (length lent) (desk_len b.ids b.room) p.lent_length,
      eq-eqb (length b.starts) b.ids p.starts_length,
      eq-eqb (length b.key) key_len p.key_length,
      a,
    )

-- ---- a desk whose root was not written has no reachable item

reach-root : (v : View) (path : List ℕ) (k : ℕ) → reachable v path k ≡ true → eqb v.written 1 ≡ true
unfolding reachable
reach-root v path zero h = h
reach-root v path (suc k) h = reach-root v path k (and_left (reachable v path k) _ h)

pub not_worn : (m : Means) (desk path : List ℕ) → is_written desk ≡ false → WornOut m desk path → ⊥
not_worn m desk path e w = no_true (sym (reach-root (view_of desk) path w.0 w.1.1) ∙ e)

-- ---- the first request

module _ (m : Means) (o : Sound m) (b : Start) (lent : List ℕ) (p : Proper b lent) where
  f : (format_for b lent).answer ≡ Ok tt
  f = proper-formats b lent p

  abbrev start : State
  start = begin b lent

  stands : Stands m b start
  stands = begin-stands m b lent f

  new_is : {A : Type 0} (read : List ℕ → A) (x : A)
      → read (formatted b.sizes.height b.sizes.slots b.room b.ids b.key b.starts) ≡ x → read (format_for b lent).desk ≡ x
  new_is read x e = ap read (format-desk b lent f) ∙ e

  pub start-ready : status_of start.desk ≡ ready_status
  start-ready = new_is status_of ready_status (new-status lent b.sizes.height b.sizes.slots b.room b.ids b.key b.starts (passed b lent f))

  start-written : written_of start.desk ≡ 0
  start-written = new_is written_of 0 (new-written lent b.sizes.height b.sizes.slots b.room b.ids b.key b.starts (passed b lent f))

  module _ (r : Request) (i : InBounds b r) where
    abbrev leaf : ℕ
    leaf = get_or b.starts (r.id - 1) 0

    pub first_leaf : (ask_for (ours m) start r).answer ≡ Ok leaf
    first_leaf = ask-takes m b start stands start-ready r i.id_low i.id_high i.leaf_low i.fits

    passed-ask : AskPassed start.desk r.kind r.id r.leaf r.content
    passed-ask = (asked_leaf start.desk r.kind r.id r.leaf r.content leaf first_leaf).passed

    -- the state after it
    abbrev pub asked-desk : List ℕ
    asked-desk = opened start.desk r.kind r.id r.leaf r.content

    abbrev pub first : State
    first = after_ask start r (Ok leaf) asked-desk

    desk_is : (ask_for (ours m) start r).desk ≡ asked-desk
    desk_is = (asked_leaf start.desk r.kind r.id r.leaf r.content leaf first_leaf).after

    pub first-is : steps.after (ours m) b.sizes start (asks r) ≡ first
    first-is =
        ap (λ (a : Result ℕ Refusal). after_ask start r a (ask_for (ours m) start r).desk) first_leaf
        ∙ ap (after_ask start r (Ok leaf)) desk_is

    pub first-stands : Stands m b first
    first-stands = opened-stands m b start stands r leaf first_leaf

    pub first-open : status_of first.desk ≡ open_status
    first-open = (opened-changed start.desk r.kind r.id r.leaf r.content passed-ask).status

    pub first-unwritten : written_of first.desk ≡ 0
    first-unwritten = (opened-changed start.desk r.kind r.id r.leaf r.content passed-ask).written ∙ start-written

    module _ (path buffer : List ℕ) (l : length path ≡ path_len b.sizes) (k : length buffer ≡ record_len) where
      -- a server that was given nothing returns anything
      pub anything : returned b first path
      anything = record { size = l; items = λ k h item e. absurd (none-some item e) }

      pub first-ready : Ready first.desk path buffer
      first-ready =
          record {
            good = first-stands.good;
            status = first-open;
            path_length = subst (λ (z : Sizes). length path ≡ path_len z) (sym first-stands.sizes) l;
            buffer_length = k;
          }

      pub first-few : length (new_stash m first.desk path) ≤ 1
      first-few =
          one_left m o b p.room_byte first first-stands first-open path
          (returned-agrees m o b p.room_byte first first-stands first-open path anything) (λ u. refl)

      pub first-not-worn : WornOut m first.desk path → ⊥
      first-not-worn = not_worn m first.desk path (ap (λ (x : ℕ). eqb x 1) first-unwritten)

      pub first-accepted : 1 ≤ b.room → Accepted (finish_for (ours m) first path buffer).answer
      first-accepted w =
          let q = kept m o b p.room_byte first first-stands (returned b first) (returned-agrees m o b p.room_byte first first-stands) in
          q.otherwise path buffer anything first-ready first-not-worn (omega (arith, first-few))

-- ---- a stash with room for every id is never full

never_full : (m : Means) → Sound m → (b : Start) → b.room < 256 → b.ids ≤ b.room → (st : State) → Reached (ours m) b (returned b) st → (path buffer : List ℕ)
    → returned b st path → (finish_for (ours m) st path buffer).answer ≢ Err Full
never_full m o b byte roomy st r path buffer h e =
    let v = reached-stands m o b byte (returned b) (returned-agrees m o b byte) st r in
    let y = late-ready m st.desk path buffer Full (omega arith)
    (finished-refused (finish_checked m st.desk path buffer) (kind_asked st.desk) (was_marked m st.desk path) Full e) in
    let fair = returned-agrees m o b byte st v y.status path h in
    let f = ((kept m o b byte st v (returned b st) (returned-agrees m o b byte st v)).full path buffer h y).0 e in
    omega (arith, f.1, left-few m o b byte st v y.status path fair)

-- ---- a run of demand 3

shows-one : (a : Result ℕ Refusal) (p : ℕ) (more : ℕ → List ℕ) → a ≡ Ok p → shown_if a (λ p. p ∷ more p) ≡ p ∷ more p
shows-one a p more e = ap (λ (a : Result ℕ Refusal). shown_if a (λ p. p ∷ more p)) e

run-shows : (m : Means) (n : ℕ) (draws : List ℕ) (r : Run n draws) (u x : ℕ) (us xs : List ℕ) (e : Around) (es : List Around)
    → 0 < u → u ≤ n → drop n draws ≡ x ∷ xs → r.around ≡ e ∷ es → x < leaves r.start.sizes → record_fits record_len e.kind e.content ≡ true
    → 0 < length (leaves_of (ours m) n (u ∷ us) draws r)
unfolding shows
run-shows m n draws r u x us xs e es g l dr ar lx fits =
    let b = r.start in
    let st = begin b r.lent in
    let v = begin-stands m b r.lent r.formats in
    let q : Request = record { kind = e.kind; id = u; leaf = x; content = e.content } in
    let ready : status_of st.desk ≡ ready_status =
    ap status_of (format-desk b r.lent r.formats) ∙ new-status r.lent b.sizes.height b.sizes.slots b.room b.ids b.key b.starts (passed b r.lent r.formats) in
    let a = ask-takes m b st v ready q g (rw r.ids l) lx fits in
    let more : ℕ → List ℕ = λ p. go_on (finish_then (ours m) st.desk u x e).answer (shows (ours m) (finish_then (ours m) st.desk u x e).desk us xs es) in
    let w : leaves_of (ours m) n (u ∷ us) draws r ≡ st.drawn u ∷ more (st.drawn u) =
    ap₂ (λ (ds : List ℕ) (ws : List Around). shows (ours m) st.desk (u ∷ us) ds ws) dr ar
    ∙ shows-one (ask_of st.desk e.kind u x e.content).answer (st.drawn u) more a in
    omega (arith, ap length w)

pub exists : (m : Means) → Sound m → Exists (ours m)
exists m o =
    record {
      formats = proper-formats;
      good = λ b lent p. ((begin-stands m b lent (proper-formats b lent p)).good, start-ready m o b lent p);
      first_ask = λ b lent p r i. first_leaf m o b lent p r i;
      first_finish =
          λ b lent p w r i path buffer l k.
          subst (λ (x : State). Accepted (finish_for (ours m) x path buffer).answer) (sym (first-is m o b lent p r i)) (first-accepted m o b lent p r i path buffer l k w);
      never_full = never_full m o;
      first_shown = λ n draws run u x us xs e es. run-shows m n draws run u x us xs e es;
    }
