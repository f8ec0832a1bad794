-- An ask keeps what stands: a refusal leaves the state as it was, and an accepted one opens the request. Assumes nothing.
use Rattle.std.specs.Prelude.{Ok, Result, Err}
use Rattle.sizes.specs.declared.Refusal.{Refusal}
use Prim.Native.Nat.{ℕ, ◌<◌, ◌≤◌}
use mathlib.Core.Path.{◌≡◌, refl, sym, ap, subst, ◌∙◌}
use mathlib.Core.Bool.{true, cond}
use mathlib.Core.List.{List}
use native.Mathlib.Omega.{arith}
use lib.Dec.{eqb}
use borrow.Author.Tests.{le-leb, lt-leb}
use Rattle.sizes.specs.declared.Sizes.{Sizes}
use Rattle.sizes.specs.Sizes.{leaves, record_len}
use Rattle.desk.specs.Layout.{ids_of}
use Rattle.desk.specs.Readers.{sizes_of, status_of, id_asked, new_leaf, position_of}
use Rattle.desk.specs.Status.{ready_status, open_status}
use Rattle.desk.proofs.Changed.{same-ids, same_room, same-sizes}
use Rattle.items.specs.Items.{Means}
use Rattle.asks.specs.Ask.{record_fits, ask_checked, asked_of, opened}
use Rattle.asks.proofs.Passed.{AskPassed}
use Rattle.asks.proofs.Opened.{opened-changed, opened-good, opened-kind, opened-id, opened-leaf, opened-record}
use Rattle.keeping.proofs.Carry.{same-position, inv-kept}
use Rattle.promises.specs.Stores.{ours, Start, Request}
use Rattle.promises.specs.Steps.{State, ask_for, after_ask, only_desk}
use Rattle.promises.proofs.Answers.{asked_leaf}
use Rattle.promises.proofs.One.{demand-one}
use Rattle.promises.proofs.Stands.{Stands}

module _ (m : Means) (b : Start) (st : State) (v : Stands m b st) where
  -- the state with the same desk
  pub same-desk : (d : List ℕ) → d ≡ st.desk → Stands m b (only_desk st d)
  same-desk d e = subst (λ (d : List ℕ). Stands m b (only_desk st d)) (sym e) v

  -- ---- at a ready desk an ask in range is accepted

  pub ask-done : status_of st.desk ≡ ready_status → (r : Request) → 1 ≤ r.id → r.id ≤ b.ids → r.leaf < leaves b.sizes
      → record_fits record_len r.kind r.content ≡ true → ask_checked st.desk r.kind r.id r.leaf r.content ≡ Ok tt
  unfolding ask_checked
  ask-done s r low high leaf fits =
      let h : r.id ≤ ids_of st.desk = rw v.ids high in
      let l : r.leaf < leaves (sizes_of st.desk) = subst (λ (z : Sizes). r.leaf < leaves z) (sym v.sizes) leaf in
      rw (v.good, s, le-leb 1 r.id low, le-leb r.id (ids_of st.desk) h, lt-leb (leaves (sizes_of st.desk)) r.leaf l, fits)

  pub ask-takes : status_of st.desk ≡ ready_status → (r : Request) → 1 ≤ r.id → r.id ≤ b.ids → r.leaf < leaves b.sizes
      → record_fits record_len r.kind r.content ≡ true → (ask_for (ours m) st r).answer ≡ Ok (st.drawn r.id)
  ask-takes s r low high leaf fits =
      ap (λ (o : Result Unit Refusal). asked_of o (position_of st.desk r.id)) (ask-done s r low high leaf fits) ∙ ap Ok (v.drawn s r.id low high)

  -- ---- an accepted ask answers the leaf last drawn

  module _ (r : Request) (p : ℕ) (h : (ask_for (ours m) st r).answer ≡ Ok p) where
    abbrev new : List ℕ
    new = opened st.desk r.kind r.id r.leaf r.content

    passed : AskPassed st.desk r.kind r.id r.leaf r.content
    passed = (asked_leaf st.desk r.kind r.id r.leaf r.content p h).passed

    position : p ≡ position_of st.desk r.id
    position = (asked_leaf st.desk r.kind r.id r.leaf r.content p h).position

    pub ask-shows : p ≡ st.drawn r.id
    ask-shows = position ∙ v.drawn passed.ready r.id passed.id_low (rw v.ids at passed.id_high)

    same_place : (u : ℕ) → 1 ≤ u → u ≤ ids_of st.desk → position_of new u ≡ position_of st.desk u
    same_place = same-position (opened-changed st.desk r.kind r.id r.leaf r.content passed) refl refl refl refl

    draws : (u : ℕ) → 1 ≤ u → u ≤ b.ids
        → cond (eqb u (id_asked new)) (new_leaf new) (position_of new u) ≡ cond (eqb u r.id) r.leaf (st.drawn u)
    draws u g l =
        let i = opened-id st.desk r.kind r.id r.leaf r.content passed in
        let f = opened-leaf st.desk r.kind r.id r.leaf r.content passed in
        let q : position_of new u ≡ st.drawn u = same_place u g (rw v.ids l) ∙ v.drawn passed.ready u g l in
        ap (λ (x : ℕ). cond (eqb u x) (new_leaf new) (position_of new u)) i
        ∙ ap (λ (x : ℕ). cond (eqb u r.id) x (position_of new u)) f ∙ ap (λ (x : ℕ). cond (eqb u r.id) r.leaf x) q

    pub opened-stands : Stands m b (after_ask st r (Ok p) new)
    opened-stands =
        let c = opened-changed st.desk r.kind r.id r.leaf r.content passed in
        let i = opened-id st.desk r.kind r.id r.leaf r.content passed in
        record {
          good = opened-good st.desk r.kind r.id r.leaf r.content passed;
          inv = inv-kept c refl refl refl refl m st.server st.table v.inv;
          sizes = same-sizes c.same ∙ v.sizes;
          key = c.same.key ∙ v.key;
          ids = same-ids c.same ∙ v.ids;
          room = same_room c.same ∙ v.room;
          opens =
              λ e.
              record {
                request = r;
                is = refl;
                holds = record {
                  kind = opened-kind st.desk r.kind r.id r.leaf r.content passed;
                  id = i;
                  leaf = opened-leaf st.desk r.kind r.id r.leaf r.content passed;
                  content = opened-record st.desk r.kind r.id r.leaf r.content passed;
                };
                leaf = position ∙ sym (same_place r.id passed.id_low passed.id_high) ∙ ap (position_of new) (sym i);
              };
          is_ready = λ e. absurd (busy (sym c.status ∙ e));
          drawn = λ e u g l. absurd (busy (sym c.status ∙ e));
          drawn_open = λ e u g l. draws u g l;
        }
      where
        busy : open_status ≡ ready_status → ⊥
        busy e = omega arith

  pub ask-stands : (r : Request) → Stands m b (after_ask st r (ask_for (ours m) st r).answer (ask_for (ours m) st r).desk)
  ask-stands r = go (ask_for (ours m) st r).answer refl
    where
      go : (a : Result ℕ Refusal) → (ask_for (ours m) st r).answer ≡ a → Stands m b (after_ask st r a (ask_for (ours m) st r).desk)
      go (Ok p) h =
          subst (λ (d : List ℕ). Stands m b (after_ask st r (Ok p) d)) (sym (asked_leaf st.desk r.kind r.id r.leaf r.content p h).after)
          (opened-stands r p h)
      go (Err q) h = same-desk (ask_for (ours m) st r).desk ((demand-one m).ask_refuses st.desk r.kind r.id r.leaf r.content q h)
