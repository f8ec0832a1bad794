-- Wrong stores are shut out by demand 2: those that refuse always, answer Never always, change nothing, write invented counters, or ask for leaf 0
-- always. Assumes nothing but what is asked of digest and cipher.
use Rattle.std.specs.Prelude.{Ok, Result, Err}
use Rattle.sizes.specs.declared.Refusal.{Refusal}
use Prim.Native.Nat.{ℕ, zero, suc, ◌+◌, ◌<◌}
use mathlib.Core.Path.{◌≡◌, refl, sym, ap, subst, ◌∙◌}
use mathlib.Core.Bool.{Bool, false, cond}
use mathlib.Core.Option.{none, some}
use mathlib.Core.List.{List, [], ◌∷◌, ◌++◌}
use native.Mathlib.Nat.{zero-mul}
use native.Mathlib.Omega.{arith}
use lib.ListN.{get_or, drop}
use lib.Dec.{eqb}
use Rattle.words.specs.Bytes.{zeros}
use Rattle.words.specs.Numbers.{number, bytes_of}
use Rattle.words.proofs.Splice.{length-zeros, get_d_part}
use Rattle.sizes.specs.declared.Sizes.{Sizes}
use Rattle.sizes.specs.Refusals.{kept_or}
use Rattle.sizes.specs.Sizes.{sized, record_len, key_len, path_len, desk_len, inner_len, item_len, item_at, item_of}
use Rattle.slots.specs.Slots.{Block}
use Rattle.desk.specs.declared.Kind.TheVariants.{Write}
use Rattle.desk.specs.Readers.{sizes_of, written_of}
use Rattle.items.specs.declared.View.{View}
use Rattle.items.specs.Items.{Means, Sound, counter_of, sealed}
use Rattle.items.specs.Way.{reachable}
use Rattle.items.proofs.Fields.{item-long}
use Rattle.opening.specs.Opening.{view_of}
use Rattle.draws.specs.Draws.{rearrange, rearranged}
use Rattle.asks.specs.Ask.{ask_of}
use Rattle.store.specs.declared.Finished.{Finished}
use Rattle.store.specs.declared.Finished.TheVariants as finished
use Rattle.store.specs.Steps.{placed}
use Rattle.store.specs.Finish.{FinishResult, finish_checked}
use Rattle.promises.specs.Stores.{Store, ours, Start, format_for, Request}
use Rattle.promises.specs.Steps.{State, begin, asks, after_ask, after, returned, Reached}
use Rattle.promises.specs.DemandTwo.{Kept, DemandTwo}
use Rattle.promises.specs.DemandThree.{Around, finish_then, shown_if, go_on, shows, DemandThree}
use Rattle.promises.specs.Exists.{Proper, InBounds}
use Rattle.promises.specs.Wrong.{refusing, denying, idle, invented, invented_from, invented_path, inventing, leaf_zero, zeroing}
use Rattle.promises.proofs.Answers.{accept-never, finished-done}
use Rattle.promises.proofs.Three.{demand-three}
use Rattle.promises.proofs.Exists.{proper-formats, start-ready, first_leaf, first, first-is, first-unwritten, anything, first-ready, first-not-worn, first-few}
use Rattle.promises.proofs.More.{reached-begin, reached-more}

-- ---- a small store: L = 1, Z = 1, S = 1, one id at leaf 1; and a first request: a write of zeros, with draw 1

abbrev pub small : Start
small = record { sizes = sized 1 1; room = 1; ids = 1; key = zeros key_len; starts = 1 ∷ [] }

abbrev pub lent : List ℕ
lent = zeros (desk_len 1 1)

pub small-proper : Proper small lent
small-proper =
    record {
      range = record { height_low = omega arith; height_high = omega arith; slots_low = omega arith; slots_high = omega arith };
      ids_low = omega arith;
      ids_high = omega arith;
      room_byte = omega arith;
      lent_length = length-zeros (desk_len 1 1);
      starts_length = refl;
      key_length = length-zeros key_len;
      all_leaves = only;
    }
  where
    only : (i : ℕ) → i < 1 → get_or (1 ∷ []) i 0 < 2
    only zero h = omega arith
    only (suc i) h = absurd (omega arith)

abbrev pub writing : Request
writing = record { kind = Write; id = 1; leaf = 1; content = zeros record_len }

pub writing-fits : InBounds small writing
writing-fits = record { id_low = omega arith; id_high = omega arith; leaf_low = omega arith; fits = refl }

abbrev pub some_path : List ℕ
some_path = zeros (path_len (sized 1 1))

abbrev pub some_buffer : List ℕ
some_buffer = zeros record_len

root-off : (desk path : List ℕ) → written_of desk ≡ 0 → reachable (view_of desk) path 0 ≡ false
unfolding reachable
root-off desk path e = ap (λ (x : ℕ). eqb x 1) e

module _ (m : Means) (o : Sound m) where
  abbrev start : State
  start = begin small lent

  -- demand 2 of any store, at the start, and after the first ask where the store asks as ours does
  at-start : (store : Store) → DemandTwo m store → Kept m store small (returned small start) start
  at-start store d = d small (omega arith) start (reached-begin store small (returned small) lent (proper-formats small lent small-proper))

  abbrev pub asked-first : State
  asked-first = first m o small lent small-proper writing writing-fits

  pub reached-first : (finish : List ℕ → List ℕ → List ℕ → FinishResult) → Reached (record { ask = (ours m).ask; finish = finish }) small (returned small) asked-first
  reached-first finish =
      let store : Store = record { ask = (ours m).ask; finish = finish } in
      subst (λ (x : State). Reached store small (returned small) x) (first-is m o small lent small-proper writing writing-fits)
      (reached-more store small (returned small) start (reached-begin store small (returned small) lent (proper-formats small lent small-proper)) (asks writing) tt)

  pub refusing-out : DemandTwo m refusing → ⊥
  refusing-out d =
      let k = (at-start refusing d).takes (start-ready m o small lent small-proper) writing (omega arith) (omega arith) (omega arith) refl in
      let z : ◌≡◌ {A = ℕ} 0 1 = cc in
      omega arith

  pub denying-out : DemandTwo m (denying m) → ⊥
  denying-out d =
      let k = d small (omega arith) asked-first (reached-first (denying m).finish) in
      let l = anything m o small lent small-proper writing writing-fits some_path some_buffer (length-zeros _) (length-zeros _) in
      let e = (k.plain some_path some_buffer l accept-never writing refl).0 in
      let z : ◌≡◌ {A = ℕ} 0 1 = cc in
      omega arith

  pub idle-out : DemandTwo m (idle m) → ⊥
  idle-out d =
      let r = reached-more (idle m) small (returned small) start (reached-begin (idle m) small (returned small) lent (proper-formats small lent small-proper)) (asks writing) tt in
      let e : after (idle m) small.sizes start (asks writing) ≡ after_ask start writing (Ok 1) start.desk =
      ap (λ (a : Result ℕ Refusal). after_ask start writing a start.desk) (first_leaf m o small lent small-proper writing writing-fits) in
      let k = d small (omega arith) (after_ask start writing (Ok 1) start.desk) (subst (λ (x : State). Reached (idle m) small (returned small) x) e r) in
      some-none (k.is_ready (start-ready m o small lent small-proper))
    where
      some-none : some writing ≡ none → ⊥
      some-none e = let z : ◌≡◌ {A = ℕ} 0 1 = cc in omega arith

  pub zeroing-out : DemandTwo m (zeroing m) → ⊥
  zeroing-out d =
      let k = (at-start (zeroing m) d).takes (start-ready m o small lent small-proper) writing (omega arith) (omega arith) (omega arith) refl in
      let e : ◌≡◌ {A = Result ℕ Refusal} (Ok 0) (Ok 1) = sym (ap leaf_zero (first_leaf m o small lent small-proper writing writing-fits)) ∙ k in
      let z : ◌≡◌ {A = ℕ} 0 1 = cc in
      omega arith

  -- ---- a counter whose lowest byte is 7 is not 1

  not-one : (xs : List ℕ) (s : Sizes) → get_or xs 0 0 ≡ invented → counter_of (item_of s xs 0) ≡ 1 → ⊥
  unfolding number
  not-one xs s f e =
      let z : item_at s 0 + 0 ≡ 0 = omega (arith, zero-mul (inner_len s)) in
      let b : get_or (item_of s xs 0) 0 0 ≡ get_or xs 0 0 = get_d_part xs (item_at s 0) (item_len s 0) 0 (omega (arith, item-long s xs 0)) ∙ ap (λ (j : ℕ). get_or xs j 0) z in
      omega (arith, b, e)

  first_byte : (v : View) (path : List ℕ) (placed : List (List Block)) (h : ℕ)
      → get_or ((invented_from m v path placed h).0 ++ (invented_from m v path placed h).1) 0 0 ≡ invented
  unfolding invented_from sealed bytes_of
  first_byte v path placed zero = refl
  first_byte v path placed (suc h) = refl

  pub inventing-out : DemandTwo m (inventing m) → ⊥
  inventing-out d =
      let desk = asked-first.desk in
      let v = view_of desk in
      let bs = placed m desk some_path in
      let k = d small (omega arith) asked-first (reached-first (inventing m).finish) in
      let l = anything m o small lent small-proper writing writing-fits some_path some_buffer (length-zeros _) (length-zeros _) in
      let r = first-ready m o small lent small-proper writing writing-fits some_path some_buffer (length-zeros _) (length-zeros _) in
      let n = first-not-worn m o small lent small-proper writing writing-fits some_path some_buffer (length-zeros _) (length-zeros _) in
      let a = k.otherwise some_path some_buffer l r n (first-few m o small lent small-proper writing writing-fits some_path some_buffer (length-zeros _) (length-zeros _)) in
      let c : finish_checked m desk some_path some_buffer ≡ Ok tt = finished-done (finish_checked m desk some_path some_buffer) _ a in
      let w = (k.writes some_path some_buffer l a 0 (omega arith)).counter in
      let f : counter_of (item_of (sizes_of desk) (invented_path m v some_path bs) 0) ≡ 1 =
      sym (ap (λ (x : Result Unit Refusal). counter_of (item_of (sizes_of desk) (kept_or x some_path (invented_path m v some_path bs)) 0)) c) ∙ w
      ∙ ap (λ (x : Bool). cond x (counter_of (item_of (sizes_of desk) some_path 0) + 1) 1) unreached in
      not-one (invented_path m v some_path bs) (sizes_of desk) (first_byte v some_path bs v.sizes.height) f
    where
      unreached : reachable (view_of asked-first.desk) some_path 0 ≡ false
      unreached = root-off asked-first.desk some_path (first-unwritten m o small lent small-proper writing writing-fits)

-- ---- a store that shows 0 always shows the same whatever is asked for

module _ (m : Means) where
  shows-zero : (desk us xs : List ℕ) (es : List Around) (j : ℕ) → get_or (shows (zeroing m) desk us xs es) j 0 ≡ 0
  unfolding shows
  shows-zero desk [] xs es j = refl
  shows-zero desk (u ∷ us) [] es j = refl
  shows-zero desk (u ∷ us) (x ∷ xs) [] j = refl
  shows-zero desk (u ∷ us) (x ∷ xs) (e ∷ es) j =
      go (ask_of desk e.kind u x e.content).answer j (finish_then (zeroing m) desk u x e).answer (shows (zeroing m) (finish_then (zeroing m) desk u x e).desk us xs es)
      (λ i. shows-zero (finish_then (zeroing m) desk u x e).desk us xs es i)
    where
      rest : (a : Result Finished Refusal) (more : List ℕ) → ((i : ℕ) → get_or more i 0 ≡ 0) → (i : ℕ) → get_or (go_on a more) i 0 ≡ 0
      rest (Ok finished.Record) more h i = h i
      rest (Ok finished.Never) more h i = h i
      rest (Ok finished.Done) more h i = h i
      rest (Err q) more h i = refl

      go : (a : Result ℕ Refusal) (j : ℕ) (b : Result Finished Refusal) (more : List ℕ) → ((i : ℕ) → get_or more i 0 ≡ 0) → get_or (shown_if (leaf_zero a) (λ p. p ∷ go_on b more)) j 0 ≡ 0
      go (Ok p) zero b more h = refl
      go (Ok p) (suc j) b more h = rest b more h j
      go (Err q) j b more h = refl

  pub zeroing-three : Sound m → DemandThree (zeroing m) (zeroing m)
  zeroing-three o n us vs e g h = (
    (demand-three m o m o n us vs e g h).0,
    λ draws l r r' j k k'.
        shows-zero (format_for r.start r.lent).desk us (drop n draws) r.around j
        ∙ sym (shows-zero (format_for r'.start r'.lent).desk vs (drop n (rearranged draws (rearrange n us vs))) r'.around j),
  )
