-- Demand 3 holds of our store: a run of asks and finishes shows a beginning of what ids and draws alone decide. Assumes nothing but what is asked of digest
-- and cipher.
use Rattle.sizes.specs.declared.Refusal.{Refusal}
use Rattle.std.specs.Prelude.{Ok, Err, Result}
use Prim.Native.Nat.{ℕ, pred, ◌+◌, ◌-◌, ◌<◌, ◌≤◌}
use mathlib.Core.Path.{◌≡◌, refl, sym, ap, ap₂, ◌∙◌}
use mathlib.Core.List.{List, [], ◌∷◌, ◌++◌}
use native.Mathlib.Omega.{arith}
use lib.ListN.{length, get_or, set, take, drop, length-append, length-map, length-drop, get_or-append}
use lib.Seq.{ext_get_or, length-take-le, get_or-take}
use Rattle.desk.specs.Layout.{ids_of, room_of}
use Rattle.desk.specs.Readers.{position_of}
use Rattle.items.specs.Items.{Means, Sound}
use Rattle.draws.specs.Draws.{AllGood, shown, leaves_shown, last_drawn, indices, rearrange, rearranged}
use Rattle.draws.proofs.Numbers.{get_d_map}
use Rattle.draws.proofs.Shown.{length-shown, leaves-are}
use Rattle.draws.proofs.Order.{never-twice}
use Rattle.draws.proofs.Same.{rearrange-perm, same-leaves}
use Rattle.draws.proofs.Last.{good-at, shown_last}
use Rattle.asks.specs.Ask.{ask_of}
use Rattle.formats.specs.Format.{formatted}
use Rattle.formats.proofs.Formatted.{new-ids, new-room, new-position}
use Rattle.store.specs.declared.Finished.{Finished}
use Rattle.store.specs.declared.Finished.TheVariants as finished
use Rattle.promises.specs.Stores.{ours, Start, format_for, Accepted}
use Rattle.promises.specs.DemandThree.{Around, finish_then, shown_if, go_on, shows, Run, leaves_of, DemandThree, ShownOnce, ShownLast}
use Rattle.promises.proofs.Answers.{asked_leaf, accept-record, accept-never, accept-done, passed, format-desk}
use Rattle.promises.proofs.Moves.{positions, length-positions, get_d-positions, moves}

-- ---- a formatted desk

abbrev new : Start → List ℕ
new b = formatted b.sizes.height b.sizes.slots b.room b.ids b.key b.starts

start-positions : (b : Start) (lent : List ℕ) → (format_for b lent).answer ≡ Ok tt → positions b.ids (new b) ≡ b.starts
start-positions b lent h =
    let p = passed b lent h in
    ext_get_or 0 (positions b.ids (new b)) b.starts (length-positions b.ids (new b) ∙ sym p.starts_length)
    (λ i l.
    let k : i < b.ids = omega (arith, length-positions b.ids (new b)) in
    let e : 1 + i - 1 ≡ i = omega arith in
    get_d-positions b.ids (new b) i k
    ∙ new-position lent b.sizes.height b.sizes.slots b.room b.ids b.key b.starts p (1 + i) (omega arith) (omega arith)
    ∙ ap (λ (j : ℕ). get_or b.starts j 0) e)

-- ---- a run shows a beginning

-- N, and S is a byte
abbrev Sized : ℕ → List ℕ → Type 0
Sized n desk = (ids_of desk ≡ n) × (room_of desk < 256)

abbrev pub Begins : List ℕ → List ℕ → Type 0
Begins part whole = (r : List ℕ) × (part ++ r ≡ whole)

pub begins-at : (part whole : List ℕ) → Begins part whole → (j : ℕ) → j < length part → get_or part j 0 ≡ get_or whole j 0
begins-at part whole p j k = sym (get_or-append part p.0 0 j k) ∙ ap (λ (ls : List ℕ). get_or ls j 0) p.1

pub begins-length : (part whole : List ℕ) → Begins part whole → length part ≤ length whole
begins-length part whole p = omega (arith, simp length-append at (ap length p.1))

module _ (m : Means) (o : Sound m) (n : ℕ) where
  leaf-is : (desk : List ℕ) (u x p : ℕ) (e : Around) → 0 < u → u ≤ n → (ask_of desk e.kind u x e.content).answer ≡ Ok p → p ≡ get_or (positions n desk) (pred u) 0
  leaf-is desk u x p e g l h =
      (asked_leaf desk e.kind u x e.content p h).position ∙ sym (get_d-positions n desk (pred u) (omega arith) ∙ ap (position_of desk) (omega arith))

  -- after an accepted finish the run goes on as from the new positions; after a refusal it shows no more
  on-finish : (desk : List ℕ) (u x p : ℕ) (e : Around) (us xs : List ℕ) (more : List ℕ) → Sized n desk → 0 < u → u ≤ n
      → (ask_of desk e.kind u x e.content).answer ≡ Ok p
      → (Sized n (finish_then (ours m) desk u x e).desk → Begins more (shown (positions n (finish_then (ours m) desk u x e).desk) us xs))
      → (f : Result Finished Refusal) → (finish_then (ours m) desk u x e).answer ≡ f
      → Begins (p ∷ go_on f more) (get_or (positions n desk) (pred u) 0 ∷ shown (set (positions n desk) (pred u) x) us xs)
  on-finish desk u x p e us xs more q g l h ih f k = go f k
    where
      on : Accepted (finish_then (ours m) desk u x e).answer → Begins (p ∷ more) (get_or (positions n desk) (pred u) 0 ∷ shown (set (positions n desk) (pred u) x) us xs)
      on a =
          let v = moves m o n desk u x p e q.0 q.1 h a in
          let i = ih (v.ids, omega (arith, v.room, q.1)) in
          (i.0, ap₂ (λ (y : ℕ) (ys : List ℕ). y ∷ ys) (leaf-is desk u x p e g l h) (i.1 ∙ ap (λ (ps : List ℕ). shown ps us xs) v.now))

      go : (f : Result Finished Refusal) → (finish_then (ours m) desk u x e).answer ≡ f
          → Begins (p ∷ go_on f more) (get_or (positions n desk) (pred u) 0 ∷ shown (set (positions n desk) (pred u) x) us xs)
      go (Ok finished.Record) k = on (λ r j. accept-record r (sym k ∙ j))
      go (Ok finished.Never) k = on (λ r j. accept-never r (sym k ∙ j))
      go (Ok finished.Done) k = on (λ r j. accept-done r (sym k ∙ j))
      go (Err r) k =
          (shown (set (positions n desk) (pred u) x) us xs, ap (λ (y : ℕ). y ∷ shown (set (positions n desk) (pred u) x) us xs) (leaf-is desk u x p e g l h))

  on-ask : (desk : List ℕ) (u x : ℕ) (e : Around) (us xs : List ℕ) (more : List ℕ) → Sized n desk → 0 < u → u ≤ n
      → (Sized n (finish_then (ours m) desk u x e).desk → Begins more (shown (positions n (finish_then (ours m) desk u x e).desk) us xs))
      → (a : Result ℕ Refusal) → (ask_of desk e.kind u x e.content).answer ≡ a
      → Begins (shown_if a (λ p. p ∷ go_on (finish_then (ours m) desk u x e).answer more))
      (get_or (positions n desk) (pred u) 0 ∷ shown (set (positions n desk) (pred u) x) us xs)
  on-ask desk u x e us xs more q g l ih (Ok p) h = on-finish desk u x p e us xs more q g l h ih (finish_then (ours m) desk u x e).answer refl
  on-ask desk u x e us xs more q g l ih (Err r) h = (get_or (positions n desk) (pred u) 0 ∷ shown (set (positions n desk) (pred u) x) us xs, refl)

  begins : (desk us xs : List ℕ) (es : List Around) → AllGood n us → Sized n desk → Begins (shows (ours m) desk us xs es) (shown (positions n desk) us xs)
  unfolding shows shown
  begins desk [] xs es g q = ([], refl)
  begins desk (u ∷ us) [] es g q = ([], refl)
  begins desk (u ∷ us) (x ∷ xs) [] g q = (shown (positions n desk) (u ∷ us) (x ∷ xs), refl)
  begins desk (u ∷ us) (x ∷ xs) (e ∷ es) g q =
      on-ask desk u x e us xs (shows (ours m) (finish_then (ours m) desk u x e).desk us xs es) q g.0 g.1
      (λ w. begins (finish_then (ours m) desk u x e).desk us xs es g.2 w) (ask_of desk e.kind u x e.content).answer refl

  run-begins : (us ds : List ℕ) → AllGood n us → (r : Run n ds) → Begins (leaves_of (ours m) n us ds r) (leaves_shown n us ds)
  unfolding leaves_shown
  run-begins us ds g r =
      let b = r.start in
      let f = passed b r.lent r.formats in
      let d = format-desk b r.lent r.formats in
      let q : Sized n (format_for b r.lent).desk = (
        ap ids_of d ∙ new-ids r.lent b.sizes.height b.sizes.slots b.room b.ids b.key b.starts f ∙ r.ids,
        omega (arith, ap room_of d, new-room r.lent b.sizes.height b.sizes.slots b.room b.ids b.key b.starts f, r.byte),
      ) in
      let p : positions n (format_for b r.lent).desk ≡ take n ds = ap₂ positions (sym r.ids) d ∙ start-positions b r.lent r.formats ∙ r.starts in
      let k = begins (format_for b r.lent).desk us (drop n ds) r.around g q in
      (k.0, k.1 ∙ ap (λ (ps : List ℕ). shown ps us (drop n ds)) p)

  -- one leaf of it
  pub leaf-at : (us ds : List ℕ) → AllGood n us → (r : Run n ds) → (j : ℕ) → j < length (leaves_of (ours m) n us ds r)
      → get_or (leaves_of (ours m) n us ds r) j 0 ≡ get_or (leaves_shown n us ds) j 0
  leaf-at us ds g r = begins-at (leaves_of (ours m) n us ds r) (leaves_shown n us ds) (run-begins us ds g r)

  no_more : (us ds : List ℕ) → AllGood n us → (r : Run n ds) → length (leaves_of (ours m) n us ds r) ≤ length (leaves_shown n us ds)
  no_more us ds g r = begins-length (leaves_of (ours m) n us ds r) (leaves_shown n us ds) (run-begins us ds g r)

-- ---- the demand

module _ (m : Means) (o : Sound m) where
  pub demand-three : (m' : Means) → Sound m' → DemandThree (ours m) (ours m')
  demand-three m' o' n us vs e g h = (
    rearrange-perm n us vs e g h,
    λ ds l r r' j k k'.
        leaf-at m o n us ds g r j k ∙ ap (λ (ls : List ℕ). get_or ls j 0) (sym (same-leaves n us vs e g h ds l))
        ∙ sym (leaf-at m' o' n vs (rearranged ds (rearrange n us vs)) h r' j k'),
  )

  pub shown_once : ShownOnce (ours m)
  shown_once n us ds g l r = (
    (λ j k.
        let a = leaves-are n us ds g l in
        leaf-at m o n us ds g r j k ∙ ap (λ (ls : List ℕ). get_or ls j 0) a
        ∙ get_d_map (λ i. get_or ds i 0) (indices n us) j (omega (arith, no_more m o n us ds g r, simp length-map at (ap length a)))),
    never-twice n us g,
  )

  pub shown-last-drawn : ShownLast (ours m)
  unfolding leaves_shown
  shown-last-drawn n us ds g l r j k =
      let t : length (take n ds) ≡ n = length-take-le n ds (omega arith) in
      let d : length (drop n ds) ≡ length us = simp length-drop (omega arith) in
      let w = length-shown (take n ds) us (drop n ds) d in
      let i : j < length us = omega (arith, no_more m o n us ds g r) in
      let u = good-at n us g j i in
      leaf-at m o n us ds g r j k ∙ shown_last (take n ds) us (drop n ds) (rw t g) d j i
      ∙ ap (λ (s : ℕ). last_drawn s (get_or us j 0) (take j us) (take j (drop n ds))) (get_or-take n ds (pred (get_or us j 0)) 0 (omega arith))
