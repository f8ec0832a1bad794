-- The laws of one call hold of our store: a good desk stays good, and what one finish hands back and leaves. Assumes nothing but what is asked of digest
-- and cipher.
use Rattle.store.specs.declared.Finished.{Finished}
use Rattle.std.specs.Prelude.{Err, Ok, Result}
use Prim.Native.Nat.{ℕ, zero, suc, ◌<◌, ◌≤◌}
use mathlib.Core.Path.{◌≡◌, refl, sym, ap, ap₂, subst, ◌∙◌}
use mathlib.Core.Bool.{Bool, true, false}
use mathlib.Core.List.{List, [], ◌∷◌}
use native.Mathlib.Omega.{arith}
use lib.ListN.{length, get_or, set}
use Rattle.words.proofs.Tests.{by_cases}
use Rattle.sizes.specs.declared.Refusal.{Refusal}
use Rattle.sizes.specs.declared.Refusal.TheVariants.{BadDesk, Stopped, Open, NotOpen, BadId, BadLeaf, BadLength, BadSize, Forged, Worn, Full}
use Rattle.sizes.specs.Refusals.{number_of}
use Rattle.bags.specs.Bags.{cnt, those}
use Rattle.bags.proofs.Those.{those-none}
use Rattle.slots.specs.Slots.{Block}
use Rattle.desk.specs.declared.Kind.{Kind}
use Rattle.desk.specs.declared.Kind.TheVariants.{Read, Write}
use Rattle.desk.specs.Layout.{status_at, room_of}
use Rattle.desk.specs.Readers.{status_of, kind_asked, id_asked}
use Rattle.desk.specs.Status.{open_status, most_status, at_status, stopped, stopped_or}
use Rattle.desk.specs.Good.{good_desk}
use Rattle.desk.proofs.Known.{known}
use Rattle.desk.proofs.Changed.{unchanged, status-changed, same-ids, same_room, same-sizes}
use Rattle.desk.proofs.Frame.{good-sound, stop-sound, changed-good}
use Rattle.items.specs.Items.{Means, Sound}
use Rattle.opening.specs.Opening.{is_id, gathered, lookup, genuine, Genuine}
use Rattle.opening.proofs.Tests.{no_true}
use Rattle.opening.proofs.Open.{good-open}
use Rattle.opening.proofs.Genuine.{genuine-checks, checks-genuine}
use Rattle.opening.proofs.Gathered.{gathered-placeable, record-length}
use Rattle.asks.specs.Ask.{ask_of}
use Rattle.asks.proofs.Opened.{opened-good}
use Rattle.formats.proofs.Formatted.{formatted-good}
use Rattle.store.specs.declared.Finished.TheVariants as finished
use Rattle.store.specs.Steps.{answer_for, buffer_for, was_marked, record_found, new_desk}
use Rattle.store.specs.Finish.{finish_of, finish_checked, finished_or}
use Rattle.keeping.proofs.MovedStep.{Checked, position-new, position-old, mark-new, mark-old}
use Rattle.keeping.proofs.DeskStep.{now-changed, now-good, now-stash}
use Rattle.promises.specs.Stores.{ours}
use Rattle.promises.specs.Finishes.{KeepsGood, Leaves, HandsBack, EachFinish}
use Rattle.promises.proofs.Answers.{accept-record, finished-refused, finished-done, asked_leaf, passed, format-desk}
use Rattle.promises.proofs.One.{demand-one, finish-same}
use Rattle.promises.proofs.Exactly.{exactly}
use Rattle.promises.proofs.Past.{late-ready, Through, through-checked, done-through}
use Rattle.promises.proofs.Unlooked.{unlooked}

-- ---- a good desk stays good

pub stop-good : (desk : List ℕ) (t : ℕ) → open_status < t → t ≤ most_status → status_of desk ≡ open_status → good_desk desk ≡ true → good_desk (at_status t desk) ≡ true
stop-good desk t low high s g =
    changed-good g (status-changed (known desk g).size (unchanged desk) t) (stop-sound t (good-sound desk g) (λ e. omega arith) (λ e. omega arith) high)

ask-good : (m : Means) (desk : List ℕ) (kind : Kind) (id leaf : ℕ) (rec : List ℕ) → good_desk desk ≡ true → good_desk (ask_of desk kind id leaf rec).desk ≡ true
ask-good m desk kind id leaf rec g = go (ask_of desk kind id leaf rec).answer refl
  where
    go : (a : Result ℕ Refusal) → (ask_of desk kind id leaf rec).answer ≡ a → good_desk (ask_of desk kind id leaf rec).desk ≡ true
    go (Ok p) h = let l = asked_leaf desk kind id leaf rec p h in ap good_desk l.after ∙ opened-good desk kind id leaf rec l.passed
    go (Err q) h = ap good_desk ((demand-one m).ask_refuses desk kind id leaf rec q h) ∙ g

keeps-finish : (m : Means) → Sound m → (desk path buffer : List ℕ) → room_of desk < 256 → good_desk desk ≡ true → good_desk (finish_of m desk path buffer).desk ≡ true
keeps-finish m o desk path buffer byte g = go (finish_checked m desk path buffer) refl
  where
    late : (t : ℕ) (q : Refusal) → open_status < t → t ≤ most_status → 9 ≤ number_of q → finish_checked m desk path buffer ≡ Err q → good_desk (at_status t desk) ≡ true
    late t q low high n h = stop-good desk t low high (late-ready m desk path buffer q n h).status g

    refused : (q : Refusal) → finish_checked m desk path buffer ≡ Err q → good_desk (stopped q desk) ≡ true
    refused BadDesk h = g
    refused Stopped h = g
    refused Open h = g
    refused NotOpen h = g
    refused BadId h = g
    refused BadLeaf h = g
    refused BadLength h = g
    refused BadSize h = g
    refused Forged h = late 2 Forged (omega arith) (omega arith) (omega arith) h
    refused Worn h = late 3 Worn (omega arith) (omega arith) (omega arith) h
    refused Full h = late 4 Full (omega arith) (omega arith) (omega arith) h

    go : (c : Result Unit Refusal) → finish_checked m desk path buffer ≡ c → good_desk (finish_of m desk path buffer).desk ≡ true
    go (Ok tt) h =
        let t = done-through m desk path buffer h in
        ap (λ (c : Result Unit Refusal). good_desk (stopped_or c desk (new_desk m desk path))) h ∙ now-good m o desk path (through-checked m desk path buffer t (omega arith)) t.fits
    go (Err q) h = ap (λ (c : Result Unit Refusal). good_desk (stopped_or c desk (new_desk m desk path))) h ∙ refused q h

pub keeps_good : (m : Means) → Sound m → KeepsGood (ours m)
keeps_good m o =
    record {
      format =
          λ b lent h.
          ap good_desk (format-desk b lent h)
          ∙ formatted-good lent b.sizes.height b.sizes.slots b.room b.ids b.key b.starts (passed b lent h);
      ask = ask-good m;
      finish = keeps-finish m o;
    }

-- ---- the one block of an id is what a lookup hands back

the_one : (t : Block → Bool) (xs : List Block) → cnt t xs ≡ 1 → (b : Block) × (those t xs ≡ b ∷ [])
unfolding those
the_one t [] h = absurd (omega arith)
the_one t (x ∷ xs) h =
    by_cases (t x)
    (λ e. (x, rw e (ap (λ (l : List Block). x ∷ l) (those-none t xs (omega (arith, rw e at h))))))
    (λ e.
    let r = the_one t xs (omega (arith, rw e at h)) in
    let f : those t (x ∷ xs) ≡ those t xs = rw e refl in
    (r.0, f ∙ r.1))

lookup-one : (u : ℕ) (xs : List Block) (b : Block) → those (is_id u) xs ≡ b ∷ [] → lookup u xs ≡ b.bytes
unfolding those lookup
lookup-one u [] b h = absurd (omega (arith, ap length h))
lookup-one u (x ∷ xs) b h =
    by_cases (is_id u x)
    (λ e. rw e (ap (λ (l : List Block). (get_or l 0 b).bytes) (rw e at h)))
    (λ e. rw e (lookup-one u xs b (rw e at h)))

-- a record is answered to a read of a marked id
record-read : (kind : Kind) (marked : Bool) → answer_for kind marked ≡ finished.Record → (kind ≡ Read) × (marked ≡ true)
record-read Read true h = (refl, refl)
record-read Read false h = let z : ◌≡◌ {A = ℕ} 0 1 = cc in absurd (omega arith)
record-read Write marked h = let z : ◌≡◌ {A = ℕ} 0 1 = cc in absurd (omega arith)

same_done : {p q : Finished} → ◌≡◌ {A = Result Finished Refusal} (Ok p) (Ok q) → p ≡ q
same_done h = cc

-- what is written and then put back
set_back : (xs : List ℕ) (i a : ℕ) → set (set xs i a) i (get_or xs i 0) ≡ xs
set_back [] i a = refl
set_back (x ∷ xs) zero a = refl
set_back (x ∷ xs) (suc i) a = ap (λ (l : List ℕ). x ∷ l) (set_back xs i a)

module _ (m : Means) (o : Sound m) (desk path buffer : List ℕ) where
  late-genuine : (q : Refusal) → 10 ≤ number_of q → (finish_of m desk path buffer).answer ≡ Err q → Genuine m desk path
  late-genuine q n h =
      let r = late-ready m desk path buffer q (omega arith) (finished-refused (finish_checked m desk path buffer) (kind_asked desk) (was_marked m desk path) q h) in
      by_cases (genuine m desk path) (genuine-checks m desk path)
      (λ e. absurd (other (sym (((exactly m).forged desk path buffer r).1 (λ g. no_true (sym (checks-genuine m desk path g) ∙ e))) ∙ h)))
    where
      other : ◌≡◌ {A = Result Finished Refusal} (Err Forged) (Err q) → ⊥
      other e = let f : Forged ≡ q = cc in omega (arith, ap number_of f)

  restores : (q : Refusal) → 9 ≤ number_of q → (finish_of m desk path buffer).answer ≡ Err q
      → (at_status open_status (finish_of m desk path buffer).desk ≡ desk) × ((finish_of m desk path buffer).path ≡ path)
  unfolding at_status
  restores q n h =
      let r = late-ready m desk path buffer q n (finished-refused (finish_checked m desk path buffer) (kind_asked desk) (was_marked m desk path) q h) in
      let k = finish-same m desk path buffer q h in (
        ap (λ (d : List ℕ). set d status_at open_status) (k.0.1 n) ∙ ap (set (set desk status_at _) status_at) (sym r.status) ∙ set_back desk status_at _,
        k.1,
      )

  module _ (byte : room_of desk < 256) (h : finish_checked m desk path buffer ≡ Ok tt) where
    through : Through m desk path buffer
    through = done-through m desk path buffer h

    checked : Checked m desk path
    checked = through-checked m desk path buffer through (omega arith)

    leaves-new : Leaves m desk path (new_desk m desk path)
    leaves-new =
        let c = now-changed m o desk path checked through.fits in
        record {
          ready = c.status;
          sizes = same-sizes c.same;
          key = c.same.key;
          ids = same-ids c.same;
          room = same_room c.same;
          position = position-new m desk path checked c refl;
          mark = mark-new m desk path checked c refl;
          positions = position-old m desk path checked c refl;
          marks = mark-old m desk path checked c refl;
          stash = now-stash m o desk path checked through.fits;
        }

    leaves_is : Leaves m desk path (finish_of m desk path buffer).desk
    leaves_is = subst (λ (c : Result Unit Refusal). Leaves m desk path (stopped_or c desk (new_desk m desk path))) (sym h) leaves-new

    hands-new : was_marked m desk path ≡ true → HandsBack m desk path (record_found m desk path)
    hands-new w =
        let k = good-open desk checked.good checked.status checked.byte in
        let l = (gathered-placeable m desk path k checked.genuine).once (id_asked desk) in
        let g = checked.genuine.there w in
        let r = the_one (is_id (id_asked desk)) (gathered m desk path) (omega arith) in
        let e = lookup-one (id_asked desk) (gathered m desk path) r.0 r.1 in
        record {
          slot = r.0;
          only = r.1;
          full_length = ap length (sym e) ∙ record-length m desk path k o (omega (arith, checked.size)) through.genuine-is w;
          record_is = e;
        }

pub each_finish : (m : Means) → Sound m → EachFinish m (ours m)
each_finish m o =
    record {
      unlooked = unlooked m;
      leaves = λ desk path buffer byte a. leaves_is m o desk path buffer byte (finished-done (finish_checked m desk path buffer) _ a);
      hands_back = hands;
      worn_genuine = λ desk path buffer h. late-genuine m o desk path buffer Worn (omega arith) h;
      full_genuine = λ desk path buffer h. late-genuine m o desk path buffer Full (omega arith) h;
      restored = λ desk path buffer q n h. restores m o desk path buffer q n h;
    }
  where
    hands : (desk path buffer : List ℕ) → room_of desk < 256 → (finish_of m desk path buffer).answer ≡ Ok finished.Record → HandsBack m desk path (finish_of m desk path buffer).buffer
    hands desk path buffer byte h =
        let d : finish_checked m desk path buffer ≡ Ok tt = finished-done (finish_checked m desk path buffer) _ (λ q k. accept-record q (sym h ∙ k)) in
        let r = record-read (kind_asked desk) (was_marked m desk path) (same_done (sym (ap (λ (c : Result Unit Refusal). finished_or c (answer_for (kind_asked desk) (was_marked m desk path))) d) ∙ h)) in
        let e : (finish_of m desk path buffer).buffer ≡ record_found m desk path =
        rw d (ap₂ (λ (k : Kind) (w : Bool). buffer_for k w (record_found m desk path) buffer) r.0 r.1) in
        subst (λ (x : List ℕ). HandsBack m desk path x) (sym e) (hands-new m o desk path buffer byte d r.1)
