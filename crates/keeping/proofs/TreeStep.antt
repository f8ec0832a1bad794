-- The server after a path was written as step 6 writes it is tied to the new root digest. Assumes nothing but what is asked of digest and cipher.
use Prim.Native.Nat.{ℕ, zero, suc, ◌+◌, ◌-◌, ◌*◌, ◌/◌, ◌^◌, ◌<◌, ◌≤◌}
use mathlib.Core.Path.{◌≡◌, refl, sym, ap, ◌∙◌}
use mathlib.Core.Logic.{◌≢◌}
use mathlib.Core.Bool.{Bool, true, ◌&&◌}
use mathlib.Core.List.{List, []}
use native.Mathlib.Omega.{arith}
use mathlib.Core.Bool.{and-false}
use mathlib.Core.Option.{some}
use native.Mathlib.Nat.{div-eq_of_lt}
use lib.ListN.{length, get_or}
use lib.Dec.{eqb}
use borrow.Author.Tests.{eqb-true, eqb-false, eq-eqb, ne_eqb, le-leb}
use Rattle.words.proofs.Tests.{by_cases, below_or, and_left, and_right}
use Rattle.sizes.specs.declared.Sizes.{Sizes}
use Rattle.sizes.specs.Sizes.{leaves, place_in}
use Rattle.sizes.proofs.Buckets.{next_place}
use Rattle.slots.specs.Slots.{Block}
use Rattle.items.specs.declared.View.{View}
use Rattle.items.specs.Items.{Means, Sound, counter_of, flag_of, digest_of, item_digest}
use Rattle.items.specs.Way.{item, side, reachable, digest_due}
use Rattle.writing.specs.Writing.{new_counter, is_kept, new_flag, written, path_written, root_written}
use Rattle.opening.specs.Opening.{last_counter}
use Rattle.keeping.specs.Server.{Server, Agrees, wrote, or_nil, leads}
use Rattle.keeping.proofs.Standing.{half, same-bucket}
use Rattle.keeping.proofs.Alike.{counter-same}
use Rattle.keeping.proofs.Tied.{Node, Tied, tied-when, tied-eq, tied-child, tied-make, agree-walk, node, alike}
use Rattle.keeping.proofs.Written.{Lies, counter-new, new_item, digest_below, item-new, item-length, flag-new, digest-new, blocks-new, leaf-flag}

-- ---- a bucket that is not touched, with all below it, stays tied

node-same : (m : Means) (s : Sizes) (key : List ℕ) (server server' : Server) (k j : ℕ) (due : List ℕ) → server' k j ≡ server k j
    → Node m s key server k j due → Node m s key server' k j due
node-same m s key server server' k j due e n =
    record {
      there = rw e n.there;
      size = rw e n.size;
      digest = rw e n.digest;
      left-flag = rw e n.left-flag;
      right-flag = rw e n.right-flag;
      counter = rw e n.counter;
      sits = rw e n.sits;
    }

module _ (m : Means) (s : Sizes) (key : List ℕ) (leaf : ℕ) (server server' : Server) (f : (k j : ℕ) → j ≢ place_in s leaf k → server' k j ≡ server k j) where
  tied-same : (h k j : ℕ) (r : Bool) (due : List ℕ) → k + h ≡ s.height → j ≢ leaf / 2 ^ h → Tied m s key server h k j r due → Tied m s key server' h k j r due
  unfolding Tied
  tied-same zero k j r due e n t = λ q. node-same m s key server server' k j due (same-bucket m s key leaf server server' f zero k j e n) (t q)
  tied-same (suc h) k j r due e n t = λ q.
      let b = same-bucket m s key leaf server server' f (suc h) k j e n in
      let c = half leaf h in
      let w = t q in (
        node-same m s key server server' k j due b w.0,
        rw b (tied-same h (suc k) (2 * j) (leads s server k j 0) (digest_of s (or_nil (server k j)) 0) (omega arith) (λ z. n (omega arith)) w.1),
        rw b (tied-same h (suc k) (2 * j + 1) (leads s server k j 1) (digest_of s (or_nil (server k j)) 1) (omega arith) (λ z. n (omega arith)) w.2),
      )

module _ (m : Means) (o : Sound m) (v : View) (path : List ℕ) (server : Server) (low : v.leaf < leaves v.sizes)
    (tied : Tied m v.sizes v.key server v.sizes.height 0 0 (eqb v.written 1) v.root) (fair : Agrees v server path)
    (placed : List (List Block)) (laid : (k : ℕ) → k ≤ v.sizes.height → Lies v.sizes v.leaf k (get_or placed (v.sizes.height - k) []))
    (fresh : (k : ℕ) → k ≤ v.sizes.height → reachable v path k ≡ true → counter_of (item v path k) ≢ last_counter) where
  abbrev s : Sizes
  s = v.sizes

  abbrev L : ℕ
  L = v.sizes.height

  abbrev at : ℕ → ℕ
  at k = place_in s v.leaf k

  abbrev new : ℕ → List ℕ
  new k = new_item m o v path placed fair.size laid k

  abbrev pub server_after : Server
  server_after = wrote s v.leaf (path_written m v path placed) server

  pub others : (k j : ℕ) → j ≢ at k → server_after k j ≡ server k j
  others k j n = rw (ne_eqb j (at k) n, and-false)

  new-at : (k : ℕ) → k ≤ L → server_after k (at k) ≡ some (new k)
  new-at k h = rw (le-leb k L h, eq-eqb (at k) (at k) refl) (ap (λ (x : List ℕ). some x) (item-new m o v path placed fair.size laid k h))

  pub new-item : (k : ℕ) → k ≤ L → or_nil (server_after k (at k)) ≡ new k
  new-item k h = ap or_nil (new-at k h)

  -- ---- flags and digests of the new items

  new-lead : (k on : ℕ) → k < L → on ≤ 1 → leads s server_after k (at k) on ≡ eqb (new_flag m v path placed k on) 1
  new-lead k on h l =
      ap (λ (x : List ℕ). eqb (flag_of s x on) 1) (new-item k (omega arith)) ∙ ap (λ (x : ℕ). eqb x 1) (flag-new m o v path placed fair.size laid k on h l)

  pub lead-on : (k on : ℕ) → k < L → on ≡ side v k → leads s server_after k (at k) on ≡ true
  lead-on k on h e = new-lead k on h (omega arith) ∙ rw (eq-eqb on (side v k) e) refl

  pub lead-off : (k on : ℕ) → k < L → on ≤ 1 → on ≢ side v k → leads s server_after k (at k) on ≡ (reachable v path k && leads s server k (at k) on)
  lead-off k on h l n =
      new-lead k on h l ∙ rw (ne_eqb on (side v k) n)
      (by_cases (reachable v path k)
      (λ r.
      let f = (alike m v path server low tied fair k (omega arith) r).flags on l in
      by_cases (eqb (flag_of s (or_nil (server k (at k))) on) 1) (λ g. rw (r, f, g) refl) (λ g. rw (r, f, g) refl))
      (λ r. rw r refl))

  digest-on : (k on : ℕ) → k < L → on ≡ side v k → digest_of s (or_nil (server_after k (at k))) on ≡ item_digest m s (suc k) (new (suc k))
  unfolding digest_below
  digest-on k on h e =
      ap (λ (x : List ℕ). digest_of s x on) (new-item k (omega arith)) ∙ digest-new m o v path placed fair.size laid k on h (omega arith)
      ∙ rw (eq-eqb on (side v k) e) refl

  digest-off : (k on : ℕ) → k < L → on ≤ 1 → on ≢ side v k → reachable v path k ≡ true → leads s server k (at k) on ≡ true
      → digest_of s (or_nil (server_after k (at k))) on ≡ digest_of s (or_nil (server k (at k))) on
  digest-off k on h l n r g =
      let a = alike m v path server low tied fair k (omega arith) r in
      let f : eqb (flag_of s (item v path k) on) 1 ≡ true = ap (λ (x : ℕ). eqb x 1) (a.flags on l) ∙ g in
      ap (λ (x : List ℕ). digest_of s x on) (new-item k (omega arith)) ∙ digest-new m o v path placed fair.size laid k on h l
      ∙ rw (ne_eqb on (side v k) n, r, f) (a.digests on l (eqb-true _ 1 g))

  -- ---- tied to the new root digest

  pub count_low : (k : ℕ) → k ≤ L → new_counter m v path placed k < 2 ^ 64
  count_low k h =
      by_cases (reachable v path k)
      (λ r.
      let a = alike m v path server low tied fair k h r in
      let c = counter-same s (item v path k) (or_nil (server k (at k))) a in
      let l = (node m v path server low tied fair k h r).counter in
      let n = fresh k h r in
      rw r (omega (arith, c, l)))
      (λ r. rw r (omega arith))

  flag-low : (k on : ℕ) → k ≤ L → on ≤ 1 → flag_of s (new k) on ≤ 1
  flag-low k on h l =
      below_or k L
      (λ i.
      rw (flag-new m o v path placed fair.size laid k on i l)
      (by_cases (eqb on (side v k))
      (λ e. rw e (omega arith))
      (λ e. rw e (by_cases (is_kept m v path placed k on) (λ f. rw f (omega arith)) (λ f. rw f (omega arith))))))
      (λ i.
      let e : k ≡ L = omega arith in
      omega (arith, ap (λ (j : ℕ). flag_of s (new j) on) e, leaf-flag m o v path placed fair.size laid on))

  new-node : (k : ℕ) → k ≤ L → Node m s v.key server_after k (at k) (item_digest m s k (new k))
  new-node k h =
      let e = new-item k h in
      record {
        there = new-at k h ∙ ap (λ (x : List ℕ). some x) (sym e);
        size = ap length e ∙ item-length m o v path placed fair.size laid k h;
        digest = ap (item_digest m s k) e;
        counter = rw (e, counter-new m o v path placed fair.size laid k h (count_low k h)) (count_low k h);
        left-flag = rw e (flag-low k 0 h (omega arith));
        right-flag = rw e (flag-low k 1 h (omega arith));
        sits = rw (e, blocks-new m o v path placed fair.size laid k h) (laid k h).sits;
      }

  next-at : (k on : ℕ) → k < L → on ≡ side v k → at (suc k) ≡ 2 * at k + on
  next-at k on h e = next_place s v.leaf k h ∙ ap (λ (x : ℕ). 2 * at k + x) (sym e)

  new-tied : (h k : ℕ) → k + h ≡ L → Tied m s v.key server_after h k (at k) true (item_digest m s k (new k))
  unfolding Tied
  new-tied zero k e = λ q. new-node k (omega arith)
  new-tied (suc h) k e =
      let i = new-tied h (suc k) (omega arith) in
      let l : k < L = omega arith in
      tied-make m s v.key server_after h k (at k) true (item_digest m s k (new k)) (new-node k (omega arith)) (λ on g.
      by_cases (eqb on (side v k))
      (λ q.
      let z = eqb-true on (side v k) q in
      tied-eq m s v.key server_after h (suc k) (at (suc k)) (2 * at k + on) true (leads s server_after k (at k) on) (item_digest m s (suc k) (new (suc k)))
      (digest_of s (or_nil (server_after k (at k))) on) (next-at k on l z) (sym (lead-on k on l z)) (sym (digest-on k on l z)) i)
      (λ q.
      let n = eqb-false on (side v k) q in
      tied-when m s v.key server_after h (suc k) (2 * at k + on) (leads s server_after k (at k) on) (digest_of s (or_nil (server_after k (at k))) on) (λ led.
      let both = sym (lead-off k on l g n) ∙ led in
      let r : reachable v path k ≡ true = and_left (reachable v path k) _ both in
      let f : leads s server k (at k) on ≡ true = and_right (reachable v path k) _ both in
      let w : Tied m s v.key server (suc h) k (at k) true (digest_due v path k) = rw r at (agree-walk m v path server low tied fair k (suc h) e) in
      let off : 2 * at k + on ≢ v.leaf / 2 ^ h =
      λ z. n (omega (arith, next_place s v.leaf k l, ap (λ (x : ℕ). v.leaf / 2 ^ x) (down k h e))) in
      tied-eq m s v.key server_after h (suc k) (2 * at k + on) (2 * at k + on) (leads s server k (at k) on) (leads s server_after k (at k) on)
      (digest_of s (or_nil (server k (at k))) on) (digest_of s (or_nil (server_after k (at k))) on) refl (f ∙ sym led) (sym (digest-off k on l g n r f))
      (tied-same m s v.key v.leaf server server_after others h (suc k) (2 * at k + on) (leads s server k (at k) on) (digest_of s (or_nil (server k (at k))) on)
      (omega arith) off (tied-child m s v.key server h k (at k) (digest_due v path k) w on g)))))
    where
      down : (k h : ℕ) → k + suc h ≡ L → L - suc k ≡ h
      down k h e = omega arith

  pub tied-after : Tied m s v.key server_after L 0 0 true (root_written m v path placed)
  unfolding new_item
  tied-after =
      let z : L - 0 ≡ L = omega arith in
      let a : at 0 ≡ 0 = rw z (div-eq_of_lt low) in
      tied-eq m s v.key server_after L 0 (at 0) 0 true true (item_digest m s 0 (new 0)) (root_written m v path placed) a refl
      (ap (λ (n : ℕ). item_digest m s 0 (written m v path placed n).top) z) (new-tied L 0 (omega arith))
