-- A server whose reachable items are tied to the root digest: over a path that agrees with it, digests, flags and ways pass the checks. Assumes nothing.
use Prim.Native.Nat.{ℕ, zero, suc, ◌+◌, ◌-◌, ◌*◌, ◌/◌, ◌%◌, ◌^◌, ◌<◌, ◌≤◌}
use mathlib.Core.Path.{◌≡◌, refl, sym, ap, ap₂, ◌∙◌}
use mathlib.Core.Bool.{Bool, true, false}
use mathlib.Core.Option.{some}
use mathlib.Core.List.{List, ◌++◌}
use native.Mathlib.Omega.{arith}
use native.Mathlib.Nat.{div-eq_of_lt}
use lib.ListN.{length}
use lib.Dec.{eqb}
use borrow.Author.Tests.{eqb-true, eqb-false}
use Rattle.words.proofs.Splice.{length_part}
use Rattle.words.proofs.Tests.{by_cases, and_left, and_right}
use Rattle.sizes.specs.declared.Sizes.{Sizes}
use Rattle.sizes.specs.Sizes.{leaves, item_len, item_at, path_len, bucket_no, place_in, bucket_at}
use Rattle.sizes.proofs.Lengths.{item_fits}
use Rattle.bags.specs.Bags.{AllOf}
use Rattle.bags.proofs.All.{all_map}
use Rattle.slots.specs.Slots.{Block}
use Rattle.items.specs.declared.View.{View}
use Rattle.items.specs.Items.{Means, counter_of, flag_of, digest_of, masked, item_digest, blocks_in}
use Rattle.items.specs.Way.{item, side, reachable, digest_due}
use Rattle.opening.specs.Opening.{found_at}
use Rattle.keeping.specs.Server.{Server, Returns, Agrees, or_nil, blocks_at, leads, standing}
use Rattle.keeping.proofs.Alike.{Alike, masked-alike, blocks-same}
use Rattle.keeping.proofs.Standing.{half}

module _ (m : Means) (s : Sizes) (key : List ℕ) (server : Server) where
  -- a bucket that was written, with the digest that is due, whose blocks lie on their way
  pub record Node (k j : ℕ) (due : List ℕ) : Type 0 where
    pub there : server k j ≡ some (or_nil (server k j))
    pub size : length (or_nil (server k j)) ≡ item_len s k
    pub digest : item_digest m s k (or_nil (server k j)) ≡ due
    pub left-flag : flag_of s (or_nil (server k j)) 0 ≤ 1
    pub right-flag : flag_of s (or_nil (server k j)) 1 ≤ 1
    pub counter : counter_of (or_nil (server k j)) < 2 ^ 64
    pub sits : AllOf (λ b. place_in s b.leaf k ≡ j) (blocks_at m s key server k j)

  -- and so on, h levels down, as far as flags lead
  unfoldable pub Tied : ℕ → ℕ → ℕ → Bool → List ℕ → Type 0
  Tied zero k j r due = r ≡ true → Node k j due
  Tied (suc h) k j r due =
      r ≡ true
      → (Node k j due × Tied h (suc k) (2 * j) (leads s server k j 0) (digest_of s (or_nil (server k j)) 0)
      × Tied h (suc k) (2 * j + 1) (leads s server k j 1) (digest_of s (or_nil (server k j)) 1))

  pub tied-node : (h k j : ℕ) (r : Bool) (due : List ℕ) → Tied h k j r due → r ≡ true → Node k j due
  unfolding Tied
  tied-node zero k j r due t e = t e
  tied-node (suc h) k j r due t e = (t e).0

  pub tied-when : (h k j : ℕ) (r : Bool) (due : List ℕ) → (r ≡ true → Tied h k j r due) → Tied h k j r due
  unfolding Tied
  tied-when zero k j r due f = λ e. f e e
  tied-when (suc h) k j r due f = λ e. f e e

  pub tied-eq : (h k j j' : ℕ) (r r' : Bool) (due due' : List ℕ) → j ≡ j' → r ≡ r' → due ≡ due' → Tied h k j r due → Tied h k j' r' due'
  tied-eq h k j j' r r' due due' a b c t = rw (← a, ← b, ← c) t

  tied-top : (h h' : ℕ) → h ≡ h' → (j j' : ℕ) (r : Bool) (due : List ℕ) → j ≡ j' → Tied h 0 j r due → Tied h' 0 j' r due
  tied-top h h' e j j' r due a t = rw (← e, ← a) t

  -- the children, by their side
  pub tied-child : (h k j : ℕ) (due : List ℕ) → Tied (suc h) k j true due → (on : ℕ) → on ≤ 1
      → Tied h (suc k) (2 * j + on) (leads s server k j on) (digest_of s (or_nil (server k j)) on)
  unfolding Tied
  tied-child h k j due t zero l = let e : 2 * j ≡ 2 * j + 0 = omega arith in rw (← e) (t refl).1
  tied-child h k j due t (suc zero) l = (t refl).2
  tied-child h k j due t (suc (suc on)) l = absurd (omega arith)

  pub tied-make : (h k j : ℕ) (r : Bool) (due : List ℕ) → Node k j due
      → ((on : ℕ) → on ≤ 1 → Tied h (suc k) (2 * j + on) (leads s server k j on) (digest_of s (or_nil (server k j)) on)) → Tied (suc h) k j r due
  unfolding Tied
  tied-make h k j r due n f = λ e. let z : 2 * j + 0 ≡ 2 * j = omega arith in (n, rw z at (f 0 (omega arith)), f 1 (omega arith))

-- ---- a path that meets it: where an item is reachable and the server's is tied, no digest tells them apart

abbrev Meets : Means → View → List ℕ → Server → Type 0
Meets m v path server = (k : ℕ) → k ≤ v.sizes.height → reachable v path k ≡ true → Node m v.sizes v.key server k (place_in v.sizes v.leaf k) (digest_due v path k)
    → masked v.sizes k (item v path k) ≡ masked v.sizes k (or_nil (server k (place_in v.sizes v.leaf k)))

module _ (m : Means) (v : View) (path : List ℕ) (server : Server) (low : v.leaf < leaves v.sizes)
    (tied : Tied m v.sizes v.key server v.sizes.height 0 0 (eqb v.written 1) v.root) where
  abbrev s : Sizes
  s = v.sizes

  abbrev at : ℕ → ℕ
  at k = place_in s v.leaf k

  module _ (size : length path ≡ path_len v.sizes) (meets : Meets m v path server) where
    alike_of : (k : ℕ) → k ≤ s.height → reachable v path k ≡ true → Node m s v.key server k (at k) (digest_due v path k)
        → Alike s (item v path k) (or_nil (server k (at k)))
    alike_of k h r n =
        masked-alike s k (item v path k) (or_nil (server k (at k)))
        (length_part path (item_at s k) (item_len s k) (omega (arith, item_fits s k h))) n.size (meets k h r n)

    pub walk : (k h : ℕ) → k + h ≡ s.height → Tied m s v.key server h k (at k) (reachable v path k) (digest_due v path k)
    unfolding reachable Tied
    walk zero h e =
        let o : s.height - 0 ≡ s.height = omega arith in
        let z : 0 ≡ v.leaf / 2 ^ (s.height - 0) = rw o (sym (div-eq_of_lt low)) in
        let q : s.height ≡ h = omega arith in
        tied-top m s v.key server s.height h q 0 (v.leaf / 2 ^ (s.height - 0)) (eqb v.written 1) v.root z tied
    walk (suc k) h e =
        tied-when m s v.key server h (suc k) (at (suc k)) (reachable v path (suc k)) (digest_due v path (suc k)) (λ g.
        let d : s.height - k ≡ suc h = omega arith in
        let d' : s.height - suc k ≡ h = omega arith in
        let up : reachable v path k ≡ true = and_left (reachable v path k) _ g in
        let w = walk k (suc h) (omega arith) up in
        let i = alike_of k (omega arith) up w.0 in
        let flag : eqb (flag_of s (item v path k) (side v k)) 1 ≡ true = and_right (reachable v path k) _ g in
        by_cases (eqb (side v k) 0)
        (λ c.
        let z : side v k ≡ 0 = eqb-true _ 0 c in
        let y : v.leaf / 2 ^ h % 2 ≡ 0 = rw d' at z in
        let j : 2 * at k ≡ at (suc k) = rw (d, d') (omega (arith, half v.leaf h)) in
        let lead : leads s server k (at k) 0 ≡ true = ap (λ (x : ℕ). eqb x 1) (sym (i.flags 0 (omega arith)) ∙ ap (flag_of s (item v path k)) (sym z)) ∙ flag in
        let same : digest_of s (or_nil (server k (at k))) 0 ≡ digest_due v path (suc k) =
        sym (i.digests 0 (omega arith) (eqb-true _ 1 lead)) ∙ ap (digest_of s (item v path k)) (sym z) in
        tied-eq m s v.key server h (suc k) (2 * at k) (at (suc k)) (leads s server k (at k) 0) (reachable v path (suc k))
        (digest_of s (or_nil (server k (at k))) 0) (digest_due v path (suc k)) j (lead ∙ sym g) same w.1)
        (λ c.
        let z : side v k ≡ 1 = omega (arith, eqb-false (side v k) 0 c) in
        let y : v.leaf / 2 ^ h % 2 ≡ 1 = rw d' at z in
        let j : 2 * at k + 1 ≡ at (suc k) = rw (d, d') (omega (arith, half v.leaf h)) in
        let lead : leads s server k (at k) 1 ≡ true = ap (λ (x : ℕ). eqb x 1) (sym (i.flags 1 (omega arith)) ∙ ap (flag_of s (item v path k)) (sym z)) ∙ flag in
        let same : digest_of s (or_nil (server k (at k))) 1 ≡ digest_due v path (suc k) =
        sym (i.digests 1 (omega arith) (eqb-true _ 1 lead)) ∙ ap (digest_of s (item v path k)) (sym z) in
        tied-eq m s v.key server h (suc k) (2 * at k + 1) (at (suc k)) (leads s server k (at k) 1) (reachable v path (suc k))
        (digest_of s (or_nil (server k (at k))) 1) (digest_due v path (suc k)) j (lead ∙ sym g) same w.2))

    pub met-node : (k : ℕ) → k ≤ s.height → reachable v path k ≡ true → Node m s v.key server k (at k) (digest_due v path k)
    met-node k h r = tied-node m s v.key server (s.height - k) k (at k) (reachable v path k) (digest_due v path k) (walk k (s.height - k) (omega arith)) r

  -- so a path that the server returns agrees with it
  pub returns-agrees : Returns s server v.leaf path → Agrees v server path
  returns-agrees fair =
      let meets : Meets m v path server = λ k h r n. ap (masked s k) (fair.items k h (or_nil (server k (at k))) n.there) in
      record { size = fair.size; items = λ k h r. meets k h r (met-node fair.size meets k h r) }

  -- ---- a path that agrees with it

  module _ (fair : Agrees v server path) where
    meets : Meets m v path server
    meets k h r n = fair.items k h r

    pub agree-walk : (k h : ℕ) → k + h ≡ s.height → Tied m s v.key server h k (at k) (reachable v path k) (digest_due v path k)
    agree-walk = walk fair.size meets

    module _ (k : ℕ) (h : k ≤ s.height) (r : reachable v path k ≡ true) where
      pub node : Node m s v.key server k (at k) (digest_due v path k)
      node = met-node fair.size meets k h r

      -- what was handed back for a reachable item is what the server holds, as far as a digest tells
      pub alike : Alike s (item v path k) (or_nil (server k (at k)))
      alike = alike_of fair.size meets k h r node

      pub digest-fits : item_digest m s k (item v path k) ≡ digest_due v path k
      digest-fits = ap m.digest (fair.items k h r) ∙ node.digest

      pub left-fits : flag_of s (item v path k) 0 ≤ 1
      left-fits = rw (alike.flags 0 (omega arith)) node.left-flag

      pub right-fits : flag_of s (item v path k) 1 ≤ 1
      right-fits = rw (alike.flags 1 (omega arith)) node.right-flag

      pub found-is : found_at m v path k ≡ blocks_at m s v.key server k (at k)
      unfolding found_at
      found-is = rw r (blocks-same s (item v path k) (or_nil (server k (at k))) alike m v.key (bucket_at s v.leaf k))

      pub ways-fit : AllOf (λ b. bucket_at s b.leaf k ≡ bucket_at s v.leaf k) (found_at m v path k)
      ways-fit =
          rw found-is
          (all_map (λ b. place_in s b.leaf k ≡ at k) (λ b. bucket_at s b.leaf k ≡ bucket_at s v.leaf k) (λ b e. ap (bucket_no k) e)
          (blocks_at m s v.key server k (at k)) node.sits)

-- ---- another server that has all that was written here: the same blocks stand on it

module _ (m : Means) (s : Sizes) (key : List ℕ) (server server' : Server)
    (has : (k j : ℕ) (item : List ℕ) → server k j ≡ some item → server' k j ≡ some item) where
  same_item : (k j : ℕ) (due : List ℕ) → Node m s key server k j due → or_nil (server' k j) ≡ or_nil (server k j)
  same_item k j due n = ap or_nil (has k j (or_nil (server k j)) n.there)

  pub standing-tied : (h k j : ℕ) (r : Bool) (due : List ℕ) → Tied m s key server h k j r due → standing m s key server' h k j r ≡ standing m s key server h k j r
  unfolding standing Tied
  standing-tied zero k j false due t = refl
  standing-tied zero k j true due t = ap (blocks_in m s key (bucket_no k j)) (same_item k j due (t refl))
  standing-tied (suc h) k j false due t = refl
  standing-tied (suc h) k j true due t =
      let w = t refl in
      let e = same_item k j due w.0 in
      rw e
      (ap₂ (λ (a b : List Block). blocks_at m s key server k j ++ (a ++ b))
      (standing-tied h (suc k) (2 * j) (leads s server k j 0) (digest_of s (or_nil (server k j)) 0) w.1)
      (standing-tied h (suc k) (2 * j + 1) (leads s server k j 1) (digest_of s (or_nil (server k j)) 1) w.2))
