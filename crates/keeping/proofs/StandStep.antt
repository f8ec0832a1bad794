-- The server after a path was written as step 6 writes it: the placed blocks stand on the way, and the others where they stood. Assumes nothing but
-- what is asked of digest and cipher.
use Prim.Native.Nat.{ℕ, zero, suc, ◌+◌, ◌-◌, ◌/◌, ◌%◌, ◌^◌, ◌<◌, ◌≤◌}
use mathlib.Core.Path.{◌≡◌, refl, sym, ap, ◌∙◌}
use mathlib.Core.Logic.{◌≢◌}
use mathlib.Core.Bool.{Bool, true, ◌&&◌}
use mathlib.Core.List.{List, [], ◌∷◌}
use native.Mathlib.Omega.{arith}
use native.Mathlib.Nat.{div-eq_of_lt}
use lib.ListN.{length, get_or, take}
use lib.Seq.{take_all}
use lib.Dec.{eqb}
use Rattle.words.proofs.Tests.{by_cases}
use Rattle.sizes.specs.declared.Sizes.{Sizes}
use Rattle.sizes.specs.Sizes.{leaves, place_in}
use Rattle.bags.specs.Bags.{cnt, flat}
use Rattle.bags.proofs.Bags.{cnt-append}
use Rattle.slots.specs.Slots.{Block}
use Rattle.items.specs.declared.View.{View}
use Rattle.items.specs.Items.{Means, Sound, counter_of, blocks_in}
use Rattle.items.specs.Way.{item, bucket, side, reachable}
use Rattle.opening.specs.Opening.{last_counter}
use Rattle.keeping.specs.Server.{Server, Agrees, leads, blocks_at, standing}
use Rattle.keeping.proofs.Standing.{on_it, off_it, split, Rewritten, off-stays}
use Rattle.keeping.proofs.Tied.{Tied}
use Rattle.keeping.proofs.Found.{goes_on, below_none}
use Rattle.keeping.proofs.Written.{Lies, blocks-new}
use Rattle.keeping.proofs.TreeStep.{server_after, others, new-item, lead-on, lead-off}

-- ---- the first n lists, one behind the other

cnt-taken : {A : Type 0} (t : A → Bool) (xs : List (List A)) (h : ℕ) → cnt t (flat (take (suc h) xs)) ≡ cnt t (flat (take h xs)) + cnt t (get_or xs h [])
cnt-taken t [] zero = refl
cnt-taken t [] (suc h) = refl
cnt-taken t (x ∷ xs) zero = cnt-append t x [] ∙ omega arith
cnt-taken t (x ∷ xs) (suc h) =
    omega (arith, cnt-append t x (flat (take (suc h) xs)), cnt-append t x (flat (take h xs)), cnt-taken t xs h)

module _ (m : Means) (o : Sound m) (v : View) (path : List ℕ) (server : Server) (low : v.leaf < leaves v.sizes)
    (tied : Tied m v.sizes v.key server v.sizes.height 0 0 (eqb v.written 1) v.root) (fair : Agrees v server path)
    (placed : List (List Block)) (laid : (k : ℕ) → k ≤ v.sizes.height → Lies v.sizes v.leaf k (get_or placed (v.sizes.height - k) []))
    (fresh : (k : ℕ) → k ≤ v.sizes.height → reachable v path k ≡ true → counter_of (item v path k) ≢ last_counter) where
  abbrev s : Sizes
  s = v.sizes

  abbrev L : ℕ
  L = v.sizes.height

  abbrev now : Server
  now = server_after m o v path server low tied fair placed laid fresh

  -- with h levels below level k
  module _ (k h : ℕ) (e : suc (k + h) ≡ L) where
    here : place_in s v.leaf k ≡ v.leaf / 2 ^ suc h
    here = let d : L - k ≡ suc h = omega arith in ap (λ (n : ℕ). v.leaf / 2 ^ n) d

    turns : side v k ≡ v.leaf / 2 ^ h % 2
    turns = let d : L - suc k ≡ h = omega arith in ap (λ (n : ℕ). v.leaf / 2 ^ n % 2) d

    ahead-is : leads s now k (v.leaf / 2 ^ suc h) (v.leaf / 2 ^ h % 2) ≡ true
    ahead-is =
        ap (λ (j : ℕ). leads s now k j (v.leaf / 2 ^ h % 2)) (sym here)
        ∙ lead-on m o v path server low tied fair placed laid fresh k (v.leaf / 2 ^ h % 2) (omega arith) (sym turns)

    sibling-is : leads s now k (v.leaf / 2 ^ suc h) (1 - v.leaf / 2 ^ h % 2) ≡ (reachable v path k && leads s server k (v.leaf / 2 ^ suc h) (1 - v.leaf / 2 ^ h % 2))
    sibling-is =
        let n : 1 - v.leaf / 2 ^ h % 2 ≢ side v k = λ q. omega (arith, turns) in
        rw (← here) (lead-off m o v path server low tied fair placed laid fresh k (1 - v.leaf / 2 ^ h % 2) (omega arith) (omega arith) n)

    down_is : reachable v path (suc k) ≡ (reachable v path k && leads s server k (v.leaf / 2 ^ suc h) (v.leaf / 2 ^ h % 2))
    down_is =
        by_cases (reachable v path k)
        (λ r. goes_on m v path server low tied fair h k (omega arith) r ∙ rw r refl)
        (λ r. below_none v path k r ∙ rw r refl)

  rewritten : Rewritten m s v.key v.leaf server now (reachable v path)
  rewritten = record { others = others m o v path server low tied fair placed laid fresh; down = down_is; ahead = ahead-is; sibling = sibling-is }

  blocks-on : (t : Block → Bool) (h k : ℕ) → k + h ≡ L → cnt t (blocks_at m s v.key now k (v.leaf / 2 ^ h)) ≡ cnt t (get_or placed h [])
  blocks-on t h k e =
      let d : L - k ≡ h = omega arith in
      let p : place_in s v.leaf k ≡ v.leaf / 2 ^ h = ap (λ (n : ℕ). v.leaf / 2 ^ n) d in
      ap (λ (j : ℕ). cnt t (blocks_at m s v.key now k j)) (sym p)
      ∙ ap (λ (x : List ℕ). cnt t (blocks_in m s v.key (bucket v k) x)) (new-item m o v path server low tied fair placed laid fresh k (omega arith))
      ∙ ap (cnt t) (blocks-new m o v path placed fair.size laid k (omega arith) ∙ ap (λ (n : ℕ). get_or placed n []) d)

  on-after : (t : Block → Bool) (h k : ℕ) → k + h ≡ L → cnt t (on_it m s v.key v.leaf now h k true) ≡ cnt t (flat (take (suc h) placed))
  unfolding on_it
  on-after t zero k e = blocks-on t 0 k e ∙ sym (cnt-taken t placed 0 ∙ omega arith)
  on-after t (suc h) k e =
      let a = ahead-is k h (omega arith) in
      cnt-append t (blocks_at m s v.key now k (v.leaf / 2 ^ suc h)) (on_it m s v.key v.leaf now h (suc k) (leads s now k (v.leaf / 2 ^ suc h) (v.leaf / 2 ^ h % 2)))
      ∙ ap (λ (b : Bool). cnt t (blocks_at m s v.key now k (v.leaf / 2 ^ suc h)) + cnt t (on_it m s v.key v.leaf now h (suc k) b)) a
      ∙ omega (arith, blocks-on t (suc h) k e, on-after t h (suc k) (omega arith), cnt-taken t placed (suc h))

  pub standing-after : length placed ≡ suc L → (t : Block → Bool)
      → cnt t (standing m s v.key now L 0 0 true) ≡ cnt t (flat placed) + cnt t (off_it m s v.key v.leaf server L 0 (eqb v.written 1))
  unfolding reachable
  standing-after l t =
      let z : v.leaf / 2 ^ L ≡ 0 = div-eq_of_lt low in
      let p = split m s v.key v.leaf now t L 0 true in
      let q : cnt t (standing m s v.key now L 0 (v.leaf / 2 ^ L) true) ≡ cnt t (standing m s v.key now L 0 0 true) =
      ap (λ (j : ℕ). cnt t (standing m s v.key now L 0 j true)) z in
      let f = ap (cnt t) (off-stays m s v.key v.leaf server now (reachable v path) rewritten L 0 (omega arith) (eqb v.written 1) refl) in
      let w : take (suc L) placed ≡ placed = take_all (suc L) placed (omega arith) in
      omega (arith, p, q, f, on-after t L 0 (omega arith), ap (λ (x : List (List Block)). cnt t (flat x)) w)
