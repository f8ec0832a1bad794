-- Over a path that agrees with the server, finish finds exactly the blocks that stand on the way. Assumes nothing.
use Prim.Native.Nat.{ℕ, zero, suc, ◌+◌, ◌-◌, ◌/◌, ◌%◌, ◌^◌, ◌<◌}
use mathlib.Core.Path.{◌≡◌, refl, sym, ap, ap₂, ◌∙◌}
use mathlib.Core.Bool.{Bool, true, false}
use mathlib.Core.List.{List, []}
use native.Mathlib.Omega.{arith}
use native.Mathlib.Nat.{div-eq_of_lt}
use lib.Dec.{eqb}
use Rattle.sizes.specs.declared.Sizes.{Sizes}
use Rattle.sizes.specs.Sizes.{leaves}
use Rattle.bags.specs.Bags.{cnt}
use Rattle.bags.proofs.Bags.{cnt-append}
use Rattle.slots.specs.Slots.{Block}
use Rattle.items.specs.declared.View.{View}
use Rattle.items.specs.Items.{Means}
use Rattle.items.specs.Way.{reachable}
use Rattle.opening.specs.Opening.{found_at, found_to}
use Rattle.keeping.specs.Server.{Server, Agrees, blocks_at, leads, standing}
use Rattle.keeping.proofs.Standing.{on_it, off_it, on_none, split}
use Rattle.keeping.proofs.Tied.{Tied, alike, found-is}

pub below_none : (v : View) (path : List ℕ) (k : ℕ) → reachable v path k ≡ false → reachable v path (suc k) ≡ false
unfolding reachable
below_none v path k r = rw r refl

module _ (m : Means) (v : View) (path : List ℕ) (server : Server) (low : v.leaf < leaves v.sizes)
    (tied : Tied m v.sizes v.key server v.sizes.height 0 0 (eqb v.written 1) v.root) (fair : Agrees v server path) where
  abbrev s : Sizes
  s = v.sizes

  abbrev way : ℕ → ℕ → Bool → List Block
  way h k r = on_it m s v.key v.leaf server h k r

  abbrev pub off : ℕ → ℕ → Bool → List Block
  off h k r = off_it m s v.key v.leaf server h k r

  found_none : (k : ℕ) → reachable v path k ≡ false → found_at m v path k ≡ []
  unfolding found_at
  found_none k e = rw e refl

  found-at : (h k : ℕ) → k + h ≡ s.height → reachable v path k ≡ true → found_at m v path k ≡ blocks_at m s v.key server k (v.leaf / 2 ^ h)
  found-at h k e r =
      let d : s.height - k ≡ h = omega arith in
      found-is m v path server low tied fair k (omega arith) r ∙ rw d refl

  -- the way goes on where the server's flag leads
  pub goes_on : (h k : ℕ) → k + suc h ≡ s.height → reachable v path k ≡ true
      → reachable v path (suc k) ≡ leads s server k (v.leaf / 2 ^ suc h) (v.leaf / 2 ^ h % 2)
  unfolding reachable
  goes_on h k e r =
      let d : s.height - k ≡ suc h = omega arith in
      let d' : s.height - suc k ≡ h = omega arith in
      let f = (alike m v path server low tied fair k (omega arith) r).flags (v.leaf / 2 ^ (s.height - suc k) % 2) (omega arith) in
      rw (r, f, d, d') refl

  one_more : (t : Block → Bool) (k : ℕ) → cnt t (found_to m v path (suc k)) ≡ cnt t (found_to m v path k) + cnt t (found_at m v path k)
  unfolding found_to
  one_more t k = cnt-append t (found_to m v path k) (found_at m v path k)

  way-last : (t : Block → Bool) (k : ℕ) → k + 0 ≡ s.height → (r : Bool) → reachable v path k ≡ r → cnt t (way 0 k r) ≡ cnt t (found_at m v path k)
  unfolding on_it
  way-last t k e true r = ap (cnt t) (sym (found-at 0 k e r))
  way-last t k e false r = ap (cnt t) (sym (found_none k r))

  way_step : (t : Block → Bool) (h k : ℕ) → k + suc h ≡ s.height → (r : Bool) → reachable v path k ≡ r
      → cnt t (way (suc h) k r) ≡ cnt t (found_at m v path k) + cnt t (way h (suc k) (reachable v path (suc k)))
  unfolding on_it
  way_step t h k e true r =
      cnt-append t (blocks_at m s v.key server k (v.leaf / 2 ^ suc h)) (way h (suc k) (leads s server k (v.leaf / 2 ^ suc h) (v.leaf / 2 ^ h % 2)))
      ∙ ap₂ (λ (a : List Block) (b : Bool). cnt t a + cnt t (way h (suc k) b)) (sym (found-at (suc h) k e r)) (sym (goes_on h k e r))
  way_step t h k e false r =
      let a : cnt t (found_at m v path k) ≡ 0 = ap (cnt t) (found_none k r) in
      let b : cnt t (way h (suc k) (reachable v path (suc k))) ≡ 0 =
      ap (λ (w : Bool). cnt t (way h (suc k) w)) (below_none v path k r) ∙ ap (cnt t) (on_none m s v.key v.leaf server h (suc k)) in
      omega (arith, a, b)

  found_from : (t : Block → Bool) (h k : ℕ) → k + h ≡ s.height
      → cnt t (found_to m v path k) + cnt t (way h k (reachable v path k)) ≡ cnt t (found_to m v path (suc s.height))
  found_from t zero k e =
      let q : k ≡ s.height = omega arith in
      omega (arith, one_more t k, way-last t k e (reachable v path k) refl, ap (λ (j : ℕ). cnt t (found_to m v path (suc j))) q)
  found_from t (suc h) k e =
      omega (arith, one_more t k, way_step t h k e (reachable v path k) refl, found_from t h (suc k) (omega arith))

  -- what is found, and what is off the way, is all that stands on the server
  pub found-off : (t : Block → Bool)
      → cnt t (found_to m v path (suc s.height)) + cnt t (off s.height 0 (eqb v.written 1))
      ≡ cnt t (standing m s v.key server s.height 0 0 (eqb v.written 1))
  unfolding found_to reachable
  found-off t =
      let z : v.leaf / 2 ^ s.height ≡ 0 = div-eq_of_lt low in
      let f = found_from t s.height 0 (omega arith) in
      let p : cnt t (standing m s v.key server s.height 0 0 (eqb v.written 1))
      ≡ cnt t (way s.height 0 (eqb v.written 1)) + cnt t (off s.height 0 (eqb v.written 1)) =
      ap (λ (j : ℕ). cnt t (standing m s v.key server s.height 0 j (eqb v.written 1))) (sym z) ∙ split m s v.key v.leaf server t s.height 0 (eqb v.written 1) in
      omega (arith, p, f, one_more t s.height)
