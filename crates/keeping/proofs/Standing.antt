-- What stands on a server, split by the way to a leaf: the blocks on the way, and those off it, which a written path leaves as they were. Assumes nothing.
use Prim.Native.Nat.{ℕ, zero, suc, ◌+◌, ◌-◌, ◌*◌, ◌/◌, ◌%◌, ◌^◌}
use mathlib.Core.Path.{◌≡◌, refl, sym, ap, ap₂, ◌∙◌}
use mathlib.Core.Logic.{◌≢◌}
use mathlib.Core.Bool.{Bool, true, false, ◌&&◌}
use mathlib.Core.List.{List, [], ◌++◌}
use native.Mathlib.Omega.{arith}
use native.Mathlib.Nat.{pow-suc, div-div-eq-div-mul}
use lib.Dec.{eqb}
use borrow.Author.Tests.{eqb-true, eqb-false}
use Rattle.words.proofs.Tests.{by_cases}
use Rattle.sizes.specs.declared.Sizes.{Sizes}
use Rattle.sizes.specs.Sizes.{place_in}
use Rattle.bags.specs.Bags.{choose, cnt}
use Rattle.bags.proofs.Bags.{cnt-append}
use Rattle.slots.specs.Slots.{Block}
use Rattle.items.specs.Items.{Means}
use Rattle.keeping.specs.Server.{Server, blocks_at, leads, standing}

pub half : (a m : ℕ) → a / 2 ^ suc m ≡ a / 2 ^ m / 2
half a m = rw (pow-suc 2 m) (sym (div-div-eq-div-mul a (2 ^ m) 2))

module _ (m : Means) (s : Sizes) (key : List ℕ) (leaf : ℕ) where
  -- the place on the way with h levels below it, and the side on which the way goes on
  abbrev pub spot : ℕ → ℕ
  spot h = leaf / 2 ^ h

  abbrev pub turn : ℕ → ℕ
  turn h = leaf / 2 ^ h % 2

  module _ (server : Server) where
    -- the blocks on the way from level k on, and off it
    unfoldable pub on_it : ℕ → ℕ → Bool → List Block
    on_it zero k r = choose r (blocks_at m s key server k (spot zero)) []
    on_it (suc h) k r = choose r (blocks_at m s key server k (spot (suc h)) ++ on_it h (suc k) (leads s server k (spot (suc h)) (turn h))) []

    unfoldable pub off_it : ℕ → ℕ → Bool → List Block
    off_it zero k r = []
    off_it (suc h) k r =
        choose r
        (standing m s key server h (suc k) (2 * spot (suc h) + (1 - turn h)) (leads s server k (spot (suc h)) (1 - turn h))
        ++ off_it h (suc k) (leads s server k (spot (suc h)) (turn h)))
        []

    pub split : (t : Block → Bool) (h k : ℕ) (r : Bool) → cnt t (standing m s key server h k (spot h) r) ≡ cnt t (on_it h k r) + cnt t (off_it h k r)
    unfolding standing on_it off_it
    split t zero k r = omega arith
    split t (suc h) k false = refl
    split t (suc h) k true =
        by_cases (eqb (turn h) 0)
        (λ e.
        let z : turn h ≡ 0 = eqb-true (turn h) 0 e in
        let q : 2 * spot (suc h) ≡ spot h = omega (arith, half leaf h) in
        let w : Bool = leads s server k (spot (suc h)) 0 in
        let ih : cnt t (standing m s key server h (suc k) (2 * spot (suc h)) w) ≡ cnt t (on_it h (suc k) w) + cnt t (off_it h (suc k) w) =
        ap (λ (x : ℕ). cnt t (standing m s key server h (suc k) x w)) q ∙ split t h (suc k) w in
        rw z (simp cnt-append (omega (arith, ih))))
        (λ e.
        let z : turn h ≡ 1 = omega (arith, eqb-false (turn h) 0 e) in
        let q : 2 * spot (suc h) + 1 ≡ spot h = omega (arith, half leaf h) in
        let w : Bool = leads s server k (spot (suc h)) 1 in
        let v : Bool = leads s server k (spot (suc h)) 0 in
        let o : cnt t (standing m s key server h (suc k) (2 * spot (suc h) + 0) v) ≡ cnt t (standing m s key server h (suc k) (2 * spot (suc h)) v) =
        ap (λ (x : ℕ). cnt t (standing m s key server h (suc k) x v)) (omega arith) in
        let ih : cnt t (standing m s key server h (suc k) (2 * spot (suc h) + 1) w) ≡ cnt t (on_it h (suc k) w) + cnt t (off_it h (suc k) w) =
        ap (λ (x : ℕ). cnt t (standing m s key server h (suc k) x w)) q ∙ split t h (suc k) w in
        rw z (simp cnt-append (omega (arith, ih, o))))

    -- nothing is off the way of what is not reachable
    pub off-none : (h k : ℕ) → off_it h k false ≡ []
    unfolding off_it
    off-none zero k = refl
    off-none (suc h) k = refl

    pub on_none : (h k : ℕ) → on_it h k false ≡ []
    unfolding on_it
    on_none zero k = refl
    on_none (suc h) k = refl

  pub nothing-stands : (server : Server) (h k j : ℕ) → standing m s key server h k j false ≡ []
  unfolding standing
  nothing-stands server zero k j = refl
  nothing-stands server (suc h) k j = refl

  -- a bucket off the way is not touched, nor what is below it
  module _ (server server' : Server) (f : (k j : ℕ) → j ≢ place_in s leaf k → server' k j ≡ server k j) where
    pub same-bucket : (h k j : ℕ) → k + h ≡ s.height → j ≢ spot h → server' k j ≡ server k j
    same-bucket h k j e n = let d : s.height - k ≡ h = omega arith in f k j (rw d n)

    pub untouched : (h k j : ℕ) (r : Bool) → k + h ≡ s.height → j ≢ spot h → standing m s key server' h k j r ≡ standing m s key server h k j r
    unfolding standing
    untouched zero k j r e n = rw (same-bucket zero k j e n)
    untouched (suc h) k j r e n =
        rw (
          same-bucket (suc h) k j e n,
          untouched h (suc k) (2 * j) (leads s server k j 0) (omega arith) (λ q. n (omega (arith, half leaf h))),
          untouched h (suc k) (2 * j + 1) (leads s server k j 1) (omega arith) (λ q. n (omega (arith, half leaf h))),
        )

  -- a path is written over what was reachable as r says, level by level: the way now leads on, and a sibling's flag is kept where its parent was reachable
  pub record Rewritten (server server' : Server) (r : ℕ → Bool) : Type 0 where
    pub others : (k j : ℕ) → j ≢ place_in s leaf k → server' k j ≡ server k j
    pub down : (k h : ℕ) → suc (k + h) ≡ s.height → r (suc k) ≡ (r k && leads s server k (spot (suc h)) (turn h))
    pub ahead : (k h : ℕ) → suc (k + h) ≡ s.height → leads s server' k (spot (suc h)) (turn h) ≡ true
    pub sibling : (k h : ℕ) → suc (k + h) ≡ s.height → leads s server' k (spot (suc h)) (1 - turn h) ≡ (r k && leads s server k (spot (suc h)) (1 - turn h))

  -- what stands off the way stays
  module _ (server server' : Server) (r : ℕ → Bool) (w : Rewritten server server' r) where
    off-sibling : (h : ℕ) → 2 * spot (suc h) + (1 - turn h) ≢ spot h
    off-sibling h z = omega (arith, half leaf h)

    pub off-stays : (h k : ℕ) → k + h ≡ s.height → (now : Bool) → r k ≡ now → off_it server' h k true ≡ off_it server h k now
    unfolding off_it
    off-stays zero k e now q = refl
    off-stays (suc h) k e true q =
        let d : suc (k + h) ≡ s.height = omega arith in
        let f : leads s server' k (spot (suc h)) (1 - turn h) ≡ leads s server k (spot (suc h)) (1 - turn h) = w.sibling k h d ∙ rw q refl in
        let g : r (suc k) ≡ leads s server k (spot (suc h)) (turn h) = w.down k h d ∙ rw q refl in
        ap₂ (λ (a b : List Block). a ++ b)
        (ap (λ (b : Bool). standing m s key server' h (suc k) (2 * spot (suc h) + (1 - turn h)) b) f
        ∙ untouched server server' w.others h (suc k) (2 * spot (suc h) + (1 - turn h)) (leads s server k (spot (suc h)) (1 - turn h)) (omega arith) (off-sibling h))
        (ap (off_it server' h (suc k)) (w.ahead k h d) ∙ off-stays h (suc k) (omega arith) (leads s server k (spot (suc h)) (turn h)) g)
    off-stays (suc h) k e false q =
        let d : suc (k + h) ≡ s.height = omega arith in
        let f : leads s server' k (spot (suc h)) (1 - turn h) ≡ false = w.sibling k h d ∙ rw q refl in
        let g : r (suc k) ≡ false = w.down k h d ∙ rw q refl in
        ap₂ (λ (a b : List Block). a ++ b)
        (ap (λ (b : Bool). standing m s key server' h (suc k) (2 * spot (suc h) + (1 - turn h)) b) f ∙ nothing-stands server' h (suc k) (2 * spot (suc h) + (1 - turn h)))
        (ap (off_it server' h (suc k)) (w.ahead k h d) ∙ off-stays h (suc k) (omega arith) false g ∙ off-none server h (suc k))
