-- No block under a leaf stands off the way to that leaf. Assumes nothing.
use Prim.Native.Nat.{ℕ, zero, suc, ◌+◌, ◌-◌, ◌*◌, ◌/◌, ◌%◌, ◌^◌}
use mathlib.Core.Path.{◌≡◌, refl, sym, ap₂, ◌∙◌}
use mathlib.Core.Logic.{◌≢◌}
use mathlib.Core.Bool.{Bool, true, false}
use mathlib.Core.List.{List, [], ◌∷◌}
use native.Mathlib.Omega.{arith}
use lib.Dec.{eqb}
use borrow.Author.Tests.{eqb-true, eqb-false, ne_eqb}
use Rattle.words.proofs.Tests.{by_cases}
use Rattle.sizes.specs.declared.Sizes.{Sizes}
use Rattle.sizes.specs.Sizes.{place_in}
use Rattle.bags.specs.Bags.{cnt, AllOf}
use Rattle.bags.proofs.Bags.{cnt-append}
use Rattle.slots.specs.Slots.{Block}
use Rattle.items.specs.Items.{Means, digest_of}
use Rattle.keeping.specs.Server.{Server, or_nil, blocks_at, leads, standing}
use Rattle.keeping.proofs.Standing.{off_it, half}
use Rattle.keeping.proofs.Tied.{Tied}

abbrev pub leaf_is : ℕ → Block → Bool
leaf_is leaf b = eqb b.leaf leaf

none-there : (s : Sizes) (leaf k h j : ℕ) → s.height - k ≡ h → j ≢ leaf / 2 ^ h → (bs : List Block) → AllOf (λ b. place_in s b.leaf k ≡ j) bs
    → cnt (leaf_is leaf) bs ≡ 0
none-there s leaf k h j d n [] a = refl
none-there s leaf k h j d n (b ∷ bs) a =
    rw (ne_eqb b.leaf leaf (λ e. n (sym a.0 ∙ ap₂ (λ (x y : ℕ). x / 2 ^ y) e d))) (omega (arith, none-there s leaf k h j d n bs a.1))

module _ (m : Means) (s : Sizes) (key : List ℕ) (leaf : ℕ) (server : Server) where
  below-clean : (h k j : ℕ) (r : Bool) (due : List ℕ) → Tied m s key server h k j r due → k + h ≡ s.height → j ≢ leaf / 2 ^ h
      → cnt (leaf_is leaf) (standing m s key server h k j r) ≡ 0
  unfolding standing Tied
  below-clean zero k j false due t e n = refl
  below-clean zero k j true due t e n = none-there s leaf k 0 j (omega arith) n (blocks_at m s key server k j) (t refl).sits
  below-clean (suc h) k j false due t e n = refl
  below-clean (suc h) k j true due t e n =
      let w = t refl in
      let a = none-there s leaf k (suc h) j (omega arith) n (blocks_at m s key server k j) w.0.sits in
      let b = below-clean h (suc k) (2 * j) (leads s server k j 0) (digest_of s (or_nil (server k j)) 0) w.1 (omega arith) (λ q. n (omega (arith, half leaf h))) in
      let c = below-clean h (suc k) (2 * j + 1) (leads s server k j 1) (digest_of s (or_nil (server k j)) 1) w.2 (omega arith) (λ q. n (omega (arith, half leaf h))) in
      simp cnt-append (omega (arith, a, b, c))

  pub off-clean : (h k : ℕ) (r : Bool) (due : List ℕ) → Tied m s key server h k (leaf / 2 ^ h) r due → k + h ≡ s.height
      → cnt (leaf_is leaf) (off_it m s key leaf server h k r) ≡ 0
  unfolding off_it Tied
  off-clean zero k r due t e = refl
  off-clean (suc h) k false due t e = refl
  off-clean (suc h) k true due t e =
      let w = t refl in
      let j : ℕ = leaf / 2 ^ suc h in
      by_cases (eqb (leaf / 2 ^ h % 2) 0)
      (λ c.
      let z : leaf / 2 ^ h % 2 ≡ 0 = eqb-true _ 0 c in
      let q : 2 * j ≡ leaf / 2 ^ h = omega (arith, half leaf h) in
      let o : 2 * j + 1 ≢ leaf / 2 ^ h = λ p. omega arith in
      let b = below-clean h (suc k) (2 * j + 1) (leads s server k j 1) (digest_of s (or_nil (server k j)) 1) w.2 (omega arith) o in
      let i = off-clean h (suc k) (leads s server k j 0) (digest_of s (or_nil (server k j)) 0) (rw (← q) w.1) (omega arith) in
      rw z (simp cnt-append (omega (arith, b, i))))
      (λ c.
      let z : leaf / 2 ^ h % 2 ≡ 1 = omega (arith, eqb-false (leaf / 2 ^ h % 2) 0 c) in
      let q : 2 * j + 1 ≡ leaf / 2 ^ h = omega (arith, half leaf h) in
      let o : 2 * j + 0 ≢ leaf / 2 ^ h = λ p. omega arith in
      let f : 2 * j ≡ 2 * j + 0 = omega arith in
      let b = below-clean h (suc k) (2 * j + 0) (leads s server k j 0) (digest_of s (or_nil (server k j)) 0) (rw (← f) w.1) (omega arith) o in
      let i = off-clean h (suc k) (leads s server k j 1) (digest_of s (or_nil (server k j)) 1) (rw (← q) w.2) (omega arith) in
      rw z (simp cnt-append (omega (arith, b, i))))
