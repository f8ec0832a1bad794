-- The working copy: the slots of its first k items opened, the items from k on as they were lent. Assumes nothing.
use Prim.Native.Nat.{ℕ, ◌+◌, ◌≤◌, ◌<◌}
use mathlib.Core.Path.{◌≡◌, sym, ap, ◌∙◌, subst}
use mathlib.Core.List.{List}
use native.Mathlib.Nat.{zero-add}
use native.Mathlib.Omega.{arith}
use lib.ListN.{length}
use Rattle.words.specs.Bytes.{part, splice}
use Rattle.words.proofs.Splice.{part-splice, part-splice-in, part-splice-before, part-splice-after}
use Rattle.words.proofs.Tests.{below_or}
use Rattle.sizes.specs.Sizes.{leaf_len, item_len, item_at, path_len, counter_len, slots_len, most_path}
use Rattle.sizes.proofs.Lengths.{item_fits, items-apart}
use Rattle.items.specs.declared.View.{View}
use Rattle.items.specs.Items.{slots_opened}
use Rattle.items.specs.Way.{item, bucket}
use Rattle.items.specs.Real.{real}
use Rattle.items.proofs.Fields.{item-long, slots-of}
use Rattle.items.proofs.Sealing.{length-opened}
use Rattle.opening.specs.Walk.{Unsealed}

-- the slots of the item at level k of the working copy
abbrev slots_in : View → List ℕ → ℕ → List ℕ
slots_in v w k = part w (item_at v.sizes k + counter_len) (slots_len v.sizes)

abbrev opened_at : View → List ℕ → ℕ → List ℕ
opened_at v path k = slots_opened real v.sizes v.key (bucket v k) (item v path k)

pub record Copied (v : View) (path w : List ℕ) (k : ℕ) : Type 0 where
  pub slots : (i : ℕ) → i < k → slots_in v w i ≡ opened_at v path i
  pub lent : (i : ℕ) → k ≤ i → i ≤ v.sizes.height → item v w i ≡ item v path i

pub copied_none : (v : View) (path before w : List ℕ) → length path ≡ path_len v.sizes → w ≡ splice before 0 path → Copied v path w 0
copied_none v path before w h e =
    record {
      slots = λ i l. absurd (omega arith);
      lent = λ i l m.
          let s = v.sizes in
          let z : 0 + item_at s i ≡ item_at s i = zero-add (item_at s i) in
          let p : part (splice before 0 path) (0 + item_at s i) (item_len s i) ≡ part path (item_at s i) (item_len s i) =
          part-splice-in before 0 path (item_at s i) (item_len s i) (omega arith) (omega (arith, item_fits s i m)) in
          ap (λ (x : List ℕ). item v x i) e ∙ ap (λ (a : ℕ). part (splice before 0 path) a (item_len s i)) (sym z) ∙ p;
    }

pub copied_next : (v : View) (path w u : List ℕ) (k : ℕ) → k ≤ v.sizes.height → path_len v.sizes ≤ length w → Copied v path w k
    → u ≡ splice w (item_at v.sizes k + counter_len) (opened_at v w k) → Copied v path u (k + 1)
copied_next v path w u k h room c e =
    let s = v.sizes in
    let a = item_at s k + counter_len in
    let ys = opened_at v w k in
    let fits : item_at s k + leaf_len s ≤ length w = omega (arith, item_fits s k h, item-long s w k) in
    let n : length ys ≡ slots_len s = length-opened s v.key w k (bucket v k) fits in
    record {
      slots = λ i l.
          below_or i k
          (λ b.
          ap (λ (x : List ℕ). slots_in v x i) e
          ∙ part-splice-before w a ys (item_at s i + counter_len) (slots_len s) (omega (arith, items-apart s i k b h, item-long s w i)) (omega arith) ∙ c.slots i b)
          (λ b.
          let q : i ≡ k = omega arith in
          let p : slots_in v (splice w a ys) k ≡ ys = ap (part (splice w a ys) a) (sym n) ∙ part-splice w a ys (omega arith) in
          subst (λ (j : ℕ). slots_in v u j ≡ opened_at v path j) (sym q)
          (ap (λ (x : List ℕ). slots_in v x k) e ∙ p ∙ ap (slots_opened real s v.key (bucket v k)) (c.lent k (omega arith) h)));
      lent = λ i l m.
          ap (λ (x : List ℕ). item v x i) e
          ∙ part-splice-after w a ys (item_at s i) (item_len s i) (omega (arith, items-apart s k i (omega arith) m, item-long s w k)) (omega arith)
          ∙ c.lent i (omega arith) m;
    }

pub copied_all : (v : View) (path w : List ℕ) (k n : ℕ) → k ≡ n → length w ≡ most_path → Copied v path w k → Unsealed v path n w
copied_all v path w k n e l c = record { size = l; slots = λ i h. slots-of v.sizes w i ∙ c.slots i (omega arith) }
