-- The fields of an item, by their places in the path that it lies in. Assumes nothing.
use mathlib.Core.Path.{◌≡◌, ap, ◌∙◌}
use mathlib.Core.List.{List}
use Prim.Native.Nat.{ℕ, ◌+◌, ◌≤◌, ◌<◌}
use native.Mathlib.Nat.{add-zero}
use native.Mathlib.Omega.{arith}
use lib.ListN.{get_or}
use Rattle.words.specs.Bytes.{part}
use Rattle.words.specs.Numbers.{number}
use Rattle.words.proofs.Splice.{part-part, get_d_part}
use Rattle.words.proofs.Numbers.{number-part}
use Rattle.words.proofs.Tests.{below_or}
use Rattle.sizes.specs.declared.Sizes.{Sizes}
use Rattle.sizes.specs.Sizes.{leaf_len, item_len, item_at, item_of, counter_len, digest_len, slots_len, flag_at, digest_at}
use Rattle.sizes.proofs.Lengths.{inner-item, leaf-item}
use Rattle.items.specs.Items.{counter_bytes, counter_of, slots_of, flag_of, digest_of}

module _ (s : Sizes) (xs : List ℕ) (k : ℕ) where
  -- every item has a counter and slots
  pub item-long : leaf_len s ≤ item_len s k
  item-long = below_or k s.height (λ h. omega (arith, inner-item s k h)) (λ h. omega (arith, leaf-item s k h))

  pub counter-bytes : counter_bytes (item_of s xs k) ≡ part xs (item_at s k) counter_len
  counter-bytes = part-part xs (item_at s k) (item_len s k) 0 counter_len (omega (arith, item-long)) ∙ ap (λ (a : ℕ). part xs a counter_len) (add-zero (item_at s k))

  pub counter-of : counter_of (item_of s xs k) ≡ number counter_len xs (item_at s k)
  counter-of = number-part counter_len xs (item_at s k) (item_len s k) 0 (omega (arith, item-long)) ∙ ap (number counter_len xs) (add-zero (item_at s k))

  pub slots-of : slots_of s (item_of s xs k) ≡ part xs (item_at s k + counter_len) (slots_len s)
  slots-of = part-part xs (item_at s k) (item_len s k) counter_len (slots_len s) (omega (arith, item-long))

  -- an inner one has flags and digests
  module _ (inner : k < s.height) (side : ℕ) (two : side ≤ 1) where
    pub flag-of : flag_of s (item_of s xs k) side ≡ get_or xs (item_at s k + flag_at s side) 0
    flag-of = get_d_part xs (item_at s k) (item_len s k) (flag_at s side) (omega (arith, inner-item s k inner))

    pub digest-of : digest_of s (item_of s xs k) side ≡ part xs (item_at s k + digest_at s side) digest_len
    digest-of = part-part xs (item_at s k) (item_len s k) (digest_at s side) digest_len (omega (arith, inner-item s k inner))
