-- Items that no digest tells apart have the same counter, slots and flags, and the same digest of a child where its flag is 1. Assumes nothing.
use Prim.Native.Nat.{ℕ, zero, suc, ◌+◌, ◌≤◌, ◌<◌}
use mathlib.Core.Path.{◌≡◌, refl, sym, ap, ap₂, ◌∙◌}
use mathlib.Core.List.{List, ◌++◌}
use native.Mathlib.Nat.{zero-add}
use native.Mathlib.Omega.{arith}
use lib.ListN.{length, take, drop, get_or}
use lib.Seq.{length-take-le, take_at, drop_at, take-take, get_or-take}
use lib.Dec.{eqb}
use Rattle.words.specs.Bytes.{part}
use Rattle.words.specs.Numbers.{number}
use Rattle.words.proofs.Splice.{length_part, length-zeros, part-part}
use Rattle.words.proofs.Numbers.{number-part}
use Rattle.words.proofs.Tests.{by_cases, below_or}
use Rattle.sizes.specs.declared.Sizes.{Sizes}
use Rattle.sizes.specs.Sizes.{counter_len, digest_len, slots_len, leaf_len, inner_len, item_len, flag_at, digest_at}
use Rattle.sizes.proofs.Lengths.{inner-item}
use Rattle.items.proofs.Digest.{masked-inner, masked-leaf}
use Rattle.items.specs.Items.{Means, counter_of, flag_of, digest_of, digest_read, masked, nonce_of, blocks_in}
use Rattle.bags.specs.Bags.{those}
use Rattle.slots.specs.Slots.{is_used, blocks_of}

pub record Alike (s : Sizes) (a b : List ℕ) : Type 0 where
  pub head : part a 0 (leaf_len s) ≡ part b 0 (leaf_len s)
  pub flags : (side : ℕ) → side ≤ 1 → flag_of s a side ≡ flag_of s b side
  pub digests : (side : ℕ) → side ≤ 1 → flag_of s b side ≡ 1 → digest_of s a side ≡ digest_of s b side

alike_same : (s : Sizes) (a b : List ℕ) → a ≡ b → Alike s a b
alike_same s a b e = rw e (record { head = refl; flags = λ side h. refl; digests = λ side h f. refl })

length-read : (s : Sizes) (a : List ℕ) (side : ℕ) → length a ≡ inner_len s → side ≤ 1 → length (digest_read s a side) ≡ digest_len
length-read s a side l h =
    by_cases (eqb (flag_of s a side) 0)
    (λ e. rw e (length-zeros digest_len))
    (λ e. rw e (length_part a (digest_at s side) digest_len (omega arith)))

read-digest : (s : Sizes) (a : List ℕ) (side : ℕ) → flag_of s a side ≡ 1 → digest_read s a side ≡ digest_of s a side
read-digest s a side f = rw f

module _ (s : Sizes) (k : ℕ) (a b : List ℕ) (inner : k < s.height) (la : length a ≡ inner_len s) (lb : length b ≡ inner_len s) (e : masked s k a ≡ masked s k b) where
  whole : take (digest_at s 0) a ++ (digest_read s a 0 ++ digest_read s a 1) ≡ take (digest_at s 0) b ++ (digest_read s b 0 ++ digest_read s b 1)
  whole = sym (masked-inner s k a inner) ∙ e ∙ masked-inner s k b inner

  short : (x : List ℕ) → length x ≡ inner_len s → length (take (digest_at s 0) x) ≡ digest_at s 0
  short x l = length-take-le (digest_at s 0) x (omega arith)

  start : take (digest_at s 0) a ≡ take (digest_at s 0) b
  start =
      sym (take_at (take (digest_at s 0) a) (digest_read s a 0 ++ digest_read s a 1) (digest_at s 0) (short a la))
      ∙ ap (take (digest_at s 0)) whole ∙ take_at (take (digest_at s 0) b) (digest_read s b 0 ++ digest_read s b 1) (digest_at s 0) (short b lb)

  end : digest_read s a 0 ++ digest_read s a 1 ≡ digest_read s b 0 ++ digest_read s b 1
  end =
      sym (drop_at (take (digest_at s 0) a) (digest_read s a 0 ++ digest_read s a 1) (digest_at s 0) (short a la))
      ∙ ap (drop (digest_at s 0)) whole ∙ drop_at (take (digest_at s 0) b) (digest_read s b 0 ++ digest_read s b 1) (digest_at s 0) (short b lb)

  reads : (side : ℕ) → side ≤ 1 → digest_read s a side ≡ digest_read s b side
  reads zero h =
      sym (take_at (digest_read s a 0) (digest_read s a 1) digest_len (length-read s a 0 la h))
      ∙ ap (take digest_len) end ∙ take_at (digest_read s b 0) (digest_read s b 1) digest_len (length-read s b 0 lb h)
  reads (suc zero) h =
      sym (drop_at (digest_read s a 0) (digest_read s a 1) digest_len (length-read s a 0 la (omega arith)))
      ∙ ap (drop digest_len) end ∙ drop_at (digest_read s b 0) (digest_read s b 1) digest_len (length-read s b 0 lb (omega arith))
  reads (suc (suc side)) h = absurd (omega arith)

  flag_same : (side : ℕ) → side ≤ 1 → flag_of s a side ≡ flag_of s b side
  flag_same side h =
      sym (get_or-take (digest_at s 0) a (flag_at s side) 0 (omega arith))
      ∙ ap (λ (x : List ℕ). get_or x (flag_at s side) 0) start ∙ get_or-take (digest_at s 0) b (flag_at s side) 0 (omega arith)

  inner-alike : Alike s a b
  inner-alike =
      record {
        head =
            sym (take-take (leaf_len s) (digest_at s 0) a (omega arith)) ∙ ap (take (leaf_len s)) start ∙ take-take (leaf_len s) (digest_at s 0) b (omega arith);
        flags = flag_same;
        digests = λ side h f. sym (read-digest s a side (flag_same side h ∙ f)) ∙ reads side h ∙ read-digest s b side f;
      }

leaf-alike : (s : Sizes) (k : ℕ) (a b : List ℕ) → s.height ≤ k → masked s k a ≡ masked s k b → Alike s a b
leaf-alike s k a b h e = alike_same s a b (sym (masked-leaf s k a h) ∙ e ∙ masked-leaf s k b h)

pub masked-alike : (s : Sizes) (k : ℕ) (a b : List ℕ) → length a ≡ item_len s k → length b ≡ item_len s k → masked s k a ≡ masked s k b → Alike s a b
masked-alike s k a b la lb e =
    below_or k s.height
    (λ h. inner-alike s k a b h (la ∙ inner-item s k h) (lb ∙ inner-item s k h) e)
    (λ h. leaf-alike s k a b h e)

-- ---- what they have in common

module _ (s : Sizes) (a b : List ℕ) (c : Alike s a b) where
  inside : (x : List ℕ) (i n : ℕ) → i + n ≤ leaf_len s → part x i n ≡ part (part x 0 (leaf_len s)) i n
  inside x i n h = sym (part-part x 0 (leaf_len s) i n h ∙ ap (λ (j : ℕ). part x j n) (zero-add i))

  bytes_same : (i n : ℕ) → i + n ≤ leaf_len s → part a i n ≡ part b i n
  bytes_same i n h = inside a i n h ∙ ap (λ (x : List ℕ). part x i n) c.head ∙ sym (inside b i n h)

  pub counter-same : counter_of a ≡ counter_of b
  counter-same =
      sym (number-part counter_len a 0 (leaf_len s) 0 (omega arith)) ∙ ap (λ (x : List ℕ). number counter_len x 0) c.head
      ∙ number-part counter_len b 0 (leaf_len s) 0 (omega arith)

  pub blocks-same : (m : Means) (key : List ℕ) (bucket : ℕ) → blocks_in m s key bucket a ≡ blocks_in m s key bucket b
  unfolding blocks_in
  blocks-same m key bucket =
      ap₂ (λ (counter text : List ℕ). those is_used (blocks_of s.slots (m.cipher key (nonce_of counter bucket) text)))
      (bytes_same 0 counter_len (omega arith)) (bytes_same counter_len (slots_len s) (omega arith))
