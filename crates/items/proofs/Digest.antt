-- The digest of an item, by the parts of the path that go into it. Assumes nothing.
use mathlib.Core.Path.{◌≡◌, sym, ap, ap₂, ◌∙◌}
use mathlib.Core.Bool.{cond}
use mathlib.Core.List.{List, ◌++◌, append_assoc}
use Prim.Native.Nat.{ℕ, ◌+◌, ◌≤◌, ◌<◌}
use native.Mathlib.Nat.{add-zero}
use native.Mathlib.Omega.{arith}
use lib.ListN.{get_or, take}
use lib.Dec.{eqb}
use borrow.Author.Tests.{lt-ltb, le-ltb}
use Rattle.words.specs.Bytes.{part, zeros}
use Rattle.words.proofs.Splice.{part-part}
use Rattle.sizes.specs.declared.Sizes.{Sizes}
use Rattle.sizes.specs.Sizes.{item_len, item_at, item_of, digest_len, flag_at, digest_at}
use Rattle.sizes.proofs.Lengths.{inner-item}
use Rattle.items.specs.Items.{digest_read, masked, item_digest}
use Rattle.items.specs.Real.{real}
use Rattle.items.proofs.Fields.{flag-of, digest-of}

pub masked-inner : (s : Sizes) (k : ℕ) (item : List ℕ) → k < s.height → masked s k item ≡ take (digest_at s 0) item ++ (digest_read s item 0 ++ digest_read s item 1)
unfolding masked
masked-inner s k item h = rw (lt-ltb k s.height h)

pub masked-leaf : (s : Sizes) (k : ℕ) (item : List ℕ) → s.height ≤ k → masked s k item ≡ item
unfolding masked
masked-leaf s k item h = rw (le-ltb k s.height h)

module _ (s : Sizes) (xs : List ℕ) (k : ℕ) (inner : k < s.height) where
  -- a child's digest as it is read: f is the place of its flag, m that of its digest
  abbrev pub read_at : ℕ → ℕ → ℕ → List ℕ
  read_at f m n = cond (eqb (get_or xs f 0) 0) (zeros digest_len) (part xs m n)

  read_is : (side f m n : ℕ) → side ≤ 1 → f ≡ item_at s k + flag_at s side → m ≡ item_at s k + digest_at s side → n ≡ digest_len → digest_read s (item_of s xs k) side ≡ read_at f m n
  read_is side f m n two p q r =
      ap₂ (λ (x : ℕ) (d : List ℕ). cond (eqb x 0) (zeros digest_len) d) (flag-of s xs k inner side two) (digest-of s xs k inner side two) ∙ rw (p, q, r)

  -- the three parts that go into the digest of an inner item
  pub inner-given : (at f m e g n₁ n₂ n₃ : ℕ) (ys : List ℕ) → at ≡ item_at s k → f ≡ item_at s k + flag_at s 0 → g ≡ item_at s k + flag_at s 1
      → m ≡ item_at s k + digest_at s 0 → e ≡ item_at s k + digest_at s 1 → n₁ ≡ digest_at s 0 → n₂ ≡ digest_len → n₃ ≡ digest_len
      → ys ≡ real.digest ((part xs at n₁ ++ read_at f m n₂) ++ read_at g e n₃) → ys ≡ item_digest real s k (item_of s xs k)
  inner-given at f m e g n₁ n₂ n₃ ys a₁ a₂ a₃ a₄ a₅ b₁ b₂ b₃ h =
      let body : take (digest_at s 0) (item_of s xs k) ≡ part xs at n₁ =
      part-part xs (item_at s k) (item_len s k) 0 (digest_at s 0) (omega (arith, inner-item s k inner))
      ∙ ap₂ (λ (i j : ℕ). part xs i j) (add-zero (item_at s k) ∙ sym a₁) (sym b₁) in
      let whole : masked s k (item_of s xs k) ≡ (part xs at n₁ ++ read_at f m n₂) ++ read_at g e n₃ =
      masked-inner s k (item_of s xs k) inner
      ∙ rw (body, read_is 0 f m n₂ (omega arith) a₂ a₄ b₂, read_is 1 g e n₃ (omega arith) a₃ a₅ b₃) (sym (append_assoc (part xs at n₁) (read_at f m n₂) (read_at g e n₃))) in
      h ∙ ap (λ (l : List ℕ). real.digest l) (sym whole)
