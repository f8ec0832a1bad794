-- A tree that holds what a server was last given: fetch from it returns that, and put into it writes it. Assumes nothing.
use Rattle.std.specs.Prelude.{Err, Ok, Result}
use Rattle.sizes.specs.declared.Refusal.{Refusal}
use Prim.Native.Nat.{ℕ, suc, ◌*◌, ◌^◌, ◌<◌, ◌≤◌}
use mathlib.Core.Path.{◌≡◌, refl, sym, ap, subst, ◌∙◌}
use mathlib.Core.Logic.{◌≢◌}
use mathlib.Core.Option.{some}
use mathlib.Core.List.{List}
use native.Mathlib.Nat.{pow-le-pow_right, pow-succ'}
use native.Mathlib.Omega.{arith}
use lib.ListN.{length}
use lib.Dec.{eqb}
use borrow.Author.Tests.{eqb-true, eqb-false, eq-eqb, le-leb, lt-leb}
use Rattle.words.specs.Bytes.{part}
use Rattle.words.proofs.Tests.{by_cases, below_or}
use Rattle.sizes.specs.declared.Sizes.{Sizes}
use Rattle.sizes.specs.Refusals.{kept_or}
use Rattle.sizes.specs.Sizes.{InRange, leaves, item_of, path_len, bucket_no, place_in, bucket_at, tree_at, bucket_in, bucket_count, tree_len}
use Rattle.sizes.proofs.Lengths.{range-sizes}
use Rattle.sizes.proofs.Buckets.{item-bucket, place-below}
use Rattle.tree.specs.Tree.{tree_checked, Fits, fetched, put_back, fetch_of, put_of}
use Rattle.tree.proofs.Laws.{length_whole, item-fetched, length-put_back, put-on-way, put-elsewhere}
use Rattle.keeping.specs.Server.{Server, Returns, wrote}
use Rattle.keeping.proofs.Plain.{some_inj}

-- each bucket that was written is one of the tree, and stands there
pub record Holds (s : Sizes) (server : Server) (tree : List ℕ) : Type 0 where
  pub size : length tree ≡ tree_len s
  pub high : (k j : ℕ) (item : List ℕ) → server k j ≡ some item → k ≤ s.height
  pub low : (k j : ℕ) (item : List ℕ) → server k j ≡ some item → j < 2 ^ k
  pub stands : (k j : ℕ) (item : List ℕ) → server k j ≡ some item → bucket_in s tree (bucket_no k j) ≡ item

-- ---- numbers of buckets

two-suc : (k : ℕ) → 2 ^ suc k ≡ 2 * 2 ^ k
two-suc k = pow-succ' 2 k

deeper : (k k' : ℕ) → k < k' → 2 * 2 ^ k ≤ 2 ^ k'
deeper k k' h = omega (arith, two-suc k, pow-le-pow_right {n = 2} (omega arith) {i = suc k} {j = k'} h)

some-power : (k : ℕ) → 1 ≤ 2 ^ k
some-power k = pow-le-pow_right {n = 2} (omega arith) {i = 0} {j = k} (omega arith)

same-level : (k k' j j' : ℕ) → j < 2 ^ k → j' < 2 ^ k' → bucket_no k j ≡ bucket_no k' j' → k ≡ k'
same-level k k' j j' h h' e =
    below_or k k'
    (λ l. absurd (omega (arith, deeper k k' l, some-power k)))
    (λ l. below_or k' k (λ n. absurd (omega (arith, deeper k' k n, some-power k'))) (λ n. omega arith))

in_count : (s : Sizes) (k j : ℕ) → k ≤ s.height → j < 2 ^ k → bucket_no k j < bucket_count s
in_count s k j h l = omega (arith, pow-le-pow_right {n = 2} (omega arith) {i = k} {j = s.height} h, some-power k)

-- ---- fetch and put that are not refused

module _ (s : Sizes) (leaf : ℕ) (tree path : List ℕ) where
  pub fits-checked : Fits s leaf tree path → tree_checked s leaf tree path ≡ Ok tt
  unfolding tree_checked
  fits-checked f =
      rw (
        range-sizes s f.range,
        lt-leb (leaves s) leaf f.leaf_low,
        f.tree_length,
        f.path_length,
        eq-eqb (tree_len s) (tree_len s) refl,
        eq-eqb (path_len s) (path_len s) refl,
      )

  fetch-done : Fits s leaf tree path → (fetch_of s leaf tree path).path ≡ fetched s leaf tree (suc s.height)
  fetch-done f = ap (λ (o : Result Unit Refusal). kept_or o path (fetched s leaf tree (suc s.height))) (fits-checked f)

  put-done : Fits s leaf tree path → (put_of s leaf tree path).tree ≡ put_back s leaf path tree (suc s.height)
  put-done f = ap (λ (o : Result Unit Refusal). kept_or o tree (put_back s leaf path tree (suc s.height))) (fits-checked f)

module _ (s : Sizes) (leaf : ℕ) (server : Server) (tree : List ℕ) (range : InRange s) (low : leaf < leaves s) (h : Holds s server tree) where
  fetched-returns : Returns s server leaf (fetched s leaf tree (suc s.height))
  fetched-returns =
      record {
        size = length_whole s leaf tree low h.size;
        items =
            λ k l item e.
            item-fetched s leaf tree low h.size k l ∙ sym (ap (part tree (tree_at s (bucket_at s leaf k))) (item-bucket s leaf k l low)) ∙ h.stands k (place_in s leaf k) item e;
      }

  -- a lent path of the wrong length is handed on as it was, and finish refuses it: so what has the right length was returned
  pub fetch-returns : (lent : List ℕ) → length (fetch_of s leaf tree lent).path ≡ path_len s → Returns s server leaf (fetch_of s leaf tree lent).path
  fetch-returns lent l = go (tree_checked s leaf tree lent) refl
    where
      kept : (o : Result Unit Refusal) → tree_checked s leaf tree lent ≡ o → (fetch_of s leaf tree lent).path ≡ kept_or o lent (fetched s leaf tree (suc s.height))
      kept o e = ap (λ (o : Result Unit Refusal). kept_or o lent (fetched s leaf tree (suc s.height))) e

      go : (o : Result Unit Refusal) → tree_checked s leaf tree lent ≡ o → Returns s server leaf (fetch_of s leaf tree lent).path
      go (Ok tt) e = subst (λ (x : List ℕ). Returns s server leaf x) (sym (kept (Ok tt) e)) fetched-returns
      go (Err q) e =
          let f : Fits s leaf tree lent = record { range = range; leaf_low = low; tree_length = h.size; path_length = ap length (sym (kept (Err q) e)) ∙ l } in
          subst (λ (x : List ℕ). Returns s server leaf x) (sym (fetch-done s leaf tree lent f)) fetched-returns

  pub fetch-length : (lent : List ℕ) → length lent ≡ path_len s → length (fetch_of s leaf tree lent).path ≡ path_len s
  fetch-length lent l =
      ap length (fetch-done s leaf tree lent (record { range = range; leaf_low = low; tree_length = h.size; path_length = l }))
      ∙ length_whole s leaf tree low h.size

  module _ (path : List ℕ) (size : length path ≡ path_len s) where
    fits : Fits s leaf tree path
    fits = record { range = range; leaf_low = low; tree_length = h.size; path_length = size }

    abbrev after : List ℕ
    after = put_back s leaf path tree (suc s.height)

    abbrev now : Server
    now = wrote s leaf path server

    -- a bucket was written by this path, or it was there before and is off the way
    cases : {A : Type 0} (k j : ℕ) (item : List ℕ) → now k j ≡ some item
        → (k ≤ s.height → j ≡ place_in s leaf k → item_of s path k ≡ item → A) → (server k j ≡ some item → (k ≤ s.height → j ≢ place_in s leaf k) → A) → A
    cases k j item e f g =
        below_or s.height k
        (λ l. g (rw (lt-leb k s.height l) at e) (λ m. absurd (omega arith)))
        (λ l.
        by_cases (eqb j (place_in s leaf k))
        (λ q. f l (eqb-true j (place_in s leaf k) q) (some_inj (item_of s path k) item (rw (le-leb k s.height l, q) at e)))
        (λ q. g (rw (le-leb k s.height l, q) at e) (λ m. eqb-false j (place_in s leaf k) q)))

    off-way : (k j : ℕ) → k ≤ s.height → j < 2 ^ k → j ≢ place_in s leaf k → (i : ℕ) → i ≤ s.height → bucket_at s leaf i ≡ bucket_no k j → ⊥
    off-way k j l m n i w e =
        let q : i ≡ k = same-level i k (place_in s leaf i) j (place-below s leaf i w low) m e in
        n (omega (arith, ap (place_in s leaf) q, ap (λ (x : ℕ). 2 ^ x) q))

    back-holds : Holds s now after
    back-holds =
        record {
          size = length-put_back s leaf path tree fits (suc s.height) (omega arith) ∙ h.size;
          high = λ k j item e. cases k j item e (λ l q w. l) (λ w n. h.high k j item w);
          low = λ k j item e. cases k j item e (λ l q w. rw q (place-below s leaf k l low)) (λ w n. h.low k j item w);
          stands =
              λ k j item e.
              cases k j item e
              (λ l q w. ap (λ (x : ℕ). bucket_in s after (bucket_no k x)) q ∙ put-on-way s leaf path tree fits k l ∙ w)
              (λ w n.
              let l = h.high k j item w in
              let m = h.low k j item w in
              put-elsewhere s leaf path tree fits (bucket_no k j) (in_count s k j l m) (off-way k j l m (n l)) ∙ h.stands k j item w);
        }

    pub put_holds : Holds s now (put_of s leaf tree path).tree
    put_holds = subst (λ (x : List ℕ). Holds s now x) (sym (put-done s leaf tree path fits)) back-holds
