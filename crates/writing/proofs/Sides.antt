-- Flags and digests of an inner item: laid into zeros side by side. Assumes nothing.
use Rattle.std.proofs.Common.{◌≡◌, ℕ, zero, suc, ◌+◌, ◌-◌, ◌*◌, ◌≤◌, true, false, List, [], ◌∷◌, ◌++◌, length, take, drop, set, ap, ◌∙◌, append-nil, arith, length-append, drop_of_length-le, take_at}
use Rattle.words.specs.Bytes.{splice, zeros}
use Rattle.sizes.specs.Sizes.{digest_len, flags_len}
use Rattle.items.specs.declared.View.{View}
use Rattle.items.specs.Items.{digest_of}
use Rattle.items.specs.Way.{item, side}
use Rattle.items.specs.Real.{real}
use Rattle.writing.specs.Writing.{is_kept}
use Rattle.writing.specs.Pieces.{links_of}

-- both flags and both digests
abbrev pub links_len : ℕ
links_len = flags_len + 2 * digest_len

-- a side's flag and digest laid in
abbrev pub laid_on : ℕ → List ℕ → List ℕ → List ℕ
laid_on on d r = splice (set r on 1) (flags_len + digest_len * on) d

-- the left side laid into zeros, and the right one behind it; the right one laid into zeros, and the left one before it
left-lone : (d : List ℕ) → length d ≡ digest_len → laid_on 0 d (zeros links_len) ≡ 1 ∷ 0 ∷ (d ++ zeros digest_len)
unfolding splice
left-lone d l = rw l

right-lone : (d : List ℕ) → length d ≡ digest_len → laid_on 1 d (zeros links_len) ≡ 0 ∷ 1 ∷ (zeros digest_len ++ d)
unfolding splice
right-lone d l = rw l (ap (λ (e : List ℕ). 0 ∷ 1 ∷ (zeros digest_len ++ e)) (append-nil d))

right-then : (d e : List ℕ) → length d ≡ digest_len → length e ≡ digest_len → laid_on 1 e (1 ∷ 0 ∷ (d ++ zeros digest_len)) ≡ 1 ∷ 1 ∷ (d ++ e)
unfolding splice
right-then d e l m =
    let t : take digest_len (d ++ zeros digest_len) ≡ d = take_at d (zeros digest_len) digest_len l in
    let n : length (d ++ zeros digest_len) ≡ 64 = length-append d (zeros digest_len) ∙ omega (arith, l) in
    let r : drop 64 (d ++ zeros digest_len) ≡ [] = drop_of_length-le (d ++ zeros digest_len) {i = 64} (omega arith) in
    rw (m, t, r) (ap (λ (f : List ℕ). 1 ∷ 1 ∷ (d ++ f)) (append-nil e))

left-then : (d e : List ℕ) → length e ≡ digest_len → laid_on 0 e (0 ∷ 1 ∷ (zeros digest_len ++ d)) ≡ 1 ∷ 1 ∷ (e ++ d)
unfolding splice
left-then d e m = rw m

module _ (v : View) (path : List ℕ) (k : ℕ) (d : List ℕ) (ld : length d ≡ digest_len) where
  -- where the sibling is not kept
  pub links-lone : (on : ℕ) → on ≤ 1 → side v k ≡ on → is_kept real v path [] k (1 - on) ≡ false → laid_on on d (zeros links_len) ≡ links_of v path k d
  unfolding links_of
  links-lone zero h e f = left-lone d ld ∙ rw (e, f)
  links-lone (suc zero) h e f = right-lone d ld ∙ rw (e, f)
  links-lone (suc (suc n)) h e f = absurd (omega arith)

  -- where it is
  pub links-both : (on : ℕ) → on ≤ 1 → side v k ≡ on → is_kept real v path [] k (1 - on) ≡ true → (kept : List ℕ) → length kept ≡ digest_len
      → kept ≡ digest_of v.sizes (item v path k) (1 - on) → laid_on (1 - on) kept (laid_on on d (zeros links_len)) ≡ links_of v path k d
  unfolding links_of
  links-both zero h e f kept l g = rw (left-lone d ld) (right-then d kept ld l ∙ rw (e, f, ← g))
  links-both (suc zero) h e f kept l g = rw (right-lone d ld) (left-then d kept l ∙ rw (e, f, ← g))
  links-both (suc (suc n)) h e f kept l g = absurd (omega arith)
