-- One position and mark written: its own place reads the new ones, every other place what it read, and body (d) stays good. Assumes nothing.
use Prim.Native.Nat.{ℕ, suc, ◌+◌, ◌*◌, ◌-◌, ◌≤◌, ◌<◌}
use mathlib.Core.Path.{◌≡◌, sym, ap, ◌∙◌}
use mathlib.Core.Bool.{true}
use mathlib.Core.List.{List, [], ◌∷◌, ◌++◌}
use native.Mathlib.Omega.{arith}
use lib.ListN.{length, get_or, length-append}
use lib.Seq.{get_or_at}
use lib.Dec.{ltb, leb, eqb}
use borrow.Author.Tests.{lt-ltb, le-leb, ltb-true, leb-true, eqb-true, eqb-false}
use Rattle.words.specs.Bytes.{splice}
use Rattle.words.specs.Numbers.{number, bytes_of}
use Rattle.words.proofs.Splice.{get_d-splice-in, get_d-splice-before, get_d-splice-after}
use Rattle.words.proofs.Numbers.{length-bytes_of, number-bytes_of, number-splice-in, number-splice-before, number-splice-after}
use Rattle.words.proofs.Tests.{by_cases, below_or, all-at, all_true, and_left, and_right}
use Rattle.sizes.specs.Sizes.{place_len, d_len}
use Rattle.slots.proofs.Numbers.{number-left}
use Rattle.desk.specs.Layout.{place_at, mark_in}
use Rattle.desk.specs.Good.{place_good, places_good}

-- a good place: the test and its two facts
pub place-known : (most : ℕ) (d : List ℕ) (i : ℕ) → place_good most d i ≡ true → (number 2 d (place_len * i) < most) × (get_or d (place_len * i + mark_in) 0 ≤ 1)
place-known most d i h = (
  ltb-true _ _ (and_left (ltb (number 2 d (place_len * i)) most) (leb (get_or d (place_len * i + mark_in) 0) 1) h),
  leb-true _ _ (and_right (ltb (number 2 d (place_len * i)) most) (leb (get_or d (place_len * i + mark_in) 0) 1) h),
)

pub place-holds : (most : ℕ) (d : List ℕ) (i : ℕ) → number 2 d (place_len * i) < most → get_or d (place_len * i + mark_in) 0 ≤ 1 → place_good most d i ≡ true
place-holds most d i a b = rw (lt-ltb _ _ a, le-leb _ _ b)

module _ (d : List ℕ) (n id leaf mark : ℕ) (long : d_len n ≤ length d) (low : 1 ≤ id) (high : id ≤ n) where
  abbrev place : List ℕ
  place = bytes_of 2 leaf ++ (mark ∷ [])

  abbrev after : List ℕ
  after = splice d (place_at id) place

  place-length : length place ≡ place_len
  place-length = simp (length-append, length-bytes_of)

  pub position-self : leaf < 65536 → number 2 after (place_at id) ≡ leaf
  position-self l =
      let e : place_at id ≡ place_at id + 0 = omega arith in
      ap (number 2 after) e ∙ number-splice-in 2 d (place_at id) place 0 (omega arith) (omega (arith, place-length))
      ∙ number-left 2 (bytes_of 2 leaf) (mark ∷ []) 0 (omega (arith, length-bytes_of 2 leaf)) ∙ number-bytes_of 2 leaf l

  pub mark-self : get_or after (place_at id + mark_in) 0 ≡ mark
  mark-self =
      get_d-splice-in d (place_at id) place mark_in (omega arith) (omega (arith, place-length)) ∙ get_or_at (bytes_of 2 leaf) mark [] 0 mark_in (length-bytes_of 2 leaf)

  pub position-other : (j : ℕ) → 1 ≤ j → (j ≡ id → ⊥) → number 2 after (place_at j) ≡ number 2 d (place_at j)
  position-other j a b =
      below_or j id
      (λ l. number-splice-before 2 d (place_at id) place (place_at j) (omega arith) (omega arith))
      (λ l. number-splice-after 2 d (place_at id) place (place_at j) (after-id l) (omega arith))
    where
      after-id : id ≤ j → place_at id + length place ≤ place_at j
      after-id l = below_or id j (λ m. omega (arith, place-length)) (λ m. absurd (b (omega arith)))

  pub mark-other : (j : ℕ) → 1 ≤ j → (j ≡ id → ⊥) → get_or after (place_at j + mark_in) 0 ≡ get_or d (place_at j + mark_in) 0
  mark-other j a b =
      below_or j id
      (λ l. get_d-splice-before d (place_at id) place (place_at j + mark_in) (omega arith) (omega arith))
      (λ l. get_d-splice-after d (place_at id) place (place_at j + mark_in) (after-id l) (omega arith))
    where
      after-id : id ≤ j → place_at id + length place ≤ place_at j + mark_in
      after-id l = below_or id j (λ m. omega (arith, place-length)) (λ m. absurd (b (omega arith)))

  -- place i, from 0 on, is that of id i + 1
  pub place-good : (most : ℕ) → leaf < most → leaf < 65536 → mark ≤ 1 → places_good most n d ≡ true → places_good most n after ≡ true
  unfolding places_good
  place-good most l m k g =
      all_true (place_good most after) n
      (λ i a.
      let e : suc i - 1 ≡ i = omega arith in
      let b : (number 2 d (place_len * i) < most) × (get_or d (place_len * i + mark_in) 0 ≤ 1) = place-known most d i (all-at (place_good most d) n i a g) in
      let at : (k j : ℕ) → j ≡ k → (number 2 after (place_len * k) ≡ number 2 after (place_len * j)) × (get_or after (place_len * k + mark_in) 0 ≡ get_or after (place_len * j + mark_in) 0) =
      λ k j q. (ap (λ (x : ℕ). number 2 after (place_len * x)) (sym q), ap (λ (x : ℕ). get_or after (place_len * x + mark_in) 0) (sym q)) in
      by_cases (eqb (suc i) id)
      (λ q.
      let s = at i (id - 1) (omega (arith, eqb-true (suc i) id q)) in
      place-holds most after i (rw (s.0 ∙ position-self m) l) (rw (s.1 ∙ mark-self) k))
      (λ q.
      let f = eqb-false (suc i) id q in
      let s = at i (suc i - 1) e in
      let x : number 2 after (place_len * i) ≡ number 2 d (place_len * i) = s.0 ∙ position-other (suc i) (omega arith) f ∙ ap (λ (x : ℕ). number 2 d (place_len * x)) e in
      let y : get_or after (place_len * i + mark_in) 0 ≡ get_or d (place_len * i + mark_in) 0 =
      s.1 ∙ mark-other (suc i) (omega arith) f ∙ ap (λ (x : ℕ). get_or d (place_len * x + mark_in) 0) e in
      place-holds most after i (rw x b.0) (rw y b.1)))
