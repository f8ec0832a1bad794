-- The walk gives what filling bucket by bucket gives. Assumes nothing.
use Prim.Native.Nat.{ℕ, zero, suc, ◌+◌, ◌-◌, ◌≤◌, ◌<◌}
use mathlib.Core.Path.{◌≡◌, refl, sym, ap, ◌∙◌}
use mathlib.Core.Bool.{Bool, true, false, ◌&&◌}
use mathlib.Core.List.{List, [], ◌∷◌}
use native.Mathlib.Nat.{sub-zero}
use native.Mathlib.Omega.{arith}
use native.Mathlib.Numerals.{add-one}
use lib.ListN.{length, get_or, length-set}
use lib.Seq.{get_or-set_same, get_or-set_other, set_out}
use lib.Dec.{eqb, ltb, leb}
use borrow.Author.Tests.{eqb-true, eqb-false, eq-eqb, ne_eqb, leb-true, leb-false, le-leb, lt-leb, ltb-true, ltb-false}
use Rattle.words.proofs.Tests.{by_cases, below_or, and_left, and_right}
use Rattle.placing.specs.Filling.{taken, left}
use Rattle.placing.specs.Walk.{seek, bump, free, heights, used_by, pick, from}

-- ---- the height that is sought

module _ (f : ℕ → Bool) where
  pub seek-le : (n i : ℕ) → seek f n i ≤ i + n
  unfolding seek
  seek-le zero i = omega arith
  seek-le (suc n) i = by_cases (f i) (λ e. rw e (omega arith)) (λ e. rw e (omega (arith, seek-le n (suc i))))

  -- where it stops the test is passed, and nowhere before
  seek-passes : (n i h : ℕ) → seek f n i ≡ h → h < i + n → f h ≡ true
  unfolding seek
  seek-passes zero i h e k = absurd (omega arith)
  seek-passes (suc n) i h e k =
      by_cases (f i) (λ p. let g : i ≡ h = rw p at e in rw (← g) p)
      (λ p. let g : seek f n (suc i) ≡ h = rw p at e in seek-passes n (suc i) h g (omega arith))

  seek-before : (n i h : ℕ) → i ≤ h → h < seek f n i → f h ≡ false
  unfolding seek
  seek-before zero i h k e = absurd (omega arith)
  seek-before (suc n) i h k e =
      by_cases (f i) (λ p. let g : h < i = rw p at e in absurd (omega arith))
      (λ p.
      let g : h < seek f n (suc i) = rw p at e in
      by_cases (eqb i h) (λ q. rw (← eqb-true i h q) p)
      (λ q. let ne : i ≡ h → ⊥ = eqb-false i h q in seek-before n (suc i) h (omega (arith, ne)) g))

  -- the loop's start, a turn of it, its end
  pub seek-start : (n : ℕ) → seek f n 0 ≡ seek f (n - 0) 0
  seek-start n = ap (λ (m : ℕ). seek f m 0) (sym (sub-zero n))

  pub seek_hit : (n h : ℕ) → h < n → f h ≡ true → seek f (n - h) h ≡ h
  unfolding seek
  seek_hit n h k e = let q : n - h ≡ suc (n - suc h) = omega arith in rw (q, e)

  pub seek-miss : (n h : ℕ) → h < n → f h ≡ false → seek f (n - h) h ≡ seek f (n - (h + 1)) (h + 1)
  unfolding seek
  seek-miss n h k e =
      let q : n - h ≡ suc (n - (h + 1)) = omega arith in
      rw (q, e, ← add-one h)

  pub seek-end : (n h : ℕ) → h ≡ n → seek f (n - h) h ≡ n
  unfolding seek
  seek-end n h e = let q : n - h ≡ 0 = omega arith in rw (q, e)

-- ---- one more at a height

pub bump-le : (used : List ℕ) (h j : ℕ) → get_or (bump used h) j 0 ≤ get_or used j 0 + 1
bump-le used h j =
    by_cases (eqb j h)
    (λ e.
    let q : j ≡ h = eqb-true j h e in
    below_or h (length used)
    (λ w. rw (q, get_or-set_same used h (get_or used h 0 + 1) 0 w) (omega arith))
    (λ w. rw (set_out used h (get_or used h 0 + 1) w) (omega arith)))
    (λ e. rw (get_or-set_other used h j (get_or used h 0 + 1) 0 (eqb-false j h e)) (omega arith))

-- ---- one bucket

module _ {A : Type 0} where
  taken-empty : (t : A → Bool) (m : ℕ) → taken t m [] ≡ []
  unfolding taken
  taken-empty t zero = refl
  taken-empty t (suc m) = refl

  left-empty : (t : A → Bool) (m : ℕ) → left t m [] ≡ []
  unfolding left
  left-empty t zero = refl
  left-empty t (suc m) = refl

  -- an element at height k before others, where u, and then v, are at height h
  module _ (t : A → Bool) (z h k u v : ℕ) (x : A) (ks : List ℕ) (xs : List A)
      (low : k < h → v ≡ u) (mid : k ≡ h → (v ≡ u + 1) × (t x ≡ true) × (u < z)) (high : h < k → (v ≡ u) × ((t x && ltb u z) ≡ false)) where
    closed : h < k → ltb u z ≡ true → t x ≡ false
    closed q w = by_cases (t x) (λ e. e ∙ rw (e, w) at (high q).1) (λ e. e)

    taken_step : taken t (z - v) (from h ks xs) ≡ pick h ks xs → taken t (z - u) (from h (k ∷ ks) (x ∷ xs)) ≡ pick h (k ∷ ks) (x ∷ xs)
    unfolding taken pick from
    taken_step ih =
        by_cases (leb h k)
        (λ e.
        by_cases (eqb k h)
        (λ f.
        let m = mid (eqb-true k h f) in
        let q : z - u ≡ suc (z - v) = omega arith in
        rw (e, f, q, m.1, ih))
        (λ f.
        let ne : k ≡ h → ⊥ = eqb-false k h f in
        let q : h < k = omega (arith, leb-true h k e, ne) in
        let same : v ≡ u = (high q).0 in
        by_cases (ltb u z)
        (λ w.
        let r : z - u ≡ suc (z - suc u) = omega (arith, ltb-true u z w) in
        rw (e, f, r, closed q w) (rw (same, r) at ih))
        (λ w.
        let r : z - u ≡ 0 = omega (arith, ltb-false u z w) in
        rw (e, f, r) (rw (same, r) at ih))))
        (λ e.
        let q : k < h = leb-false h k e in
        rw (e, ne_eqb k h (λ s. absurd (omega arith)), ← low q) ih)

    left_step : left t (z - v) (from h ks xs) ≡ from (suc h) ks xs → left t (z - u) (from h (k ∷ ks) (x ∷ xs)) ≡ from (suc h) (k ∷ ks) (x ∷ xs)
    unfolding left from
    left_step ih =
        by_cases (leb h k)
        (λ e.
        by_cases (eqb k h)
        (λ f.
        let m = mid (eqb-true k h f) in
        let q : z - u ≡ suc (z - v) = omega arith in
        rw (e, q, m.1, lt-leb (suc h) k (omega (arith, eqb-true k h f)), ih))
        (λ f.
        let ne : k ≡ h → ⊥ = eqb-false k h f in
        let q : h < k = omega (arith, leb-true h k e, ne) in
        let same : v ≡ u = (high q).0 in
        by_cases (ltb u z)
        (λ w.
        let r : z - u ≡ suc (z - suc u) = omega (arith, ltb-true u z w) in
        rw (e, le-leb (suc h) k q, r, closed q w) (ap (λ (s : List A). x ∷ s) (rw (same, r) at ih)))
        (λ w.
        let r : z - u ≡ 0 = omega (arith, ltb-false u z w) in
        rw (e, le-leb (suc h) k q, r) (ap (λ (s : List A). x ∷ s) (rw (same, r) at ih)))))
        (λ e.
        let q : k < h = leb-false h k e in
        rw (e, lt-leb (suc h) k (omega arith), ← low q) ih)

  -- ---- what the bucket at height h takes of those that are left to it, and what it leaves

  module _ (t : ℕ → A → Bool) (z n h : ℕ) (below : h < n) where
    module _ (x : A) (used : List ℕ) (fits : h < length used) where
      abbrev at : ℕ
      at = seek (free t z used x) n 0

      other : (at ≡ h → ⊥) → get_or (bump used at) h 0 ≡ get_or used h 0
      other ne = get_or-set_other used at h (get_or used at 0 + 1) 0 (λ e. ne (sym e))

      low : at < h → get_or (bump used at) h 0 ≡ get_or used h 0
      low q = other (λ e. absurd (omega arith))

      mid : at ≡ h → (get_or (bump used at) h 0 ≡ get_or used h 0 + 1) × (t h x ≡ true) × (get_or used h 0 < z)
      mid e =
          let f : free t z used x h ≡ true = seek-passes (free t z used x) n 0 h e (omega arith) in (
            rw e (get_or-set_same used h (get_or used h 0 + 1) 0 fits),
            and_left (t h x) (ltb (get_or used h 0) z) f,
            ltb-true (get_or used h 0) z (and_right (t h x) (ltb (get_or used h 0) z) f),
          )

      high : h < at → (get_or (bump used at) h 0 ≡ get_or used h 0) × ((t h x && ltb (get_or used h 0) z) ≡ false)
      high q = (other (λ e. absurd (omega arith)), seek-before (free t z used x) n 0 h (omega arith) q)

    pub taken_pick : (xs : List A) (used : List ℕ) → h < length used
        → taken (t h) (z - get_or used h 0) (from h (heights t z n used xs) xs) ≡ pick h (heights t z n used xs) xs
    unfolding heights from pick
    taken_pick [] used f = taken-empty (t h) (z - get_or used h 0)
    taken_pick (x ∷ xs) used f =
        let k : ℕ = seek (free t z used x) n 0 in
        taken_step (t h) z h k (get_or used h 0) (get_or (bump used k) h 0) x (heights t z n (bump used k) xs) xs
        (low x used f) (mid x used f) (high x used f) (taken_pick xs (bump used k) (rw length-set f))

    pub left-from : (xs : List A) (used : List ℕ) → h < length used
        → left (t h) (z - get_or used h 0) (from h (heights t z n used xs) xs) ≡ from (suc h) (heights t z n used xs) xs
    unfolding heights from
    left-from [] used f = left-empty (t h) (z - get_or used h 0)
    left-from (x ∷ xs) used f =
        let k : ℕ = seek (free t z used x) n 0 in
        left_step (t h) z h k (get_or used h 0) (get_or (bump used k) h 0) x (heights t z n (bump used k) xs) xs
        (low x used f) (mid x used f) (high x used f) (left-from xs (bump used k) (rw length-set f))

  -- ---- all heights

  module _ (t : ℕ → A → Bool) (z n : ℕ) where
    pub length-heights : (used : List ℕ) (xs : List A) → length (heights t z n used xs) ≡ length xs
    unfolding heights
    length-heights used [] = refl
    length-heights used (x ∷ xs) = ap suc (length-heights (bump used (seek (free t z used x) n 0)) xs)

    -- none is below 0, and none above n
    pub from_zero : (used : List ℕ) (xs : List A) → from 0 (heights t z n used xs) xs ≡ xs
    unfolding heights from
    from_zero used [] = refl
    from_zero used (x ∷ xs) =
        let k : ℕ = seek (free t z used x) n 0 in
        rw (le-leb 0 k (omega arith), from_zero (bump used k) xs)

    pub from_last : (used : List ℕ) (xs : List A) → from n (heights t z n used xs) xs ≡ pick n (heights t z n used xs) xs
    unfolding heights from pick
    from_last used [] = refl
    from_last used (x ∷ xs) =
        let k : ℕ = seek (free t z used x) n 0 in
        by_cases (leb n k)
        (λ e. rw (e, eq-eqb k n (omega (arith, leb-true n k e, seek-le (free t z used x) n 0)), from_last (bump used k) xs))
        (λ e. rw (e, ne_eqb k n (λ q. absurd (omega (arith, leb-false n k e))), from_last (bump used k) xs))

    -- how many there are at each height
    pub used-count : (h : ℕ) (xs : List A) (used : List ℕ) → h < length used
        → get_or (used_by t z n used xs) h 0 ≡ get_or used h 0 + length (pick h (heights t z n used xs) xs)
    unfolding used_by heights pick
    used-count h [] used f = omega arith
    used-count h (x ∷ xs) used f =
        let k : ℕ = seek (free t z used x) n 0 in
        let ih = used-count h xs (bump used k) (rw length-set f) in
        by_cases (eqb k h)
        (λ e.
        let q : k ≡ h = eqb-true k h e in
        let v : get_or (bump used k) h 0 ≡ get_or used h 0 + 1 = rw q (get_or-set_same used h (get_or used h 0 + 1) 0 f) in
        rw e (omega arith))
        (λ e.
        let v : get_or (bump used k) h 0 ≡ get_or used h 0 = get_or-set_other used k h (get_or used k 0 + 1) 0 (λ q. eqb-false k h e (sym q)) in
        rw e (omega arith))
