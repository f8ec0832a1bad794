-- The heights that blocks are given by the walk are those of the buckets that placing puts them in. Assumes nothing.
use Prim.Native.Nat.{ℕ, zero, suc, ◌+◌, ◌-◌, ◌/◌, ◌^◌, ◌≤◌, ◌<◌}
use mathlib.Core.Path.{◌≡◌, sym, ap, ap₂, ◌∙◌}
use mathlib.Core.Bool.{Bool, ◌&&◌}
use mathlib.Core.List.{List, [], ◌∷◌}
use native.Mathlib.Nat.{div-div-eq-div-mul, pow-suc}
use native.Mathlib.Omega.{arith}
use native.Mathlib.Numerals.{add-one}
use lib.ListN.{length, drop, get_or, get_or-replicate, length-replicate, drop_of_length-le}
use lib.Seq.{drop-cons}
use lib.Dec.{eqb, ltb}
use borrow.Author.Tests.{eqb-true, eqb-false, eq-eqb, ne_eqb}
use Rattle.words.specs.Bytes.{zeros}
use Rattle.words.proofs.Tests.{by_cases}
use Rattle.sizes.specs.declared.Sizes.{Sizes}
use Rattle.sizes.specs.Sizes.{most_height, bucket_at}
use Rattle.slots.specs.Slots.{Block}
use Rattle.placing.specs.Filling.{taken, left, buckets, rest}
use Rattle.placing.specs.Placing.{on_way, levels, placed_in, remaining}
use Rattle.placing.specs.Walk.{seek, bump, free, heights, used_by, pick, from, passes, has_room, given, used_in, most_heights}
use Rattle.placing.specs.Bank.{leaf_at, block_in, blocks_at}
use Rattle.placing.proofs.Ordered.{no-entry}
use Rattle.placing.proofs.Laid.{leaf-in}
use Rattle.placing.proofs.Walked.{taken_pick, left-from, from_zero, from_last, used-count}

-- ---- leaves that have a bucket in common agree above it

eqb-add : (c a b : ℕ) → eqb (c + a) (c + b) ≡ eqb a b
eqb-add c a b =
    by_cases (eqb a b) (λ e. rw e (eq-eqb (c + a) (c + b) (ap (λ (n : ℕ). c + n) (eqb-true a b e))))
    (λ e. rw e (ne_eqb (c + a) (c + b) (λ q. eqb-false a b e (omega arith))))

same_way : (s : Sizes) (x leaf h : ℕ) → h ≤ s.height → eqb (bucket_at s x (s.height - h)) (bucket_at s leaf (s.height - h)) ≡ eqb (x / 2 ^ h) (leaf / 2 ^ h)
same_way s x leaf h q =
    let e : s.height - (s.height - h) ≡ h = omega arith in
    eqb-add (2 ^ (s.height - h) - 1) (x / 2 ^ (s.height - (s.height - h))) (leaf / 2 ^ (s.height - (s.height - h)))
    ∙ ap (λ (n : ℕ). eqb (x / 2 ^ n) (leaf / 2 ^ n)) e

-- the loop that looks for room, with both leaves halved once for each height
pub halved : (x h : ℕ) → x / 2 ^ h / 2 ≡ x / 2 ^ (h + 1)
halved x h = div-div-eq-div-mul x (2 ^ h) 2 ∙ ap (λ (n : ℕ). x / n) (sym (ap (λ (n : ℕ). 2 ^ n) (add-one h) ∙ pow-suc 2 h))

pub room-is : (s : Sizes) (leaf : ℕ) (used : List ℕ) (x h a b : ℕ) → h ≤ s.height → a ≡ x / 2 ^ h → b ≡ leaf / 2 ^ h → has_room s leaf used x h ≡ (eqb a b && ltb (get_or used h 0) s.slots)
room-is s leaf used x h a b q e f =
    ap (λ (t : Bool). t && ltb (get_or used h 0) s.slots) (same_way s x leaf h q ∙ ap₂ eqb (sym e) (sym f))

-- ---- level by level

module _ (s : Sizes) (leaf : ℕ) (low : s.height ≤ most_height) (bs : List Block) where
  abbrev pub ks : List ℕ
  ks = given s leaf (zeros most_heights) bs

  none : (h : ℕ) → h ≤ s.height → s.slots - get_or (zeros most_heights) h 0 ≡ s.slots
  none h q = let e : get_or (zeros most_heights) h 0 ≡ 0 = get_or-replicate most_heights h 0 0 (omega arith) in omega arith

  level : (k : ℕ) → k ≤ s.height → s.height - (s.height - k) ≡ k
  level k q = omega arith

  taken_at : (k : ℕ) → k ≤ s.height → taken (on_way s leaf k) s.slots (from (s.height - k) ks bs) ≡ pick (s.height - k) ks bs
  taken_at k q =
      let h = s.height - k in
      let p : taken (passes s leaf h) (s.slots - get_or (zeros most_heights) h 0) (from h ks bs) ≡ pick h ks bs =
      taken_pick (passes s leaf) s.slots (s.height + 1) h (omega arith) bs (zeros most_heights) (rw length-replicate (omega arith)) in
      ap (λ (j : ℕ). taken (on_way s leaf j) s.slots (from h ks bs)) (sym (level k q))
      ∙ ap (λ (j : ℕ). taken (passes s leaf h) j (from h ks bs)) (sym (none h (omega arith))) ∙ p

  left_at : (k : ℕ) → k ≤ s.height → left (on_way s leaf k) s.slots (from (s.height - k) ks bs) ≡ from (suc (s.height - k)) ks bs
  left_at k q =
      let h = s.height - k in
      let p : left (passes s leaf h) (s.slots - get_or (zeros most_heights) h 0) (from h ks bs) ≡ from (suc h) ks bs =
      left-from (passes s leaf) s.slots (s.height + 1) h (omega arith) bs (zeros most_heights) (rw length-replicate (omega arith)) in
      ap (λ (j : ℕ). left (on_way s leaf j) s.slots (from h ks bs)) (sym (level k q))
      ∙ ap (λ (j : ℕ). left (passes s leaf h) j (from h ks bs)) (sym (none h (omega arith))) ∙ p

  bucket-from : (k i : ℕ) → k ≤ s.height → i ≤ k → get_or (buckets s.slots (levels s leaf k) (from (s.height - k) ks bs)) i [] ≡ pick (s.height - k + i) ks bs
  unfolding buckets
  bucket-from zero zero q r =
      let e : s.height - 0 + 0 ≡ s.height - 0 = omega arith in
      taken_at 0 q ∙ ap (λ (h : ℕ). pick h ks bs) (sym e)
  bucket-from zero (suc i) q r = absurd (omega arith)
  bucket-from (suc k) zero q r =
      let e : s.height - suc k + 0 ≡ s.height - suc k = omega arith in
      taken_at (suc k) q ∙ ap (λ (h : ℕ). pick h ks bs) (sym e)
  bucket-from (suc k) (suc i) q r =
      let e : suc (s.height - suc k) ≡ s.height - k = omega arith in
      let f : s.height - k + i ≡ s.height - suc k + suc i = omega arith in
      ap (λ (l : List Block). get_or (buckets s.slots (levels s leaf k) l) i []) (left_at (suc k) q ∙ ap (λ (h : ℕ). from h ks bs) e)
      ∙ bucket-from k i (omega arith) (omega arith) ∙ ap (λ (h : ℕ). pick h ks bs) f

  rest_from : (k : ℕ) → k ≤ s.height → rest s.slots (levels s leaf k) (from (s.height - k) ks bs) ≡ from (suc s.height) ks bs
  unfolding rest
  rest_from zero q =
      let e : suc (s.height - 0) ≡ suc s.height = omega arith in
      left_at 0 q ∙ ap (λ (h : ℕ). from h ks bs) e
  rest_from (suc k) q =
      let e : suc (s.height - suc k) ≡ s.height - k = omega arith in
      ap (λ (l : List Block). rest s.slots (levels s leaf k) l) (left_at (suc k) q ∙ ap (λ (h : ℕ). from h ks bs) e) ∙ rest_from k (omega arith)

  start : from (s.height - s.height) ks bs ≡ bs
  start =
      let e : s.height - s.height ≡ 0 = omega arith in
      ap (λ (h : ℕ). from h ks bs) e ∙ from_zero (passes s leaf) s.slots (s.height + 1) (zeros most_heights) bs

  -- the blocks at a height are those of the bucket there; above the root they are what remains
  pub bucket-given : (h : ℕ) → h ≤ s.height → pick h ks bs ≡ get_or (placed_in s leaf bs) h []
  unfolding placed_in
  bucket-given h q =
      let e : s.height - s.height + h ≡ h = omega arith in
      sym
      (ap (λ (l : List Block). get_or (buckets s.slots (levels s leaf s.height) l) h []) (sym start)
      ∙ bucket-from s.height h (omega arith) q ∙ ap (λ (j : ℕ). pick j ks bs) e)

  pub rest-given : pick (s.height + 1) ks bs ≡ remaining s leaf bs
  unfolding remaining
  rest-given =
      sym
      (ap (λ (l : List Block). rest s.slots (levels s leaf s.height) l) (sym start)
      ∙ rest_from s.height (omega arith) ∙ ap (λ (h : ℕ). from h ks bs) (sym (add-one s.height))
      ∙ from_last (passes s leaf) s.slots (s.height + 1) (zeros most_heights) bs)

  -- so the count at the last height is the number that remains
  pub rest-count : get_or (used_in s leaf (zeros most_heights) bs) (s.height + 1) 0 ≡ length (remaining s leaf bs)
  rest-count =
      let f : s.height + 1 < most_heights = omega arith in
      let e : get_or (zeros most_heights) (s.height + 1) 0 ≡ 0 = get_or-replicate most_heights (s.height + 1) 0 0 f in
      let u = used-count (passes s leaf) s.slots (s.height + 1) (s.height + 1) bs (zeros most_heights) (rw length-replicate f) in
      omega (arith, u, ap length rest-given)

-- ---- the loop over places in a bank: the next block, whose leaf is x, goes to height h

module _ (s : Sizes) (leaf : ℕ) (bank used ps : List ℕ) (i : ℕ) (k : i < length ps) (x h : ℕ)
    (e : x ≡ leaf_at bank (get_or ps i 0)) (f : h ≡ seek (has_room s leaf used x) (s.height + 1) 0) where
  height-is : seek (free (passes s leaf) s.slots used (block_in bank (get_or ps i 0))) (s.height + 1) 0 ≡ h
  height-is = ap (λ (y : ℕ). seek (has_room s leaf used y) (s.height + 1) 0) (leaf-in bank (get_or ps i 0) ∙ sym e) ∙ sym f

  next_is : blocks_at bank (drop i ps) ≡ block_in bank (get_or ps i 0) ∷ blocks_at bank (drop (i + 1) ps)
  next_is = rw (drop-cons ps i 0 k, add-one i)

  pub given-turn : given s leaf used (blocks_at bank (drop i ps)) ≡ h ∷ given s leaf (bump used h) (blocks_at bank (drop (i + 1) ps))
  unfolding heights
  given-turn =
      ap (given s leaf used) next_is
      ∙ ap (λ (y : ℕ). y ∷ given s leaf (bump used y) (blocks_at bank (drop (i + 1) ps))) height-is

  pub used_turn : used_in s leaf used (blocks_at bank (drop i ps)) ≡ used_in s leaf (bump used h) (blocks_at bank (drop (i + 1) ps))
  unfolding used_by
  used_turn =
      ap (used_in s leaf used) next_is
      ∙ ap (λ (y : ℕ). used_in s leaf (bump used y) (blocks_at bank (drop (i + 1) ps))) height-is

module _ (s : Sizes) (leaf : ℕ) (bank used ps : List ℕ) (i : ℕ) (k : length ps ≤ i) where
  pub given-end : given s leaf used (blocks_at bank (drop i ps)) ≡ []
  unfolding heights
  given-end = ap (λ (l : List ℕ). given s leaf used (blocks_at bank l)) (drop_of_length-le ps k)

  pub used-end : used_in s leaf used (blocks_at bank (drop i ps)) ≡ used
  unfolding used_by
  used-end = ap (λ (l : List ℕ). used_in s leaf used (blocks_at bank l)) (drop_of_length-le ps k)

-- nothing is used at the start
pub none-used : (m j : ℕ) → get_or (zeros m) j 0 ≤ 0
none-used m j = omega (arith, no-entry m j)
