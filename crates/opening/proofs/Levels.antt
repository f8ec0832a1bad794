-- The walks over the slots of the reachable items pass exactly where each block fits: the checks of step 2. Assumes nothing.
use Prim.Native.Nat.{ℕ, zero, suc, ◌+◌, ◌-◌, ◌≤◌, ◌<◌}
use mathlib.Core.Bool.{Bool, true, false, not, ◌||◌}
use mathlib.Core.Path.{◌≡◌, refl, sym, ap, ◌∙◌, subst}
use mathlib.Core.List.{List, [], ◌∷◌, ◌++◌, append-nil, append_assoc}
use native.Mathlib.Nat.{zero-add, suc-add}
use native.Mathlib.Numerals.{add-one}
use native.Mathlib.Omega.{arith}
use lib.ListN.{get_or}
use lib.Dec.{eqb, ltb}
use borrow.Author.Tests.{eq-eqb, ne_eqb, eqb-true, lt-ltb, le-ltb}
use Rattle.words.specs.Tests.{all}
use Rattle.words.proofs.Tests.{below_or, all_none, all_more, all-fails, all-at, all_true, and_left, and_right}
use Rattle.sizes.specs.Sizes.{most_ids}
use Rattle.bags.specs.Bags.{cnt, those, AllOf}
use Rattle.bags.proofs.Bags.{cnt-append}
use Rattle.bags.proofs.All.{all_map}
use Rattle.slots.specs.Slots.{Block, is_used, blocks_of}
use Rattle.desk.specs.Readers.{height_of, slots_in, sizes_of, key_of, id_asked, is_marked, stash_of}
use Rattle.items.specs.declared.View.{View}
use Rattle.items.specs.Items.{slots_of, slots_opened, blocks_in}
use Rattle.items.specs.Way.{item, bucket, reachable, Reached}
use Rattle.items.specs.Real.{real}
use Rattle.items.proofs.Way.{reached-below, reached-above}
use Rattle.opening.specs.Opening.{view_of, is_id, is_placed, found_at, found_to, found, gathered, block_fits, each_fits, slots_fit}
use Rattle.opening.specs.Walk.{walk, Walked, Seen, Unsealed}
use Rattle.opening.proofs.Tests.{same_test}
use Rattle.opening.proofs.Once.{Distinct, Goes, walk-goes, walk_of, counted}

module _ (desk path : List ℕ) where
  -- the blocks of the slots of the item at level k, and those met before them
  abbrev pub slots_at : ℕ → List Block
  slots_at k = blocks_of (slots_in desk) (slots_opened real (sizes_of desk) (key_of desk) (bucket (view_of desk) k) (item (view_of desk) path k))

  abbrev pub met : ℕ → List Block
  met k = stash_of desk ++ found_to real (view_of desk) path k

  abbrev pub walk_at : ℕ → Bool
  walk_at k = walk desk k (met k) (slots_at k)

  abbrev here : ℕ → List Block
  here k = found_at real (view_of desk) path k

  abbrev whole : List Block
  whole = gathered real desk path

  fits_each : (k : ℕ) (bs : List Block) → AllOf (λ b. is_placed desk k b ≡ true) bs → AllOf (λ b. cnt (is_id b.id) whole ≡ 1) bs → each_fits real desk path k bs ≡ true
  fits_each k [] p o = refl
  fits_each k (b ∷ bs) p o = rw (p.0, eq-eqb _ 1 o.0) (fits_each k bs p.1 o.1)

  each_placed : (k : ℕ) (bs : List Block) → each_fits real desk path k bs ≡ true → AllOf (λ b. is_placed desk k b ≡ true) bs
  each_placed k [] h = tt
  each_placed k (b ∷ bs) h = (and_left _ _ (and_left _ _ h), each_placed k bs (and_right (block_fits real desk path k b) _ h))

  each-once : (k : ℕ) (bs : List Block) → each_fits real desk path k bs ≡ true → AllOf (λ b. cnt (is_id b.id) whole ≡ 1) bs
  each-once k [] h = tt
  each-once k (b ∷ bs) h = (eqb-true _ _ (and_right (is_placed desk k b) _ (and_left _ _ h)), each-once k bs (and_right (block_fits real desk path k b) _ h))

  -- ---- levels

  pub found-slots : (k : ℕ) → reachable (view_of desk) path k ≡ true → here k ≡ those is_used (slots_at k)
  unfolding found_at blocks_in
  found-slots k r = rw r

  pub found_none : (k : ℕ) → reachable (view_of desk) path k ≡ false → here k ≡ []
  unfolding found_at
  found_none k r = rw r

  pub met-none : met 0 ≡ stash_of desk
  unfolding found_to
  met-none = append-nil (stash_of desk)

  pub met_next : (k : ℕ) → reachable (view_of desk) path k ≡ true → met (k + 1) ≡ met k ++ those is_used (slots_at k)
  unfolding found_to
  met_next k r =
      ap met (add-one k)
      ∙ ap (λ (bs : List Block). stash_of desk ++ (found_to real (view_of desk) path k ++ bs)) (found-slots k r)
      ∙ sym (append_assoc (stash_of desk) (found_to real (view_of desk) path k) (those is_used (slots_at k)))

  -- counts: of what was met, and of an item's blocks, in all that is gathered
  pub found-more : (id d k : ℕ) → cnt (is_id id) (found_to real (view_of desk) path k) ≤ cnt (is_id id) (found_to real (view_of desk) path (d + k))
  unfolding found_to
  found-more id zero k = rw zero-add (omega arith)
  found-more id (suc d) k = rw (suc-add d k) (omega (arith, found-more id d k, cnt-append (is_id id) (found_to real (view_of desk) path (d + k)) (here (d + k))))

  counts : (id k : ℕ) → k ≤ height_of desk → cnt (is_id id) (met k) + cnt (is_id id) (here k) ≤ cnt (is_id id) whole
  unfolding gathered found_to
  counts id k l =
      let t = found_to real (view_of desk) path in
      let e : (height_of desk - k) + suc k ≡ suc (height_of desk) = omega arith in
      let a : cnt (is_id id) (t ((height_of desk - k) + suc k)) ≡ cnt (is_id id) (t (suc (height_of desk))) = ap (λ (n : ℕ). cnt (is_id id) (t n)) e in
      omega (arith, a, cnt-append (is_id id) (stash_of desk) (t k), cnt-append (is_id id) (t k) (here k), found-more id (height_of desk - k) (suc k), cnt-append (is_id id) (t (suc (height_of desk))) (stash_of desk))

  module _ (n : ℕ) (reached : Reached (view_of desk) path n) where
    pub found_all : (id d : ℕ) → d + n ≤ suc (height_of desk) → cnt (is_id id) (found_to real (view_of desk) path (d + n)) ≡ cnt (is_id id) (found_to real (view_of desk) path n)
    unfolding found_to
    found_all id zero h = rw zero-add
    found_all id (suc d) h =
        let l : d + n ≤ height_of desk = omega arith in
        let e : here (d + n) ≡ [] = found_none (d + n) (reached-above (view_of desk) path n reached (d + n) l (omega arith)) in
        let f : cnt (is_id id) (here (d + n)) ≡ 0 = ap (cnt (is_id id)) e in
        rw (suc-add d n) (omega (arith, f, cnt-append (is_id id) (found_to real (view_of desk) path (d + n)) (here (d + n)), found_all id d (omega arith)))

    -- all that is gathered was met
    pub met_all : (id : ℕ) → cnt (is_id id) (met n) ≡ cnt (is_id id) whole
    unfolding gathered
    met_all id =
        let t = found_to real (view_of desk) path in
        let e : (suc (height_of desk) - n) + n ≡ suc (height_of desk) = omega (arith, reached.most) in
        let a : cnt (is_id id) (t ((suc (height_of desk) - n) + n)) ≡ cnt (is_id id) (t (suc (height_of desk))) = ap (λ (m : ℕ). cnt (is_id id) (t m)) e in
        omega (arith, a, found_all id (suc (height_of desk) - n) (omega arith), cnt-append (is_id id) (stash_of desk) (t n), cnt-append (is_id id) (t (suc (height_of desk))) (stash_of desk))

    pub reach : (k : ℕ) → k < n → reachable (view_of desk) path k ≡ true
    reach k h = reached-below (view_of desk) path n reached k (omega (arith, reached.most)) h

    distinct-to : Distinct (stash_of desk) → all n walk_at ≡ true → (k : ℕ) → k ≤ n → Distinct (met k)
    distinct-to once h zero l = rw met-none once
    distinct-to once h (suc k) l =
        let g : Goes desk k (met k) (slots_at k) = walk-goes desk k (met k) (slots_at k) (all-at walk_at n k (omega arith) h) in
        let e : met (suc k) ≡ met k ++ those is_used (slots_at k) = ap met (sym (add-one k)) ∙ met_next k (reach k (omega arith)) in
        rw e (g.distinct (distinct-to once h k (omega arith)))

    walks-fits : Distinct (stash_of desk) → all n walk_at ≡ true → (k : ℕ) → k ≤ height_of desk → each_fits real desk path k (here k) ≡ true
    walks-fits once h k l =
        below_or k n
        (λ lt.
        let g : Goes desk k (met k) (slots_at k) = walk-goes desk k (met k) (slots_at k) (all-at walk_at n k lt h) in
        let e : here k ≡ those is_used (slots_at k) = found-slots k (reach k lt) in
        let d = distinct-to once h n (omega arith) in
        let c : AllOf (λ b. 0 < cnt (is_id b.id) whole) (here k) = counted (here k) whole (λ id. omega (arith, counts id k l)) in
        fits_each k (here k) (rw e g.placed)
        (all_map (λ b. 0 < cnt (is_id b.id) whole) (λ b. cnt (is_id b.id) whole ≡ 1) (λ b z. omega (arith, z, d b.id, met_all b.id)) (here k) c))
        (λ ge. let e : here k ≡ [] = found_none k (reached-above (view_of desk) path n reached k l ge) in rw e)

    fits-walks : all (suc (height_of desk)) (λ k. each_fits real desk path k (here k)) ≡ true → all n walk_at ≡ true
    fits-walks h =
        all_true walk_at n (λ k lt.
        let l : k ≤ height_of desk = omega (arith, reached.most) in
        let f : each_fits real desk path k (here k) ≡ true = all-at (λ k. each_fits real desk path k (here k)) (suc (height_of desk)) k (omega arith) h in
        let e : here k ≡ those is_used (slots_at k) = found-slots k (reach k lt) in
        walk_of desk k whole (met k) (slots_at k) (rw e at (each_placed k (here k) f)) (rw e at (each-once k (here k) f)) (λ id. let c = counts id k l in rw e at c))

    -- the walk says what the checks say
    pub walks-fit : Distinct (stash_of desk) → all n walk_at ≡ all (suc (height_of desk)) (λ k. each_fits real desk path k (found real desk path k))
    walks-fit once =
        same_test (all n walk_at) (all (suc (height_of desk)) (λ k. each_fits real desk path k (here k)))
        (λ h. all_true (λ k. each_fits real desk path k (here k)) (suc (height_of desk)) (λ k l. walks-fits once h k (omega arith)))
        fits-walks

-- ---- the loop over the levels: the first k were walked, and the table has what was met

abbrev pub WalksTo : List ℕ → List ℕ → ℕ → List ℕ → ℕ → Type 0
WalksTo desk w n seen k =
    (path : List ℕ) → Reached (view_of desk) path n → Unsealed (view_of desk) path n w → (all k (walk_at desk path) ≡ true) × Seen seen (met desk path k)

-- the slots of the working copy at level k
abbrev pub slots_held : View → List ℕ → ℕ → List Block
slots_held v w k = blocks_of v.sizes.slots (slots_of v.sizes (item v w k))

not-zero : (n : ℕ) → not (eqb n 0) ≡ ltb 0 n
not-zero n =
    below_or 0 n
    (λ h. ap not (ne_eqb n 0 (λ e. omega arith)) ∙ sym (lt-ltb 0 n h))
    (λ h. ap not (eq-eqb n 0 (omega arith)) ∙ sym (le-ltb 0 n h))

module _ (desk w : List ℕ) (n : ℕ) where
  pub walks-none : (seen : List ℕ) → Seen seen (stash_of desk) → WalksTo desk w n seen 0
  walks-none seen s path r u = (all_none (walk_at desk path), rw met-none s)

  module _ (seen after : List ℕ) (k : ℕ) (h : k < n) (to : WalksTo desk w n seen k) (path : List ℕ) (r : Reached (view_of desk) path n) (u : Unsealed (view_of desk) path n w) where
    held : slots_held (view_of desk) w k ≡ slots_at desk path k
    held = ap (blocks_of (slots_in desk)) (u.slots k h)

    walked : (b : Bool) → Walked desk k (slots_held (view_of desk) w k) seen after b → b ≡ walk_at desk path k
    walked b l = l.answer (met desk path k) (to path r u).1 ∙ ap (walk desk k (met desk path k)) held

    pub walks_next : Walked desk k (slots_held (view_of desk) w k) seen after true → (all (k + 1) (walk_at desk path) ≡ true) × Seen after (met desk path (k + 1))
    walks_next l =
        let e : met desk path (k + 1) ≡ met desk path k ++ those is_used (slots_held (view_of desk) w k) =
        met_next desk path k (reach desk path n r k h) ∙ ap (λ (bs : List Block). met desk path k ++ those is_used bs) (sym held) in
        (all_more (walk_at desk path) k (to path r u).0 (sym (walked true l)), rw e (l.met (met desk path k) (to path r u).1 refl))

    pub walks-stop : Distinct (stash_of desk) → Walked desk k (slots_held (view_of desk) w k) seen after false → false ≡ slots_fit real desk path
    walks-stop once l =
        let e : all (suc (height_of desk)) (λ k. each_fits real desk path k (found real desk path k)) ≡ false =
        sym (walks-fit desk path n r once) ∙ all-fails (walk_at desk path) n k h (sym (walked false l)) in
        sym (rw e)

  pub walks-end : (seen : List ℕ) (k : ℕ) → k ≡ n → Distinct (stash_of desk) → 0 < id_asked desk → id_asked desk ≤ most_ids → WalksTo desk w n seen k → (path : List ℕ)
      → Reached (view_of desk) path n → Unsealed (view_of desk) path n w
      → (not (is_marked desk (id_asked desk)) || not (eqb (get_or seen (id_asked desk) 0) 0)) ≡ slots_fit real desk path
  walks-end seen k e once low high to path r u =
      let id = id_asked desk in
      let g = to path r u in
      let f : all (suc (height_of desk)) (λ k. each_fits real desk path k (found real desk path k)) ≡ true =
      sym (walks-fit desk path n r once) ∙ subst (λ (n : ℕ). all n (walk_at desk path) ≡ true) e g.0 in
      let c : cnt (is_id id) (met desk path k) ≡ cnt (is_id id) (gathered real desk path) = ap (λ (n : ℕ). cnt (is_id id) (met desk path n)) e ∙ met_all desk path n r id in
      let t : eqb (get_or seen id 0) 0 ≡ eqb (cnt (is_id id) (gathered real desk path)) 0 = g.1.at id low high ∙ ap (λ (n : ℕ). eqb n 0) c in
      rw (f, t, not-zero (cnt (is_id id) (gathered real desk path)))
