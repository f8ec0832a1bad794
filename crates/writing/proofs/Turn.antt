-- The loop from the leaf up: where it begins, one turn, and where it ends. Assumes nothing.
use Rattle.std.proofs.Common.{◌≡◌, ℕ, suc, ◌+◌, ◌-◌, ◌≤◌, List, [], ◌++◌, length, take, drop, sym, refl, ap, ◌∙◌, ap₂, append-nil, arith, drop_of_length-le, length-take-le, take_at, drop_at}
use Rattle.words.specs.Bytes.{splice}
use Rattle.words.proofs.Splice.{take-splice}
use Rattle.words.proofs.Tests.{below_or}
use Rattle.sizes.specs.declared.Sizes.{Sizes}
use Rattle.sizes.specs.Sizes.{digest_len, item_len, item_at, item_of, path_len}
use Rattle.sizes.proofs.Lengths.{inner-item, leaf-item, next-item, level-fits}
use Rattle.slots.specs.Slots.{Block}
use Rattle.items.specs.declared.View.{View}
use Rattle.items.specs.Items.{item_digest}
use Rattle.items.specs.Real.{real}
use Rattle.writing.specs.Writing.{new_head, new_inner, written}
use Rattle.writing.specs.Pieces.{links_of, item_written, rest_of, Holds, Climbed, WrittenBy}
use Rattle.writing.proofs.Climb.{take_less, length-item, head-same, links-same, inner-tail, leaf-tail}

-- behind what is laid in
after-splice : (xs ys : List ℕ) (a : ℕ) → a ≤ length xs → drop a (splice xs a ys) ≡ ys ++ drop (a + length ys) xs
unfolding splice
after-splice xs ys a h = drop_at (take a xs) (ys ++ drop (a + length ys) xs) a (length-take-le a xs h)

module _ (v : View) (path new : List ℕ) (fn : path_len v.sizes ≤ length new) where
  abbrev s : Sizes
  s = v.sizes

  -- nothing written yet
  pub climbed-start : (d : List ℕ) (k : ℕ) → k ≡ suc s.height → length path ≡ path_len s → Climbed v path new path d k
  climbed-start d k e l =
      let z : suc s.height - k ≡ 0 = omega arith in
      let n : length path ≤ item_at s k = omega (arith, ap (item_at s) e, next-item s s.height) in
      record {
        kept = refl;
        rest = λ placed holds. drop_of_length-le path {i = item_at s k} n ∙ ap (rest_of v path placed) (sym z);
        due = λ placed holds h. absurd (omega arith);
      }

  module _ (after d : List ℕ) (j : ℕ) (h : j ≤ s.height) (c : Climbed v path new after d (suc j)) (ld : length d ≡ digest_len) (la : length after ≡ path_len s) where
    abbrev ys : List ℕ
    ys = item_written v after new j d

    length-ys : length ys ≡ item_len s j
    length-ys = length-item v after new d ld (omega arith) fn j h

    -- what stands behind the item is as it was
    behind : drop (item_at s j + length ys) after ≡ drop (item_at s (suc j)) after
    behind =
        below_or j s.height
        (λ l.
        let e : item_at s j + length ys ≡ item_at s (suc j) = omega (arith, length-ys, inner-item s j l, next-item s j) in
        ap (λ (i : ℕ). drop i after) e)
        (λ l.
        let e : j ≡ s.height = omega arith in
        let n : length after ≤ item_at s j + length ys = omega (arith, length-ys, leaf-item s j l, ap (item_at s) e) in
        let m : length after ≤ item_at s (suc j) = omega (arith, next-item s j, ap (item_at s) e) in
        drop_of_length-le after {i = item_at s j + length ys} n ∙ sym (drop_of_length-le after {i = item_at s (suc j)} m))

    -- the item and what is behind it, as step 6 says
    module _ (placed : List (List Block)) (holds : Holds v new placed) where
      top-is : (written real v path placed (s.height - j)).top ≡ ys
      unfolding written item_written new_inner
      top-is =
          below_or j s.height
          (λ l.
          let h' = s.height - suc j in
          let e : s.height - j ≡ suc h' = omega arith in
          let i : s.height - suc h' ≡ j = omega arith in
          let f : d ≡ item_digest real s (suc j) (written real v path placed h').top = c.due placed holds (omega arith) in
          ap (λ (n : ℕ). (written real v path placed n).top) e
          ∙ ap (λ (n : ℕ). new_inner real v path placed n (item_digest real s (suc n) (written real v path placed h').top)) i
          ∙ ap (new_inner real v path placed j) (sym f)
          ∙ sym (ap₂ (λ (x y : List ℕ). x ++ y) (head-same v path after new j c.kept placed holds h) (inner-tail j s.height (links_of v after j d) [] l ∙ links-same v path after new j c.kept d)))
          (λ l.
          let e : s.height - j ≡ 0 = omega arith in
          let i : s.height ≡ j = omega arith in
          ap (λ (n : ℕ). (written real v path placed n).top) e ∙ ap (new_head real v path placed) i
          ∙ sym (ap₂ (λ (x y : List ℕ). x ++ y) (head-same v path after new j c.kept placed holds h) (leaf-tail j s.height (links_of v after j d) [] l) ∙ append-nil (new_head real v path placed j)))

      below-is : (written real v path placed (s.height - j)).below ≡ rest_of v path placed (suc s.height - suc j)
      unfolding written
      below-is =
          below_or j s.height
          (λ l.
          let h' = s.height - suc j in
          let e : s.height - j ≡ suc h' = omega arith in
          let i : suc h' ≡ suc s.height - suc j = omega arith in
          ap (λ (n : ℕ). (written real v path placed n).below) e ∙ ap (rest_of v path placed) i)
          (λ l.
          let e : s.height - j ≡ 0 = omega arith in
          let i : 0 ≡ suc s.height - suc j = omega arith in
          ap (λ (n : ℕ). (written real v path placed n).below) e ∙ ap (rest_of v path placed) i)

    module _ (next d' : List ℕ) (p : next ≡ splice after (item_at s j) ys) (q : d' ≡ item_digest real s j (item_of s next j)) where
      fit : item_at s j ≤ length after
      fit = omega (arith, level-fits s j s.height h)

      from : drop (item_at s j) next ≡ ys ++ drop (item_at s (suc j)) after
      from = ap (drop (item_at s j)) p ∙ after-splice after ys (item_at s j) fit ∙ ap (λ (l : List ℕ). ys ++ l) behind

      item-is : item_of s next j ≡ ys
      item-is = ap (take (item_len s j)) from ∙ take_at ys (drop (item_at s (suc j)) after) (item_len s j) length-ys

      pub climbed-turn : Climbed v path new next d' j
      climbed-turn =
          let n : suc s.height - j ≡ suc (s.height - j) = omega arith in
          record {
            kept =
                ap (take (item_at s j)) p ∙ take-splice after (item_at s j) ys (item_at s j) (omega arith) fit
                ∙ take_less after path (item_at s j) (item_at s (suc j)) (omega (arith, next-item s j)) c.kept;
            rest =
                λ placed holds.
                from ∙ ap₂ (λ (x y : List ℕ). x ++ y) (sym (top-is placed holds)) (c.rest placed holds ∙ sym (below-is placed holds))
                ∙ ap (rest_of v path placed) (sym n);
            due = λ placed holds l. q ∙ ap (item_digest real s j) (item-is ∙ sym (top-is placed holds));
          }

  -- all of it
  pub climbed-end : (after d : List ℕ) (k : ℕ) → k ≡ 0 → Climbed v path new after d k → WrittenBy v path new after d
  climbed-end after d k e c =
      let z : item_at s k ≡ 0 = omega (arith, ap (item_at s) e) in
      let n : suc s.height - k ≡ suc s.height = omega arith in
      let m : s.height - k ≡ s.height = omega arith in
      record {
        path_is = λ placed holds. ap (λ (i : ℕ). drop i after) (sym z) ∙ c.rest placed holds ∙ ap (rest_of v path placed) n;
        root_is =
            λ placed holds.
            c.due placed holds (omega arith) ∙ ap₂ (λ (i j : ℕ). item_digest real s i (written real v path placed j).top) e m;
      }
