-- The walk over slots: what its turns leave. Assumes nothing.
use Prim.Native.Nat.{ℕ, suc, ◌+◌, ◌-◌, ◌*◌, ◌≤◌, ◌<◌}
use mathlib.Core.Bool.{Bool, true, false, ◌&&◌}
use mathlib.Core.Path.{◌≡◌, refl, sym, ap, ◌∙◌, subst}
use mathlib.Core.List.{List, [], ◌∷◌, ◌++◌, append_assoc, append-nil}
use native.Mathlib.Numerals.{add-one}
use native.Mathlib.Omega.{arith}
use lib.ListN.{drop}
use lib.Seq.{drop-drop}
use Rattle.words.specs.Numbers.{number}
use Rattle.words.proofs.Numbers.{number-drop}
use Rattle.words.proofs.Tests.{by_cases}
use Rattle.bags.specs.Bags.{those}
use Rattle.slots.specs.Slots.{Block, is_used, slot_by, block_by, blocks_by}
use Rattle.slots.proofs.Blocks.{slots-suc}
use Rattle.opening.specs.Walk.{Seen, walk, passes, Looked, Walked}
use Rattle.opening.proofs.Tests.{no_true}

-- the first slot of the rest, after j of n
pub rest-cons : (r n j : ℕ) (xs : List ℕ) → j < n
    → blocks_by r (n - j) (drop (slot_by r * j) xs) ≡ block_by r (drop (slot_by r * j) xs) ∷ blocks_by r (n - (j + 1)) (drop (slot_by r * (j + 1)) xs)
unfolding blocks_by
rest-cons r n j xs h =
    let e : n - j ≡ suc (n - (j + 1)) = omega arith in
    let f : slot_by r * j + slot_by r ≡ slot_by r * (j + 1) = omega (arith, slots-suc r j, ap (λ (i : ℕ). slot_by r * i) (add-one j)) in
    let g : slot_by r + slot_by r * j ≡ slot_by r * (j + 1) = omega arith in
    ap (λ (i : ℕ). blocks_by r i (drop (slot_by r * j) xs)) e
    ∙ ap (λ (ys : List ℕ). block_by r (drop (slot_by r * j) xs) ∷ blocks_by r (n - (j + 1)) ys) (drop-drop (slot_by r) (slot_by r * j) xs ∙ ap (λ (i : ℕ). drop i xs) f)

pub rest-none : (r n j : ℕ) (xs : List ℕ) → n ≤ j → blocks_by r (n - j) xs ≡ []
unfolding blocks_by
rest-none r n j xs h = let e : n - j ≡ 0 = omega arith in rw e

-- its id, and the block that a part shows
pub slot-id : (r j : ℕ) (xs : List ℕ) → number 2 xs (slot_by r * j) ≡ (block_by r (drop (slot_by r * j) xs)).id
slot-id r j xs = let e : slot_by r * j + 0 ≡ slot_by r * j = omega arith in sym (number-drop 2 xs (slot_by r * j) 0 ∙ ap (number 2 xs) e)

those-cons : (b : Block) (bs : List Block) → those is_used (b ∷ bs) ≡ those is_used (b ∷ []) ++ those is_used bs
unfolding those
those-cons b bs = by_cases (is_used b) (λ e. rw e) (λ e. rw e)

module _ (desk : List ℕ) (k : ℕ) (all : List Block) where
  -- where the walk stands with `rest` before it: the blocks met here, from which the rest is walked
  pub record Here (rest met : List Block) (seen : List ℕ) : Type 0 where
    pub here : List Block
    pub walks : walk desk k met all ≡ walk desk k here rest
    pub table : Seen seen here
    pub joins : here ++ those is_used rest ≡ met ++ those is_used all

  abbrev pub Run : List Block → List ℕ → List ℕ → Type 0
  Run rest before seen = (met : List Block) → Seen before met → Here rest met seen

  pub run_none : (rest : List Block) (seen : List ℕ) → all ≡ rest → Run rest seen seen
  run_none rest seen e met s = record { here = met; walks = ap (walk desk k met) e; table = s; joins = ap (λ (bs : List Block). met ++ those is_used bs) (sym e) }

  module _ (b : Block) (rest : List Block) (before seen after : List ℕ) (run : Run (b ∷ rest) before seen) where
    pub run_step : Looked desk k b seen after true → Run rest before after
    unfolding walk
    run_step look met s =
        let h = run met s in
        let t : passes desk k h.here b ≡ true = sym (look.answer h.here h.table) in
        record {
          here = h.here ++ those is_used (b ∷ []);
          walks = h.walks ∙ ap (λ (x : Bool). x && walk desk k (h.here ++ those is_used (b ∷ [])) rest) t;
          table = look.met h.here h.table refl;
          joins = append_assoc h.here (those is_used (b ∷ [])) (those is_used rest) ∙ ap (λ (bs : List Block). h.here ++ bs) (sym (those-cons b rest)) ∙ h.joins;
        }

    pub run-fails : Looked desk k b seen after false → Walked desk k all before after false
    unfolding walk
    run-fails look =
        record {
          answer = λ met s.
              let h = run met s in
              let t : passes desk k h.here b ≡ false = sym (look.answer h.here h.table) in
              sym (h.walks ∙ ap (λ (x : Bool). x && walk desk k (h.here ++ those is_used (b ∷ [])) rest) t);
          met = λ met s e. absurd (no_true (sym e));
        }

  pub run_end : (rest : List Block) (before seen : List ℕ) → rest ≡ [] → Run rest before seen → Walked desk k all before seen true
  unfolding walk those
  run_end rest before seen e run =
      record {
        answer = λ met s. let h = run met s in sym (h.walks ∙ ap (walk desk k h.here) e);
        met = λ met s t.
            let h = run met s in
            let j : h.here ≡ met ++ those is_used all = sym (append-nil h.here) ∙ ap (λ (bs : List Block). h.here ++ those is_used bs) (sym e) ∙ h.joins in
            subst (λ (bs : List Block). Seen seen bs) j h.table;
      }
