-- At an open desk with right lengths: Forged exactly if a check fails; else Worn, Full, or accepted, each exactly by its row. Assumes nothing.
use Rattle.std.specs.Prelude.{Err, Ok, Result}
use Prim.Native.Nat.{ℕ, zero, suc, ◌<◌, ◌≤◌}
use mathlib.Core.Path.{◌≡◌, refl, sym, ap, ◌∙◌}
use mathlib.Core.Logic.{◌↔◌}
use mathlib.Core.Bool.{Bool, true, false, not}
use mathlib.Core.List.{List, [], ◌∷◌}
use native.Mathlib.Omega.{arith}
use lib.ListN.{length}
use lib.Dec.{ltb}
use borrow.Author.Tests.{eqb-true, eq-eqb, ltb-true, lt-ltb, le-ltb, not-true, not-false}
use Rattle.words.specs.Tests.{all}
use Rattle.words.proofs.Tests.{by_cases, and_left, and_right, all-fails}
use Rattle.sizes.specs.declared.Refusal.{Refusal}
use Rattle.sizes.specs.declared.Refusal.TheVariants.{Forged, Worn, Full}
use Rattle.sizes.specs.Refusals.{first_of}
use Rattle.sizes.specs.Sizes.{path_len}
use Rattle.desk.specs.Layout.{room_of}
use Rattle.desk.specs.Readers.{sizes_of, height_of, kind_asked}
use Rattle.items.specs.Items.{Means}
use Rattle.items.specs.Way.{reachable}
use Rattle.opening.specs.Opening.{view_of, is_worn, last_counter, genuine, worn, Genuine}
use Rattle.opening.proofs.Genuine.{genuine-checks, checks-genuine}
use Rattle.opening.proofs.Tests.{no_true}
use Rattle.store.specs.declared.Finished.{Finished}
use Rattle.store.specs.Steps.{answer_for, was_marked, new_stash}
use Rattle.store.specs.Finish.{finish_of, finish_checked, finished_or}
use Rattle.promises.specs.Stores.{ours, Accepted}
use Rattle.promises.specs.DemandTwo.{Ready, WornOut, Exactly}
use Rattle.promises.proofs.Answers.{answer-accepted, finished-refused}

-- for words
fails-at : (p : ℕ → Bool) (n : ℕ) → all n p ≡ false → (i : ℕ) × (i < n) × (p i ≡ false)
unfolding all
fails-at p zero h = absurd (no_true h)
fails-at p (suc n) h =
    by_cases (p n)
    (λ e.
    by_cases (all n p)
    (λ f. absurd (no_true (sym (rw (f, e) refl) ∙ h)))
    (λ f. let i = fails-at p n f in (i.0, omega (arith, i.1), i.2)))
    (λ e. (n, omega arith, e))

-- two outcomes that differ
differ : (o : Result Unit Refusal) (p q : Result Unit Refusal) → o ≡ p → o ≡ q → (p ≡ q → ⊥) → ⊥
differ o p q a b n = n (sym a ∙ b)

module _ (m : Means) (desk path : List ℕ) where
  worn-out : worn m desk path ≡ true → WornOut m desk path
  unfolding worn
  worn-out h =
      let i = fails-at (λ k. not (is_worn (view_of desk) path k)) (suc (height_of desk)) (not-true _ h) in
      let e : is_worn (view_of desk) path i.0 ≡ true = not-false (is_worn (view_of desk) path i.0) i.2 in
      (i.0, (omega (arith, i.1), and_left (reachable (view_of desk) path i.0) _ e), eqb-true _ _ (and_right (reachable (view_of desk) path i.0) _ e))

  pub out-worn : WornOut m desk path → worn m desk path ≡ true
  unfolding worn
  out-worn w =
      let e : is_worn (view_of desk) path w.0 ≡ true = rw (w.1.1, w.2, eq-eqb last_counter last_counter refl) refl in
      ap not (all-fails (λ k. not (is_worn (view_of desk) path k)) (suc (height_of desk)) w.0 (omega (arith, w.1.0)) (ap not e))

  abbrev full : Bool
  full = ltb (room_of desk) (length (new_stash m desk path))

  module _ (buffer : List ℕ) (r : Ready desk path buffer) where
    abbrev answer : Result Finished Refusal
    answer = (finish_of m desk path buffer).answer

    -- the rows that are left
    rows : (g w f : Bool) → genuine m desk path ≡ g → worn m desk path ≡ w → full ≡ f
        → finish_checked m desk path buffer ≡ first_of ((not g, Forged) ∷ (w, Worn) ∷ (f, Full) ∷ [])
    unfolding finish_checked
    rows g w f a b c =
        rw (r.good, r.status, r.path_length, r.buffer_length, eq-eqb (path_len (sizes_of desk)) (path_len (sizes_of desk)) refl, a, b, c)

    refused : (q : Refusal) → answer ≡ Err q → finish_checked m desk path buffer ≡ Err q
    refused q h = finished-refused (finish_checked m desk path buffer) (kind_asked desk) (was_marked m desk path) q h

    comes : (o : Result Unit Refusal) → finish_checked m desk path buffer ≡ o → answer ≡ finished_or o (answer_for (kind_asked desk) (was_marked m desk path))
    comes o e = ap (λ (o : Result Unit Refusal). finished_or o (answer_for (kind_asked desk) (was_marked m desk path))) e

    forged-exactly : (answer ≡ Err Forged) ↔ (Genuine m desk path → ⊥)
    forged-exactly = (
      (λ h g.
          let t = checks-genuine m desk path g in
          by_cases (worn m desk path)
          (λ w. by_cases full (λ f. differ _ _ _ (rows true true true t w f) (refused Forged h) other) (λ f. differ _ _ _ (rows true true false t w f) (refused Forged h) other))
          (λ w. by_cases full (λ f. differ _ _ _ (rows true false true t w f) (refused Forged h) other₂) (λ f. differ _ _ _ (rows true false false t w f) (refused Forged h) other₃))),
      λ n.
          by_cases (genuine m desk path)
          (λ e. absurd (n (genuine-checks m desk path e)))
          (λ e. comes (Err Forged) (rows false (worn m desk path) full e refl refl)),
    )
      where
        other : ◌≡◌ {A = Result Unit Refusal} (Err Worn) (Err Forged) → ⊥
        other z = let y : ◌≡◌ {A = ℕ} 0 1 = cc in omega arith

        other₂ : ◌≡◌ {A = Result Unit Refusal} (Err Full) (Err Forged) → ⊥
        other₂ z = let y : ◌≡◌ {A = ℕ} 0 1 = cc in omega arith

        other₃ : ◌≡◌ {A = Result Unit Refusal} (Ok tt) (Err Forged) → ⊥
        other₃ z = let y : ◌≡◌ {A = ℕ} 0 1 = cc in omega arith

    module _ (g : Genuine m desk path) where
      past : (w f : Bool) → worn m desk path ≡ w → full ≡ f → finish_checked m desk path buffer ≡ first_of ((w, Worn) ∷ (f, Full) ∷ [])
      past w f a b = rows true w f (checks-genuine m desk path g) a b

      worn-exactly : (answer ≡ Err Worn) ↔ WornOut m desk path
      worn-exactly = (
        (λ h.
            by_cases (worn m desk path) worn-out
            (λ w.
            absurd
            (by_cases full (λ f. differ _ _ _ (past false true w f) (refused Worn h) other) (λ f. differ _ _ _ (past false false w f) (refused Worn h) other₂)))),
        λ w. comes (Err Worn) (past true full (out-worn w) refl),
      )
        where
          other : ◌≡◌ {A = Result Unit Refusal} (Err Full) (Err Worn) → ⊥
          other z = let y : ◌≡◌ {A = ℕ} 0 1 = cc in omega arith

          other₂ : ◌≡◌ {A = Result Unit Refusal} (Ok tt) (Err Worn) → ⊥
          other₂ z = let y : ◌≡◌ {A = ℕ} 0 1 = cc in omega arith

      full-exactly : (answer ≡ Err Full) ↔ ((WornOut m desk path → ⊥) × (room_of desk < length (new_stash m desk path)))
      full-exactly = (
        (λ h.
            by_cases (worn m desk path)
            (λ w. absurd (differ _ _ _ (past true full w refl) (refused Full h) other))
            (λ w.
            by_cases full
            (λ f. ((λ z. no_true (sym (out-worn z) ∙ w)), ltb-true _ _ f))
            (λ f. absurd (differ _ _ _ (past false false w f) (refused Full h) other₂)))),
        λ k. by_cases (worn m desk path) (λ w. absurd (k.0 (worn-out w))) (λ w. comes (Err Full) (past false true w (lt-ltb _ _ k.1))),
      )
        where
          other : ◌≡◌ {A = Result Unit Refusal} (Err Worn) (Err Full) → ⊥
          other z = let y : ◌≡◌ {A = ℕ} 0 1 = cc in omega arith

          other₂ : ◌≡◌ {A = Result Unit Refusal} (Ok tt) (Err Full) → ⊥
          other₂ z = let y : ◌≡◌ {A = ℕ} 0 1 = cc in omega arith

      else-accepted : (WornOut m desk path → ⊥) → length (new_stash m desk path) ≤ room_of desk → Accepted answer
      else-accepted n l =
          by_cases (worn m desk path)
          (λ w. absurd (n (worn-out w)))
          (λ w. rw (comes (Ok tt) (past false false w (le-ltb _ _ l))) (answer-accepted (kind_asked desk) (was_marked m desk path)))

pub exactly : (m : Means) → Exactly m (ours m)
exactly m =
    record {
      forged = λ desk path buffer r. forged-exactly m desk path buffer r;
      worn = λ desk path buffer r g. worn-exactly m desk path buffer r g;
      full = λ desk path buffer r g. full-exactly m desk path buffer r g;
      otherwise = λ desk path buffer r g. else-accepted m desk path buffer r g;
    }
