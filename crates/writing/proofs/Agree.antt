-- Paths that agree where they are reachable are written alike: bytes of items that are not reachable never matter. Assumes nothing.
use Rattle.std.proofs.Common.{◌≡◌, ℕ, zero, suc, ◌+◌, ◌-◌, ◌≤◌, Bool, false, cond, ◌&&◌, eqb, List, [], ◌∷◌, ◌++◌, get_or, sym, refl, ap, ◌∙◌, ap₂, arith}
use Rattle.words.specs.Bytes.{zeros}
use Rattle.words.proofs.Tests.{by_cases, and_left}
use Rattle.sizes.specs.Sizes.{digest_len}
use Rattle.slots.specs.Slots.{Block}
use Rattle.items.specs.declared.View.{View}
use Rattle.items.specs.Items.{Means, counter_of, flag_of, digest_of, item_digest, sealed}
use Rattle.items.specs.Way.{bucket, side, reachable, Agree}
use Rattle.items.proofs.Way.{reachable-agree}
use Rattle.writing.specs.Writing.{new_counter, new_head, is_kept, new_flag, new_digest, new_inner, written, path_written, root_written}

module _ (m : Means) (v : View) (xs ys : List ℕ) (placed : List (List Block)) (agree : Agree v xs ys) where
  module _ (k : ℕ) (h : k ≤ v.sizes.height) where
    here : reachable v xs k ≡ reachable v ys k
    here = reachable-agree v xs ys agree k h

    counter-agree : new_counter m v xs placed k ≡ new_counter m v ys placed k
    counter-agree =
        by_cases (reachable v xs k)
        (λ e. ap₂ (λ (b : Bool) (t : List ℕ). cond b (counter_of t + 1) 1) here (agree k h e))
        (λ e. let f : reachable v ys k ≡ false = sym here ∙ e in rw (e, f))

    head-agree : new_head m v xs placed k ≡ new_head m v ys placed k
    head-agree = ap (λ (c : ℕ). sealed m v.sizes v.key c (bucket v k) (get_or placed (v.sizes.height - k) [])) counter-agree

    kept-agree : (on : ℕ) → is_kept m v xs placed k on ≡ is_kept m v ys placed k on
    kept-agree on =
        by_cases (reachable v xs k)
        (λ e. ap₂ (λ (b : Bool) (t : List ℕ). b && eqb (flag_of v.sizes t on) 1) here (agree k h e))
        (λ e. let f : reachable v ys k ≡ false = sym here ∙ e in rw (e, f))

    flag-agree : (on : ℕ) → new_flag m v xs placed k on ≡ new_flag m v ys placed k on
    flag-agree on = ap (λ (b : Bool). cond (eqb on (side v k)) 1 (cond b 1 0)) (kept-agree on)

    -- a digest is kept only out of a reachable item
    digest-agree : (new : List ℕ) (on : ℕ) → new_digest m v xs placed k new on ≡ new_digest m v ys placed k new on
    digest-agree new on =
        by_cases (is_kept m v xs placed k on)
        (λ e.
        ap₂ (λ (b : Bool) (t : List ℕ). cond (eqb on (side v k)) new (cond b (digest_of v.sizes t on) (zeros digest_len))) (kept-agree on)
        (agree k h (and_left (reachable v xs k) _ e)))
        (λ e. let f : is_kept m v ys placed k on ≡ false = sym (kept-agree on) ∙ e in rw (e, f))

    inner-agree : (new : List ℕ) → new_inner m v xs placed k new ≡ new_inner m v ys placed k new
    unfolding new_inner
    inner-agree new =
        ap₂ (λ (a b : List ℕ). a ++ b) head-agree
        (ap₂ (λ (a : ℕ) (b : List ℕ). a ∷ b) (flag-agree 0)
        (ap₂ (λ (a : ℕ) (b : List ℕ). a ∷ b) (flag-agree 1) (ap₂ (λ (a b : List ℕ). a ++ b) (digest-agree new 0) (digest-agree new 1))))

  -- what is written from level L - h on
  module _ (h : ℕ) where
    abbrev Alike : Type 0
    Alike = ((written m v xs placed h).top ≡ (written m v ys placed h).top) × ((written m v xs placed h).below ≡ (written m v ys placed h).below)

  written-agree : (h : ℕ) → h ≤ v.sizes.height → Alike h
  unfolding written
  written-agree zero l = (head-agree v.sizes.height (omega arith), refl)
  written-agree (suc h) l =
      let k = v.sizes.height - suc h in
      let w = written-agree h (omega arith) in (
        ap (λ (t : List ℕ). new_inner m v xs placed k (item_digest m v.sizes (suc k) t)) w.0
            ∙ inner-agree k (omega arith) (item_digest m v.sizes (suc k) (written m v ys placed h).top),
        ap₂ (λ (a b : List ℕ). a ++ b) w.0 w.1,
      )

  pub path-agree : path_written m v xs placed ≡ path_written m v ys placed
  path-agree = let w = written-agree v.sizes.height (omega arith) in ap₂ (λ (a b : List ℕ). a ++ b) w.0 w.1

  pub root-agree : root_written m v xs placed ≡ root_written m v ys placed
  root-agree = ap (item_digest m v.sizes 0) (written-agree v.sizes.height (omega arith)).0
