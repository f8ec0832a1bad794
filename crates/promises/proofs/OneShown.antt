-- What one request of a run shows, whatever its kind, and what may follow it: after a refusal nothing, after an accepted finish what requests from the desk
-- that it left would show in some surroundings. Assumes nothing.
use Rattle.std.specs.Prelude.{Err, Ok, Result}
use Rattle.sizes.specs.declared.Refusal.{Refusal}
use Prim.Native.Nat.{ℕ}
use mathlib.Core.Path.{◌≡◌, refl, sym, ap, ap₂, subst, ◌∙◌}
use mathlib.Core.List.{List, [], ◌∷◌, ◌++◌}
use Rattle.desk.specs.declared.Kind.{Kind}
use Rattle.desk.specs.Readers.{sizes_of}
use Rattle.items.specs.Real.{real}
use Rattle.tree.specs.Tree.{fetch_of}
use Rattle.asks.specs.Ask.{ask_of}
use Rattle.store.specs.declared.Finished.{Finished}
use Rattle.store.specs.declared.Finished.TheVariants as finished
use Rattle.store.specs.Finish.{finish_of}
use Rattle.requests.specs.Request.{Answered}
use Rattle.requests.specs.Request.{RequestResult, finished_by, asked_for, request_of}
use Rattle.promises.specs.Stores.{ours}
use Rattle.promises.specs.DemandThree.{Around, finish_then, shown_if, go_on, shows}
use Rattle.promises.proofs.Three.{Begins}

-- ---- what is a beginning of what requests of these ids show, with these draws, in some surroundings

abbrev pub Shown : List ℕ → List ℕ → List ℕ → List ℕ → Type 0
Shown part desk us xs = (es : List Around) × Begins part (shows (ours real) desk us xs es)

pub shown-nothing : (desk us xs : List ℕ) → Shown [] desk us xs
shown-nothing desk us xs = ([], (shows (ours real) desk us xs [], refl))

-- a request that is asked and finished so
module _ (desk : List ℕ) (u x : ℕ) (us xs : List ℕ) (e : Around) (p : ℕ) (h : (ask_of desk e.kind u x e.content).answer ≡ Ok p)
    (a : Result Finished Refusal) (k : (finish_then (ours real) desk u x e).answer ≡ a) where
  shows_more : (es : List Around) → shows (ours real) desk (u ∷ us) (x ∷ xs) (e ∷ es) ≡ p ∷ go_on a (shows (ours real) (finish_then (ours real) desk u x e).desk us xs es)
  unfolding shows
  shows_more es =
      ap₂ (λ (y : Result ℕ Refusal) (b : Result Finished Refusal). shown_if y (λ q. q ∷ go_on b (shows (ours real) (finish_then (ours real) desk u x e).desk us xs es))) h k

  shown-one : Shown (p ∷ []) desk (u ∷ us) (x ∷ xs)
  shown-one = (e ∷ [], (go_on a (shows (ours real) (finish_then (ours real) desk u x e).desk us xs []), sym (shows_more [])))

-- ---- what may follow a request

-- its leaf, and what is shown from the desk that it left
pub record GoesOn (ids draws : List ℕ) (p : ℕ) (desk shown : List ℕ) : Type 0 where
  pub rest : List ℕ
  pub shown_is : shown ≡ p ∷ rest
  pub rest_shown : Shown rest desk ids draws

abbrev pub Follows : List ℕ → List ℕ → Answered → List ℕ → List ℕ → Type 0
Follows ids draws (Err q) desk shown = shown ≡ []
Follows ids draws (Ok (p, Ok finished.Record)) desk shown = GoesOn ids draws p desk shown
Follows ids draws (Ok (p, Ok finished.Never)) desk shown = GoesOn ids draws p desk shown
Follows ids draws (Ok (p, Ok finished.Done)) desk shown = GoesOn ids draws p desk shown
Follows ids draws (Ok (p, Err q)) desk shown = shown ≡ p ∷ []

module _ (desk : List ℕ) (id x : ℕ) (ids draws shown : List ℕ) where
  abbrev Here : List ℕ → Type 0
  Here part = Shown part desk (id ∷ ids) (x ∷ draws)

  -- by its finish: an accepted one goes on from the desk that it left
  module _ (e : Around) (p : ℕ) (h : (ask_of desk e.kind id x e.content).answer ≡ Ok p) where
    abbrev left : List ℕ
    left = (finish_then (ours real) desk id x e).desk

    goes_on : (a : Result Finished Refusal) → (finish_then (ours real) desk id x e).answer ≡ a → ((w : List ℕ) → w ≡ go_on a w) → GoesOn ids draws p left shown → Here shown
    goes_on a k o g =
        let s = g.rest_shown in (
          e ∷ s.0,
          (
            s.1.0,
            ap (λ (l : List ℕ). l ++ s.1.0) g.shown_is ∙ ap (λ (l : List ℕ). p ∷ l) (s.1.1 ∙ o (shows (ours real) left ids draws s.0))
                ∙ sym (shows_more desk id x ids draws e p h a k s.0),
          ),
        )

    by-finish : (a : Result Finished Refusal) → (finish_then (ours real) desk id x e).answer ≡ a → Follows ids draws (Ok (p, a)) left shown → Here shown
    by-finish (Ok finished.Record) k g = goes_on (Ok finished.Record) k (λ w. refl) g
    by-finish (Ok finished.Never) k g = goes_on (Ok finished.Never) k (λ w. refl) g
    by-finish (Ok finished.Done) k g = goes_on (Ok finished.Done) k (λ w. refl) g
    by-finish (Err q) k g = subst Here (sym g) (shown-one desk id x ids draws e p h (Err q) k)

  -- by its ask and its fetch
  module _ (tree path buffer : List ℕ) (kind : Kind) where
    abbrev d : List ℕ
    d = (ask_of desk kind id x buffer).desk

    abbrev got : ℕ → List ℕ
    got p = (fetch_of (sizes_of d) p tree path).path

    abbrev FollowsAs : RequestResult → Type 0
    FollowsAs r = Follows ids draws r.answer r.desk shown

    by-fetch : (p : ℕ) → (ask_of desk kind id x buffer).answer ≡ Ok p → (o : Result Unit Refusal) → FollowsAs (finished_by o (sizes_of d) p d tree (got p) buffer) → Here shown
    by-fetch p h (Err q) g =
        let e : Around = record { kind = kind; content = buffer; path = got p; buffer = buffer } in
        subst Here (sym g) (shown-one desk id x ids draws e p h (finish_then (ours real) desk id x e).answer refl)
    by-fetch p h (Ok tt) g =
        by-finish (record { kind = kind; content = buffer; path = got p; buffer = buffer }) p h (finish_of real d (got p) buffer).answer refl g

    by-ask : (a : Result ℕ Refusal) → (ask_of desk kind id x buffer).answer ≡ a → FollowsAs (asked_for a d tree path buffer) → Here shown
    by-ask (Err q) h g = subst Here (sym g) (shown-nothing desk (id ∷ ids) (x ∷ draws))
    by-ask (Ok p) h g = by-fetch p h (fetch_of (sizes_of d) p tree path).answer g

    pub request-shown : FollowsAs (request_of desk tree path buffer kind id x) → Here shown
    request-shown g = by-ask (ask_of desk kind id x buffer).answer refl g
