-- One request of a sheet's entry: what the request is known for gives its outcome, or its refusal. Assumes nothing.
use Rattle.std.specs.Prelude.{Err, Result, Ok}
use Prim.Native.Nat.{ℕ}
use mathlib.Core.Path.{◌≡◌, sym, ap, ◌∙◌}
use mathlib.Core.List.{List}
use Rattle.sizes.specs.declared.Refusal.{Refusal}
use Rattle.desk.specs.declared.Kind.{Kind}
use Rattle.store.specs.declared.Finished.{Finished}
use Rattle.requests.specs.Request.{Answered}
use Rattle.requests.specs.Request.{requested, request_of}
use Rattle.passing.specs.Passing.{kind_of, finished_outcome, outcome_of, requested_entry, entry_by, request_entry}

module _ (desk tree path entry : List ℕ) (id draw : ℕ) {kind : Kind} (k : kind ≡ kind_of entry) {a : Answered} {d t p b : List ℕ}
    (e : requested a d t p b ≡ request_of desk tree path entry kind id draw) where
  requested-at : {r : Result Unit Refusal} → r ≡ outcome_of a → requested_entry r d t p b ≡ request_entry desk tree path entry id draw
  unfolding request_entry
  requested-at h = ap (λ (r : Result Unit Refusal). requested_entry r d t p b) h ∙ ap entry_by (e ∙ ap (λ (x : Kind). request_of desk tree path entry x id draw) k)

  pub entry-refused : {q : Refusal} → a ≡ Err q → requested_entry (Err q) d t p b ≡ request_entry desk tree path entry id draw
  entry-refused h = requested-at (sym (ap outcome_of h))

  pub entry-finished : {leaf : ℕ} {f : Result Finished Refusal} {r : Result Unit Refusal} → a ≡ Ok (leaf, f) → r ≡ finished_outcome f → requested_entry r d t p b ≡ request_entry desk tree path entry id draw
  entry-finished h g = requested-at (g ∙ sym (ap outcome_of h))
