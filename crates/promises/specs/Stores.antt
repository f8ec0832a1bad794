-- What the demands speak of: a store, what it is formatted with, and a request. Assumes nothing.
use Rattle.std.specs.Prelude.{ℕ, ◌≢◌, List, Err, Result}
use Rattle.sizes.specs.declared.Sizes.{Sizes}
use Rattle.sizes.specs.declared.Refusal.{Refusal}
use Rattle.desk.specs.declared.Kind.{Kind}
use Rattle.items.specs.Items.{Means}
use Rattle.asks.specs.Ask.{AskResult, ask_of}
use Rattle.formats.specs.Format.{FormatResult, format_of}
use Rattle.store.specs.declared.Finished.{Finished}
use Rattle.store.specs.Finish.{FinishResult, finish_of}

-- a store is what it answers and leaves in the buffers when it is asked (desk, kind, id, draw, record) and when a path comes back (desk, path,
-- record buffer). The demands are stated of any store, so that they can be tried on wrong ones
pub record Store : Type 0 where
  pub ask : List ℕ → Kind → ℕ → ℕ → List ℕ → AskResult
  pub finish : List ℕ → List ℕ → List ℕ → FinishResult

-- ours: the definitions that the contracts of `ask` and `finish` cite
abbrev pub ours : Means → Store
ours m = record { ask = ask_of; finish = finish_of m }

-- what format takes beside the lent desk: L and Z, S, N, key, starting leaves
pub record Start : Type 0 where
  pub sizes : Sizes
  pub room : ℕ
  pub ids : ℕ
  pub key : List ℕ
  pub starts : List ℕ

abbrev pub format_for : Start → List ℕ → FormatResult
format_for b lent = format_of lent b.sizes.height b.sizes.slots b.room b.ids b.key b.starts

-- a request: kind, id, the leaf drawn for it, and, for a write, its record
pub record Request : Type 0 where
  pub kind : Kind
  pub id : ℕ
  pub leaf : ℕ
  pub content : List ℕ

-- an answer that is no refusal
abbrev pub Accepted : Result Finished Refusal → Type 0
Accepted a = (q : Refusal) → a ≢ Err q
