-- One whole request: ask, fetch, finish and put as one call against a lent tree. It is what the demands say of its steps, so the plain table answers it.
-- Assumes nothing.
use Rattle.std.specs.Prelude.{ℕ, ◌<◌, ◌≡◌, ◌≢◌, List, Err, Ok, Result}
use Rattle.sizes.specs.declared.Refusal.{Refusal}
use Rattle.sizes.specs.declared.Refusal.TheVariants.{Forged}
use Rattle.desk.specs.declared.Kind.{Kind}
use Rattle.items.specs.Real.{real}
use Rattle.store.specs.declared.Finished.{Finished}
use Rattle.store.specs.declared.Finished.TheVariants as finished
use Rattle.requests.specs.Request.{RequestResult, request_of}
use Rattle.keeping.specs.Table.{Table, plain_answer, plain_buffer, plain_table}
use Rattle.promises.specs.Stores.{ours, Start, Request, Accepted}
use Rattle.promises.specs.Trees.{TreeState, asking, serving, turn, TreeReached}

-- a request in a state, with a path and a record lent for it: the lent record is what a write writes, and where a read's record goes
abbrev pub request_for : TreeState → List ℕ → List ℕ → Kind → ℕ → ℕ → RequestResult
request_for ts path buffer kind id leaf = request_of ts.state.desk ts.tree path buffer kind id leaf

abbrev pub as_request : Kind → ℕ → ℕ → List ℕ → Request
as_request kind id leaf buffer = record { kind = kind; id = id; leaf = leaf; content = buffer }

-- the two turns that it stands for
abbrev pub two_turns : Start → TreeState → List ℕ → List ℕ → Kind → ℕ → ℕ → TreeState
two_turns b ts path buffer kind id leaf =
    turn (ours real) b.sizes (turn (ours real) b.sizes ts (asking (as_request kind id leaf buffer))) (serving path buffer)

-- the plain table after a request whose finish answered so: a refused one leaves it
abbrev pub table_as : Result Finished Refusal → Kind → ℕ → List ℕ → Table → Table
table_as (Ok finished.Record) kind id content table = plain_table kind id content table
table_as (Ok finished.Never) kind id content table = plain_table kind id content table
table_as (Ok finished.Done) kind id content table = plain_table kind id content table
table_as (Err q) kind id content table = table

-- what it comes to, where it asked for leaf p and its finish answered f
pub record AsTurns (b : Start) (ts : TreeState) (path buffer : List ℕ) (kind : Kind) (id leaf p : ℕ) (f : Result Finished Refusal) : Type 0 where
  -- the leaf is the one last drawn for the id
  pub shows : p ≡ ts.state.drawn id
  -- the path from the tree is never Forged; an accepted finish answers as the plain table does, and the record buffer holds what the table's would
  pub never_forged : f ≢ Err Forged
  pub plain : Accepted f → (f ≡ Ok (plain_answer kind (ts.state.table id))) × ((request_for ts path buffer kind id leaf).buffer ≡ plain_buffer kind (ts.state.table id) buffer)
  -- the state between the two turns is reached, so that demand 2 says of it when the finish is Worn or Full
  pub middle : TreeReached (ours real) b (turn (ours real) b.sizes ts (asking (as_request kind id leaf buffer)))
  -- desk and tree are those after the two turns, so that demand 2 goes on from there
  pub desk : (request_for ts path buffer kind id leaf).desk ≡ (two_turns b ts path buffer kind id leaf).state.desk
  pub tree : (request_for ts path buffer kind id leaf).tree ≡ (two_turns b ts path buffer kind id leaf).tree
  pub reached : TreeReached (ours real) b (two_turns b ts path buffer kind id leaf)
  -- and so is the table
  pub table : (two_turns b ts path buffer kind id leaf).state.table ≡ table_as f kind id buffer ts.state.table

pub record WholeRequests : Type 0 where
  -- a refusal before anything was asked for changes nothing
  pub refuses : (desk tree path buffer : List ℕ) (kind : Kind) (id leaf : ℕ) (q : Refusal)
      → (request_of desk tree path buffer kind id leaf).answer ≡ Err q
      → ((request_of desk tree path buffer kind id leaf).desk ≡ desk) × ((request_of desk tree path buffer kind id leaf).tree ≡ tree)
      × ((request_of desk tree path buffer kind id leaf).path ≡ path) × ((request_of desk tree path buffer kind id leaf).buffer ≡ buffer)
  pub as_turns : (b : Start) → b.room < 256 → (ts : TreeState) → TreeReached (ours real) b ts → (path buffer : List ℕ) (kind : Kind) (id leaf p : ℕ) (f : Result Finished Refusal)
      → (request_for ts path buffer kind id leaf).answer ≡ Ok (p, f) → AsTurns b ts path buffer kind id leaf p f
