-- One request of any kind over a server that returns what was last written: it leaves the table as a plain table's request does, and the buffer holds
-- what the table's would. Assumes nothing.
use Rattle.std.specs.Prelude.{Err, Ok, Result}
use Prim.Native.Nat.{ℕ, ◌<◌}
use mathlib.Core.Path.{◌≡◌, refl, sym, ap, subst, subst₂, ◌∙◌}
use mathlib.Core.Logic.{◌≢◌}
use mathlib.Core.Bool.{cond}
use mathlib.Core.Option.{Option, none, some}
use mathlib.Core.List.{List}
use native.Mathlib.Omega.{arith}
use lib.ListN.{length}
use lib.Dec.{eqb, lit<}
use Rattle.sizes.specs.declared.Refusal.{Refusal}
use Rattle.sizes.specs.declared.Refusal.TheVariants.{Forged}
use Rattle.sizes.specs.Sizes.{record_len}
use Rattle.sizes.specs.Refusals.{number_of}
use Rattle.desk.specs.declared.Kind.{Kind}
use Rattle.desk.specs.declared.Kind.TheVariants.{Read, Write}
use Rattle.desk.specs.Readers.{position_of}
use Rattle.items.specs.Real.{real}
use Rattle.items.proofs.Sound.{real-sound}
use Rattle.asks.specs.Ask.{ask_rows, ask_checked, ask_of}
use Rattle.store.specs.declared.Finished.{Finished}
use Rattle.store.specs.declared.Finished.TheVariants as finished
use Rattle.requests.specs.Request.{Answered}
use Rattle.requests.specs.Request.{RequestResult, request_of}
use Rattle.keeping.specs.Table.{Table, plain_answer, plain_buffer, plain_held}
use Rattle.passing.specs.Passing.{finished_outcome, outcome_of}
use Rattle.promises.specs.Stores.{ours, Start, Accepted}
use Rattle.promises.specs.Trees.{TreeState, TreeReached}
use Rattle.promises.specs.Requests.{two_turns, request_for, table_as, AsTurns}
use Rattle.promises.proofs.Answers.{asked-refused}
use Rattle.promises.proofs.Rows.{low-refusal}
use Rattle.promises.proofs.Trees.{reached-both}
use Rattle.promises.proofs.RequestAnswers.{was-refused}
use Rattle.promises.proofs.Requests.{whole-requests}

-- ---- desk and tree are those of a state that is reached, and its table is this one

pub record Stands (b : Start) (table : Table) (desk tree : List ℕ) : Type 0 where
  pub at : TreeState
  pub reached : TreeReached (ours real) b at
  pub desk_is : desk ≡ at.state.desk
  pub tree_is : tree ≡ at.tree
  pub table_is : (id : ℕ) → at.state.table id ≡ table id

pub stands-as : (b : Start) (table table' : Table) (desk tree : List ℕ) → ((u : ℕ) → table u ≡ table' u) → Stands b table desk tree → Stands b table' desk tree
stands-as b table table' desk tree e s =
    record { at = s.at; reached = s.reached; desk_is = s.desk_is; tree_is = s.tree_is; table_is = λ u. s.table_is u ∙ e u }

pub here : (b : Start) (ts : TreeState) → TreeReached (ours real) b ts → Stands b ts.state.table ts.state.desk ts.tree
here b ts reached = record { at = ts; reached = reached; desk_is = refl; tree_is = refl; table_is = λ u. refl }

-- what such a table holds are records
pub held-long : (b : Start) → b.room < 256 → (ts : TreeState) → TreeReached (ours real) b ts → (u : ℕ) (rec : List ℕ) → ts.state.table u ≡ some rec
    → length rec ≡ record_len
held-long b byte ts reached u rec e = (reached-both real real-sound b byte ts reached).stands.inv.sizes u rec e

-- so is what a request hands back
pub buffer-long : (kind : Kind) (held : Option (List ℕ)) (buffer : List ℕ) → length buffer ≡ record_len → ((rec : List ℕ) → held ≡ some rec → length rec ≡ record_len)
    → length (plain_buffer kind held buffer) ≡ record_len
buffer-long Read none buffer l h = l
buffer-long Read (some rec) buffer l h = h rec refl
buffer-long Write held buffer l h = l

-- ---- the table after a request, by its answer

abbrev pub table_by : Answered → Kind → ℕ → List ℕ → Table → Table
table_by (Err q) kind id content table = table
table_by (Ok (p, f)) kind id content table = table_as f kind id content table

as_same : (f : Result Finished Refusal) (kind : Kind) (id : ℕ) (content : List ℕ) (table table' : Table) (u : ℕ) → table u ≡ table' u
    → table_as f kind id content table u ≡ table_as f kind id content table' u
as_same (Ok finished.Record) kind id content table table' u e = ap (λ (h : Option (List ℕ)). cond (eqb u id) (plain_held kind h content) h) e
as_same (Ok finished.Never) kind id content table table' u e = ap (λ (h : Option (List ℕ)). cond (eqb u id) (plain_held kind h content) h) e
as_same (Ok finished.Done) kind id content table table' u e = ap (λ (h : Option (List ℕ)). cond (eqb u id) (plain_held kind h content) h) e
as_same (Err q) kind id content table table' u e = e

-- ---- no refusal before a finish is Forged

pub not_low : (q : Refusal) → number_of q < 9 → q ≢ Forged
not_low q l e = omega (arith, ap number_of e)

ask-low : (desk : List ℕ) (kind : Kind) (id leaf : ℕ) (buffer : List ℕ) (q : Refusal) → (ask_of desk kind id leaf buffer).answer ≡ Err q → q ≢ Forged
unfolding ask_checked
ask-low desk kind id leaf buffer q h =
    not_low q
    (low-refusal (ask_rows desk kind id leaf buffer) (lit< tt, (lit< tt, (lit< tt, (lit< tt, (lit< tt, (lit< tt, tt)))))) q
    (asked-refused (ask_checked desk kind id leaf buffer) (position_of desk id) q h))

pub same-refusal : (p q : Refusal) → ◌≡◌ {A = Result Unit Refusal} (Err p) (Err q) → p ≡ q
same-refusal p q h = cc

pub finish-refused : (f : Result Finished Refusal) (q : Refusal) → finished_outcome f ≡ Err q → f ≡ Err q
finish-refused (Ok finished.Record) q h = let z : ◌≡◌ {A = ℕ} 0 1 = cc in absurd (omega arith)
finish-refused (Ok finished.Never) q h = let z : ◌≡◌ {A = ℕ} 0 1 = cc in absurd (omega arith)
finish-refused (Ok finished.Done) q h = let z : ◌≡◌ {A = ℕ} 0 1 = cc in absurd (omega arith)
finish-refused (Err r) q h = ap Err (same-refusal r q h)

-- ---- one request

-- an accepted finish answers as the plain table does, and the buffer holds what the table's would
abbrev pub Plain : Answered → Kind → Option (List ℕ) → List ℕ → List ℕ → Type 0
Plain (Err q) kind held buffer now = Unit {0}
Plain (Ok (p, f)) kind held buffer now = Accepted f → (f ≡ Ok (plain_answer kind held)) × (now ≡ plain_buffer kind held buffer)

pub record RequestIs (b : Start) (table : Table) (kind : Kind) (id : ℕ) (buffer : List ℕ) (a : Answered) (desk tree now : List ℕ) : Type 0 where
  pub stands : Stands b (table_by a kind id buffer table) desk tree
  pub plain : Plain a kind (table id) buffer now
  pub not_forged : outcome_of a ≢ Err Forged

module _ (b : Start) (byte : b.room < 256) (table : Table) (kind : Kind) (id x : ℕ) (path buffer : List ℕ) where
  abbrev Is : RequestResult → Type 0
  Is r = RequestIs b table kind id buffer r.answer r.desk r.tree r.buffer

  module _ (ts : TreeState) (reached : TreeReached (ours real) b ts) (same : (u : ℕ) → ts.state.table u ≡ table u) where
    abbrev r : RequestResult
    r = request_for ts path buffer kind id x

    request-by : (a : Answered) → r.answer ≡ a → RequestIs b table kind id buffer a r.desk r.tree r.buffer
    request-by (Err q) e =
        let w = whole-requests.refuses ts.state.desk ts.tree path buffer kind id x q e in
        record {
          stands = record { at = ts; reached = reached; desk_is = w.0; tree_is = w.1; table_is = same };
          plain = tt;
          not_forged = λ h.
              ask-low ts.state.desk kind id x buffer q (was-refused ts.state.desk ts.tree path buffer kind id x q e) (same-refusal q Forged h);
        }
    request-by (Ok (p, f)) e =
        let w : AsTurns b ts path buffer kind id x p f = whole-requests.as_turns b byte ts reached path buffer kind id x p f e in
        record {
          stands =
              record {
                at = two_turns b ts path buffer kind id x;
                reached = w.reached;
                desk_is = w.desk;
                tree_is = w.tree;
                table_is = λ u. ap (λ (t : Table). t u) w.table ∙ as_same f kind id buffer ts.state.table table u (same u);
              };
          plain = subst (λ (held : Option (List ℕ)). Plain (Ok (p, f)) kind held buffer r.buffer) (same id) w.plain;
          not_forged = λ h. w.never_forged (finish-refused f Forged h);
        }

  pub request-is : (desk tree : List ℕ) → Stands b table desk tree → Is (request_of desk tree path buffer kind id x)
  request-is desk tree s =
      subst₂ (λ (d t : List ℕ). Is (request_of d t path buffer kind id x)) (sym s.desk_is) (sym s.tree_is)
      (request-by s.at s.reached s.table_is (request_for s.at path buffer kind id x).answer refl)
