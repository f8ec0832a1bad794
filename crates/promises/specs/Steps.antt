-- A desk from format that only asks and finishes change, and beside it a member's own book of it. Assumes nothing.
use Rattle.sizes.specs.declared.Refusal.{Refusal}
use Rattle.std.specs.Prelude.{ℕ, ◌-◌, ◌≡◌, cond, List, [], ◌∷◌, get_or, eqb, Err, Result, Ok}
use Rattle.std.proofs.Math.Option.{Option, none, some}
use Rattle.sizes.specs.declared.Sizes.{Sizes}
use Rattle.opening.specs.Opening.{view_of}
use Rattle.asks.specs.Ask.{AskResult}
use Rattle.store.specs.declared.Finished.{Finished}
use Rattle.store.specs.declared.Finished.TheVariants as finished
use Rattle.store.specs.Finish.{FinishResult}
use Rattle.keeping.specs.Server.{Server, Returns, Agrees, wrote}
use Rattle.keeping.specs.Table.{Table, plain_table}
use Rattle.promises.specs.Stores.{Store, Start, format_for, Request, Accepted}

-- ---- states: the desk, and the book: what the server was last given, what a plain table holds, the leaf last drawn for each id, the request that
-- is open, and the leaf that was asked for

pub record State : Type 0 where
  pub desk : List ℕ
  pub server : Server
  pub table : Table
  pub drawn : ℕ → ℕ
  pub open_request : Option Request
  pub asked_leaf : ℕ

-- after format: nothing written, nothing held, the starting leaves drawn, nothing asked
abbrev pub begin : Start → List ℕ → State
begin b lent =
    record {
      desk = (format_for b lent).desk;
      server = λ k j. none;
      table = λ id. none;
      drawn = λ id. get_or b.starts (id - 1) 0;
      open_request = none;
      asked_leaf = 0;
    }

-- ---- events: an ask, or a finish with a path that was handed back and a record buffer

pub data Event : Type 0 where
  asks : Request → Event
  finishes : List ℕ → List ℕ → Event

abbrev pub ask_for : Store → State → Request → AskResult
ask_for store st r = store.ask st.desk r.kind r.id r.leaf r.content

abbrev pub finish_for : Store → State → List ℕ → List ℕ → FinishResult
finish_for store st path buffer = store.finish st.desk path buffer

-- the state with another desk, all else as it was: what a refusal leaves. A write that ends as Worn or Full is not in the table, and its path is not
-- written: the store has stopped
abbrev pub only_desk : State → List ℕ → State
only_desk st desk =
    record {
      desk = desk;
      server = st.server;
      table = st.table;
      drawn = st.drawn;
      open_request = st.open_request;
      asked_leaf = st.asked_leaf;
    }

-- an accepted ask opens the request: its draw is the id's last from now on
abbrev pub after_ask : State → Request → Result ℕ Refusal → List ℕ → State
after_ask st r (Ok p) desk =
    record {
      desk = desk;
      server = st.server;
      table = st.table;
      drawn = λ id. cond (eqb id r.id) r.leaf (st.drawn id);
      open_request = some r;
      asked_leaf = p;
    }
after_ask st r (Err q) desk = only_desk st desk

-- an accepted finish closes it: the path is written, and the table changes as a plain table does
abbrev pub table_done : Option Request → Table → Table
table_done none table = table
table_done (some r) table = plain_table r.kind r.id r.content table

abbrev pub accepted : Sizes → State → FinishResult → State
accepted s st f =
    record {
      desk = f.desk;
      server = wrote s st.asked_leaf f.path st.server;
      table = table_done st.open_request st.table;
      drawn = st.drawn;
      open_request = none;
      asked_leaf = st.asked_leaf;
    }

abbrev pub after_finish : Sizes → State → Result Finished Refusal → FinishResult → State
after_finish s st (Ok finished.Record) f = accepted s st f
after_finish s st (Ok finished.Never) f = accepted s st f
after_finish s st (Ok finished.Done) f = accepted s st f
after_finish s st (Err q) f = only_desk st f.desk

abbrev pub after : Store → Sizes → State → Event → State
after store s st (asks r) = after_ask st r (ask_for store st r).answer (ask_for store st r).desk
after store s st (finishes path buffer) = after_finish s st (finish_for store st path buffer).answer (finish_for store st path buffer)

abbrev pub run : Store → Sizes → State → List Event → State
run store s st [] = st
run store s st (e ∷ es) = run store s (after store s st e) es

-- ---- which paths may be handed back in a state

abbrev pub Hands : Type 1
Hands = State → List ℕ → Type 0

-- by an honest server: what was last written
abbrev pub returned : Start → Hands
returned b st path = Returns b.sizes st.server st.asked_leaf path

-- by any server whose path agrees, where it is reachable, with what was last written
abbrev pub agreeing : Hands
agreeing st path = Agrees (view_of st.desk) st.server path

-- each path that finish accepts is such a one. Of a path that it refuses nothing is asked: that changes at most the status
abbrev pub Fair : Hands → Store → State → Event → Type 0
Fair hands store st (asks r) = Unit {0}
Fair hands store st (finishes path buffer) = Accepted (finish_for store st path buffer).answer → hands st path

abbrev pub AllFair : Hands → Store → Sizes → State → List Event → Type 0
AllFair hands store s st [] = Unit {0}
AllFair hands store s st (e ∷ es) = Fair hands store st e × AllFair hands store s (after store s st e) es

-- ---- the states that a formatted desk gets to, over any asks and finishes, refused or not

pub record Reached (store : Store) (b : Start) (hands : Hands) (st : State) : Type 0 where
  pub lent : List ℕ
  pub formats : (format_for b lent).answer ≡ Ok tt
  pub events : List Event
  pub fair : AllFair hands store b.sizes (begin b lent) events
  pub here : run store b.sizes (begin b lent) events ≡ st
