-- One whole request against a lent tree: ask, fetch, finish, put; what it answers and what the four buffers then hold, on every input. Assumes nothing.
use Rattle.sizes.specs.declared.Refusal.{Refusal}
use Rattle.std.specs.Prelude.{ℕ, Bool, true, false, List, [], ◌∷◌, Err, Ok, Result, is_err}
use Rattle.sizes.specs.declared.Sizes.{Sizes}
use Rattle.sizes.specs.Refusals.{number_of}
use Rattle.desk.specs.declared.Kind.{Kind}
use Rattle.desk.specs.Readers.{sizes_of}
use Rattle.tree.specs.Tree.{fetch_of, put_of}
use Rattle.asks.specs.Ask.{ask_of}
use Rattle.items.specs.Real.{real}
use Rattle.store.specs.declared.Finished.{Finished}
use Rattle.store.specs.Finish.{FinishResult, finish_of, finished_value}

-- a refusal before anything was asked, or the leaf asked for and what came of it
abbrev pub Answered : Type 0
Answered = Result (ℕ × Result Finished Refusal) Refusal

pub record RequestResult : Type 0 where
  pub answer : Answered
  pub desk : List ℕ
  pub tree : List ℕ
  pub path : List ℕ
  pub buffer : List ℕ

abbrev pub requested : Answered → List ℕ → List ℕ → List ℕ → List ℕ → RequestResult
requested a d t p b = record { answer = a; desk = d; tree = t; path = p; buffer = b }

-- put where the finish was accepted: a refused one has written no path
abbrev pub put_unless : Bool → List ℕ → List ℕ → List ℕ
put_unless true tree new = tree
put_unless false tree new = new

abbrev pub returned : Sizes → ℕ → List ℕ → FinishResult → RequestResult
returned s leaf tree f =
    requested
    (Ok (leaf, f.answer))
    f.desk
    (put_unless (is_err f.answer) tree (put_of s leaf tree f.path).tree)
    f.path
    f.buffer

-- finish over the path that was fetched; where fetch is refused, nothing more is done and the request stays open
abbrev pub finished_by : Result Unit Refusal → Sizes → ℕ → List ℕ → List ℕ → List ℕ → List ℕ → RequestResult
finished_by (Err r) s leaf desk tree path buffer = requested (Ok (leaf, Err r)) desk tree path buffer
finished_by (Ok tt) s leaf desk tree path buffer = returned s leaf tree (finish_of real desk path buffer)

abbrev pub fetched_for : Sizes → ℕ → List ℕ → List ℕ → List ℕ → List ℕ → RequestResult
fetched_for s leaf desk tree path buffer = finished_by (fetch_of s leaf tree path).answer s leaf desk tree (fetch_of s leaf tree path).path buffer

abbrev pub asked_for : Result ℕ Refusal → List ℕ → List ℕ → List ℕ → List ℕ → RequestResult
asked_for (Err r) desk tree path buffer = requested (Err r) desk tree path buffer
asked_for (Ok leaf) desk tree path buffer = fetched_for (sizes_of desk) leaf desk tree path buffer

-- the lent record is what a write writes, and where a read's record goes
abbrev pub request_of : List ℕ → List ℕ → List ℕ → List ℕ → Kind → ℕ → ℕ → RequestResult
request_of desk tree path buffer kind id leaf =
    asked_for (ask_of desk kind id leaf buffer).answer (ask_of desk kind id leaf buffer).desk tree path buffer

-- each answer's number in the paper, 0 where nothing is refused, and its values: the leaf, if one was asked for
abbrev pub answered_value : Answered → ℕ × List ℕ
answered_value (Err r) = (number_of r, [])
answered_value (Ok (leaf, f)) = ((finished_value f).0, leaf ∷ [])
