-- Demand 3: what is shown does not depend on what is asked for. Two lists of ids of one length show the same leaves, once the draws are rearranged by
-- the ids alone. Assumes nothing.
use Rattle.sizes.specs.declared.Refusal.{Refusal}
use Rattle.std.specs.Prelude.{ℕ, pred, ◌+◌, ◌<◌, ◌≡◌, ◌≢◌, length, get_or, take, drop, Err, Result, Ok}
use mathlib.Core.List.{List, [], ◌∷◌, Permᴰ}
use Rattle.desk.specs.declared.Kind.{Kind}
use Rattle.draws.specs.Draws.{AllGood, leaves_shown, last_drawn, from, indices, unshown, rearrange, rearranged}
use Rattle.store.specs.declared.Finished.{Finished}
use Rattle.store.specs.declared.Finished.TheVariants as finished
use Rattle.store.specs.Finish.{FinishResult}
use Rattle.promises.specs.Stores.{Store, Start, format_for}

-- what stands around a request beside its id and its draw: kind, record, the path handed back (any bytes), the record buffer
pub record Around : Type 0 where
  pub kind : Kind
  pub content : List ℕ
  pub path : List ℕ
  pub buffer : List ℕ

-- the desk as the ask leaves it, and the finish of that request
abbrev pub asked_desk : Store → List ℕ → ℕ → ℕ → Around → List ℕ
asked_desk store desk u x e = (store.ask desk e.kind u x e.content).desk

abbrev pub finish_then : Store → List ℕ → ℕ → ℕ → Around → FinishResult
finish_then store desk u x e = store.finish (asked_desk store desk u x e) e.path e.buffer

-- a run ends at its first refusal
abbrev pub shown_if : Result ℕ Refusal → (ℕ → List ℕ) → List ℕ
shown_if (Ok p) more = more p
shown_if (Err q) more = []

abbrev pub go_on : Result Finished Refusal → List ℕ → List ℕ
go_on (Ok finished.Record) more = more
go_on (Ok finished.Never) more = more
go_on (Ok finished.Done) more = more
go_on (Err q) more = []

-- the leaves that a run shows: from a desk, for ids, with a draw for each, in these surroundings. Each request is an ask, whose answer is shown, and
-- a finish
unfoldable pub shows : Store → List ℕ → List ℕ → List ℕ → List Around → List ℕ
shows store desk [] xs es = []
shows store desk (u ∷ us) [] es = []
shows store desk (u ∷ us) (x ∷ xs) [] = []
shows store desk (u ∷ us) (x ∷ xs) (e ∷ es) =
    shown_if (store.ask desk e.kind u x e.content).answer
    (λ p. p ∷ go_on (finish_then store desk u x e).answer (shows store (finish_then store desk u x e).desk us xs es))

-- a run from format with these draws: the first n are the starting leaves, the others go to the requests. Key, sizes, stash room (a byte), the lent desk
-- and the surroundings are its own
pub record Run (n : ℕ) (draws : List ℕ) : Type 0 where
  pub start : Start
  pub ids : start.ids ≡ n
  pub byte : start.room < 256
  pub starts : start.starts ≡ take n draws
  pub lent : List ℕ
  pub formats : (format_for start lent).answer ≡ Ok tt
  pub around : List Around

abbrev pub leaves_of : Store → (n : ℕ) (us draws : List ℕ) → Run n draws → List ℕ
leaves_of store n us draws r = shows store (format_for r.start r.lent).desk us (drop n draws) r.around

-- for two lists of ids there is a rearrangement of the draws' numbers, by N and the ids alone, under which, whatever the draws are and whatever
-- stands around the requests, both runs show the same leaf at each request that both reach
abbrev pub DemandThree : Store → Store → Type 0
DemandThree store store' = (n : ℕ) (us vs : List ℕ) → length us ≡ length vs → AllGood n us → AllGood n vs
    → Permᴰ (rearrange n us vs) (from 0 (n + length us))
    × ((draws : List ℕ) → length draws ≡ n + length us → (r : Run n draws) (r' : Run n (rearranged draws (rearrange n us vs)))
    → (j : ℕ) → j < length (leaves_of store n us draws r) → j < length (leaves_of store' n vs (rearranged draws (rearrange n us vs)) r')
    → get_or (leaves_of store n us draws r) j 0 ≡ get_or (leaves_of store' n vs (rearranged draws (rearrange n us vs)) r') j 0)

-- the rearrangement takes the draws shown to the draws shown, in their order, and the others to the others, which keep their order too
abbrev pub InOrder : Type 0
InOrder = (n : ℕ) (us vs : List ℕ) → length us ≡ length vs → AllGood n us → AllGood n vs
    → (rearranged (rearrange n us vs) (indices n vs) ≡ indices n us) × (rearranged (rearrange n us vs) (unshown n vs) ≡ unshown n us)

-- each leaf of a run is the one that the ids and the draws alone give: `leaves_shown` is what the worked figures compute
abbrev pub ShownByDraws : Store → Type 0
ShownByDraws store = (n : ℕ) (us draws : List ℕ) → AllGood n us → (r : Run n draws)
    → (j : ℕ) → j < length (leaves_of store n us draws r) → get_or (leaves_of store n us draws r) j 0 ≡ get_or (leaves_shown n us draws) j 0

-- no draw is shown twice: leaf j of a run is the draw whose number the ids alone decide, and these numbers differ
abbrev pub ShownOnce : Store → Type 0
ShownOnce store = (n : ℕ) (us draws : List ℕ) → AllGood n us → length draws ≡ n + length us → (r : Run n draws)
    → ((j : ℕ) → j < length (leaves_of store n us draws r) → get_or (leaves_of store n us draws r) j 0 ≡ get_or draws (get_or (indices n us) j 0) 0)
    × ((i j : ℕ) → i < j → j < length (indices n us) → get_or (indices n us) i 0 ≢ get_or (indices n us) j 0)

-- and it is the leaf last drawn for the id that was asked for
abbrev pub ShownLast : Store → Type 0
ShownLast store = (n : ℕ) (us draws : List ℕ) → AllGood n us → length draws ≡ n + length us → (r : Run n draws)
    → (j : ℕ) → j < length (leaves_of store n us draws r)
    → get_or (leaves_of store n us draws r) j 0 ≡ last_drawn (get_or draws (pred (get_or us j 0)) 0) (get_or us j 0) (take j us) (take j (drop n draws))
