-- The first request on a fresh store, of any kind, is accepted, and answers as an empty table does. Assumes nothing.
use Rattle.sizes.specs.declared.Refusal.{Refusal}
use Rattle.store.specs.declared.Finished.{Finished}
use Rattle.std.specs.Prelude.{Ok, Result}
use Prim.Native.Nat.{ℕ, ◌+◌, ◌-◌, ◌<◌, ◌≤◌}
use mathlib.Core.Path.{◌≡◌, refl, sym, ap, subst, ◌∙◌}
use mathlib.Core.Option.{none}
use mathlib.Core.List.{List, [], ◌∷◌}
use native.Mathlib.Omega.{arith}
use lib.ListN.{length}
use borrow.Author.Tests.{eq-eqb, le-leb, lt-ltb}
use Rattle.words.specs.Bytes.{zeros}
use Rattle.words.proofs.Splice.{length-zeros}
use Rattle.sizes.specs.Sizes.{record_len, leaves, path_len, tree_len}
use Rattle.desk.specs.declared.Kind.{Kind}
use Rattle.desk.specs.Layout.{ids_of}
use Rattle.desk.specs.Readers.{sizes_of}
use Rattle.items.specs.Real.{real}
use Rattle.items.proofs.Sound.{real-sound}
use Rattle.requests.specs.Request.{RequestResult}
use Rattle.keeping.specs.Table.{plain_answer}
use Rattle.book.specs.MatrixRow.{row_checked}
use Rattle.promises.specs.Stores.{ours, Start, format_for, Accepted}
use Rattle.promises.specs.Steps.{begin, finish_for}
use Rattle.promises.specs.DemandTwo.{Kept}
use Rattle.promises.specs.Trees.{TreeState, TreeReached, fetched_by}
use Rattle.promises.specs.Requests.{as_request, request_for}
use Rattle.promises.specs.Exists.{Proper}
use Rattle.promises.proofs.Trees.{demand-two-tree}
use Rattle.promises.proofs.Requests.{one-is}
use Rattle.promises.proofs.ReadyRequests as request
use Rattle.promises.proofs.Exists.{proper-formats, start-ready, exists}

pub one-id : (id : ℕ) → id + 1 - id ≡ 1
one-id id = omega arith

module _ (b : Start) (lent : List ℕ) (p : Proper b lent) (tree : List ℕ) (size : length tree ≡ tree_len b.sizes) where
  abbrev pub desk : List ℕ
  desk = (format_for b lent).desk

  abbrev pub ts : TreeState
  ts = record { state = begin b lent; tree = tree }

  pub reached : TreeReached (ours real) b ts
  reached = record { lent = lent; formats = proper-formats b lent p; tree = tree; size = size; taken = []; here = refl }

  kept : Kept real (ours real) b (fetched_by b ts) ts.state
  kept = (demand-two-tree real real-sound b p.room_byte ts reached).kept

  -- a range of one id is not refused
  pub checked : (id draw : ℕ) → 1 ≤ id → id ≤ b.ids → row_checked desk tree id (id + 1) (draw ∷ []) ≡ Ok tt
  unfolding row_checked
  checked id draw low high =
      let n : id + 1 ≤ ids_of desk + 1 = omega (arith, kept.ids) in
      rw (
        kept.good,
        le-leb 1 id low,
        lt-ltb id (id + 1) (omega arith),
        le-leb (id + 1) (ids_of desk + 1) n,
        one-id id,
        eq-eqb (length tree) (tree_len (sizes_of desk)) (size ∙ ap tree_len (sym kept.sizes)),
      )

  -- the path of a run
  abbrev pub path : List ℕ
  path = zeros (path_len (sizes_of desk))

  module _ (room : 1 ≤ b.room) (kind : Kind) (buffer : List ℕ) (long : length buffer ≡ record_len) (id draw : ℕ) (low : 1 ≤ id) (high : id ≤ b.ids)
      (leaf : draw < leaves b.sizes) where
    fit : request.Fit b ts path buffer id draw
    fit =
        record {
          ready = start-ready real real-sound b lent p;
          low = low;
          high = high;
          leaf = leaf;
          path_length = length-zeros (path_len (sizes_of desk)) ∙ ap path_len kept.sizes;
          buffer_length = long;
        }

    finishes : Accepted (request.fin b p.room_byte ts reached path buffer kind id draw fit).answer
    finishes =
        let byte = p.room_byte in
        let got = request.got b byte ts reached path buffer kind id draw fit in
        subst (λ (z : TreeState). Accepted (finish_for (ours real) z.state got buffer).answer)
        (one-is b byte ts reached path buffer kind id draw (ts.state.drawn id) (request.asks b byte ts reached path buffer kind id draw fit))
        ((exists real real-sound).first_finish b lent p room (as_request kind id draw buffer)
        (record { id_low = low; id_high = high; leaf_low = leaf; fits = request.record-fits kind buffer long }) got buffer
        (request.got-length b byte ts reached path buffer kind id draw fit) long)

    pub first-answer : (request_for ts path buffer kind id draw).answer ≡ Ok (ts.state.drawn id, Ok (plain_answer kind none))
    first-answer =
        let byte = p.room_byte in
        ap (λ (z : RequestResult). z.answer) (request.request-is b byte ts reached path buffer kind id draw fit)
        ∙ ap (λ (f : Result Finished Refusal). Ok (ts.state.drawn id, f))
        ((request.one_kept b byte ts reached path buffer kind id draw fit).plain (request.got b byte ts reached path buffer kind id draw fit) buffer
        (request.handed b byte ts reached path buffer kind id draw fit) finishes (as_request kind id draw buffer) refl).0
