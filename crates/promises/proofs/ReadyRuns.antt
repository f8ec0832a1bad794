-- A run of requests over a server that returns what was last written, from a ready desk: a request goes on to a ready desk, or ends the run as Worn, or as
-- Full, which a stash with room for every id never does. Assumes nothing.
use Rattle.std.specs.Prelude.{Err, Ok, Result}
use Prim.Native.Nat.{ℕ, ◌+◌, ◌<◌, ◌≤◌}
use mathlib.Core.Path.{◌≡◌, refl, sym, ap, subst₂, ◌∙◌}
use mathlib.Core.Logic.{◌⊎◌, inl, inr, ⊎_elim}
use mathlib.Core.List.{List}
use native.Mathlib.Omega.{arith}
use lib.ListN.{length}
use Rattle.words.specs.Bytes.{zeros}
use Rattle.words.proofs.Splice.{length-zeros}
use Rattle.sizes.specs.declared.Refusal.{Refusal}
use Rattle.sizes.specs.declared.Refusal.TheVariants.{Worn, Full}
use Rattle.sizes.specs.Sizes.{record_len, leaves, path_len}
use Rattle.sizes.proofs.Rows.{not-refused}
use Rattle.desk.specs.declared.Kind.{Kind}
use Rattle.desk.specs.Readers.{sizes_of, status_of}
use Rattle.desk.specs.Status.{ready_status}
use Rattle.items.specs.Real.{real}
use Rattle.items.proofs.Sound.{real-sound}
use Rattle.store.specs.declared.Finished.{Finished}
use Rattle.store.specs.declared.Finished.TheVariants as finished
use Rattle.requests.specs.Request.{RequestResult, request_of}
use Rattle.book.specs.MatrixRow.{row_checked}
use Rattle.book.proofs.Passed.{row-passed}
use Rattle.passing.specs.Passing.{finished_outcome, outcome_of}
use Rattle.promises.specs.Stores.{ours, Start, Accepted}
use Rattle.promises.specs.Trees.{TreeState, TreeReached}
use Rattle.promises.specs.Requests.{request_for, two_turns, AsTurns}
use Rattle.promises.proofs.Answers.{accept-record, accept-never, accept-done}
use Rattle.promises.proofs.Trees.{demand-two-tree}
use Rattle.promises.proofs.Requests.{as_turns}
use Rattle.promises.proofs.HonestRequests.{finish-refused}
use Rattle.promises.proofs.ReadyRequests as request
use Rattle.promises.proofs.ReadyRequests.{Fit, Ends}

finish-done : (f : Result Finished Refusal) → finished_outcome f ≡ Ok tt → Accepted f
finish-done (Ok finished.Record) h = accept-record
finish-done (Ok finished.Never) h = accept-never
finish-done (Ok finished.Done) h = accept-done
finish-done (Err q) h = absurd (not-refused q h)

module _ (b : Start) (byte : b.room < 256) where
  -- where it stands: a ready desk that is reached, and a path of the right length
  pub record Goes (desk tree path : List ℕ) : Type 0 where
    pub at : TreeState
    pub reached : TreeReached (ours real) b at
    pub desk_is : desk ≡ at.state.desk
    pub tree_is : tree ≡ at.tree
    pub ready : status_of at.state.desk ≡ ready_status
    pub path_length : length path ≡ path_len b.sizes

  -- a request goes on, or ends the run in one of the ways
  pub record RequestEnds (r : RequestResult) : Type 0 where
    pub goes : outcome_of r.answer ≡ Ok tt → Goes r.desk r.tree r.path × (length r.buffer ≡ record_len)
    pub ends : (q : Refusal) → outcome_of r.answer ≡ Err q → Ends b q

  module _ (kind : Kind) (id x : ℕ) (path buffer : List ℕ) where
    request-at : (ts : TreeState) → TreeReached (ours real) b ts → Fit b ts path buffer id x → RequestEnds (request_for ts path buffer kind id x)
    request-at ts reached w =
        let p = ts.state.drawn id in
        let f = request.fin b byte ts reached path buffer kind id x w in
        let e = request.request-is b byte ts reached path buffer kind id x w in
        let k : outcome_of (request_for ts path buffer kind id x).answer ≡ finished_outcome f.answer = ap (λ (z : RequestResult). outcome_of z.answer) e in
        let t : AsTurns b ts path buffer kind id x p f.answer =
        as_turns b byte ts reached path buffer kind id x p (request.asks b byte ts reached path buffer kind id x w) in
        record {
          goes =
              λ h.
              let a = finish-done f.answer (sym k ∙ h) in (
                record {
                  at = two_turns b ts path buffer kind id x;
                  reached = t.reached;
                  desk_is = t.desk;
                  tree_is = t.tree;
                  ready =
                      ap status_of (sym t.desk) ∙ ap (λ (z : RequestResult). status_of z.desk) e ∙ request.ready-again b byte ts reached path buffer kind id x w a;
                  path_length = ap (λ (z : RequestResult). length z.path) e ∙ request.path-again b byte ts reached path buffer kind id x w a;
                },
                ap (λ (z : RequestResult). length z.buffer) e ∙ request.buffer-again b byte ts reached path buffer kind id x w a,
              );
          ends = λ q h. request.ends b byte ts reached path buffer kind id x w q (finish-refused f.answer q (sym k ∙ h));
        }

    pub request-ends : (desk tree : List ℕ) → Goes desk tree path → length buffer ≡ record_len → 1 ≤ id → id ≤ b.ids → x < leaves b.sizes
        → RequestEnds (request_of desk tree path buffer kind id x)
    request-ends desk tree g long low high leaf =
        subst₂ (λ (d t : List ℕ). RequestEnds (request_of d t path buffer kind id x)) (sym g.desk_is) (sym g.tree_is)
        (request-at g.at g.reached
        (record { ready = g.ready; low = low; high = high; leaf = leaf; path_length = g.path_length; buffer_length = long }))

  -- where it begins: at a ready desk, with a path of zeros
  pub begins : (ts : TreeState) → TreeReached (ours real) b ts → status_of ts.state.desk ≡ ready_status
      → Goes ts.state.desk ts.tree (zeros (path_len (sizes_of ts.state.desk)))
  begins ts reached ready =
      record {
        at = ts;
        reached = reached;
        desk_is = refl;
        tree_is = refl;
        ready = ready;
        path_length =
            length-zeros (path_len (sizes_of ts.state.desk)) ∙ ap path_len (demand-two-tree real real-sound b byte ts reached).kept.sizes;
      }

  -- the ids of a range that is not refused
  pub range-high : (ts : TreeState) → TreeReached (ours real) b ts → (first end : ℕ) (draws : List ℕ) → row_checked ts.state.desk ts.tree first end draws ≡ Ok tt
      → first + length draws ≤ b.ids + 1
  range-high ts reached first end draws e =
      let w = row-passed e in
      omega (arith, w.range.rising, w.range.high, w.draws_length, (demand-two-tree real real-sound b byte ts reached).kept.ids)

-- ---- what the ways are

pub worn-or-full : (b : Start) (q : Refusal) → Ends b q → (q ≡ Worn) ⊎ (q ≡ Full)
worn-or-full b q = ⊎_elim inl (λ u. inr u.0)

pub worn-alone : (b : Start) (q : Refusal) → b.ids ≤ b.room → Ends b q → q ≡ Worn
worn-alone b q roomy = ⊎_elim (λ e. e) (λ u. absurd (omega (arith, u.1)))
