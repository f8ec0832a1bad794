-- One whole request is two turns, in every state that a formatted desk and a tree get to. Assumes nothing.
use Rattle.std.specs.Prelude.{Err, Ok, Result, is_err}
use Rattle.sizes.specs.declared.Refusal.{Refusal}
use Prim.Native.Nat.{ℕ, ◌<◌}
use mathlib.Core.Path.{◌≡◌, refl, sym, ap, ap₂, subst, ◌∙◌}
use mathlib.Core.Logic.{◌≢◌}
use mathlib.Core.Bool.{false}
use mathlib.Core.List.{List, [], ◌∷◌, ◌++◌}
use native.Mathlib.Omega.{arith}
use lib.ListN.{length}
use lib.Dec.{eqb}
use borrow.Author.Tests.{eqb-true, eqb-false, eq-eqb, ne_eqb, lt-leb}
use Rattle.words.proofs.Tests.{by_cases}
use Rattle.sizes.specs.declared.Sizes.{Sizes}
use Rattle.sizes.specs.declared.Refusal.TheVariants.{BadLength, Forged}
use Rattle.sizes.specs.Sizes.{leaves, path_len, tree_len}
use Rattle.sizes.proofs.Lengths.{range-sizes}
use Rattle.desk.specs.declared.Kind.{Kind}
use Rattle.desk.specs.Readers.{sizes_of, status_of}
use Rattle.desk.specs.Status.{open_status}
use Rattle.items.specs.Real.{real}
use Rattle.items.proofs.Sound.{real-sound}
use Rattle.tree.specs.Tree.{tree_checked, fetch_of, put_of}
use Rattle.asks.specs.Ask.{ask_of}
use Rattle.asks.proofs.Opened.{opened-changed}
use Rattle.store.specs.declared.Finished.{Finished}
use Rattle.store.specs.declared.Finished.TheVariants as finished
use Rattle.store.specs.Finish.{FinishResult, finish_of, finish_checked, finish_by}
use Rattle.requests.specs.Request.{Answered, RequestResult, put_unless, returned, finished_by, fetched_for, asked_for}
use Rattle.promises.specs.Stores.{Store, ours, Start, Request}
use Rattle.promises.specs.Steps.{State, begin, after_ask, after_finish}
use Rattle.promises.specs.Trees.{TreeState, Turn, asking, put_if, turn, turns, TreeReached, fetched_by, TreeKept}
use Rattle.promises.specs.Requests.{as_request, two_turns, request_for, table_as, AsTurns, WholeRequests}
use Rattle.promises.proofs.Answers.{asked_leaf}
use Rattle.promises.proofs.RequestAnswers.{refuses, leaf_in, came_in}
use Rattle.promises.proofs.TreeHolds.{fits-checked}
use Rattle.promises.proofs.Trees.{Both, range, leaf_low, reached-both, demand-two-tree}

-- ---- one more turn: what it gets to is reached

module _ (store : Store) (b : Start) where
  turns_more : (ts : TreeState) (ms : List Turn) (t : Turn) → turns store b.sizes ts (ms ++ (t ∷ [])) ≡ turn store b.sizes (turns store b.sizes ts ms) t
  turns_more ts [] t = refl
  turns_more ts (m ∷ ms) t = turns_more (turn store b.sizes ts m) ms t

  reached-turn : (ts : TreeState) → TreeReached store b ts → (t : Turn) → TreeReached store b (turn store b.sizes ts t)
  reached-turn ts r t =
      record {
        lent = r.lent;
        formats = r.formats;
        tree = r.tree;
        size = r.size;
        taken = r.taken ++ (t ∷ []);
        here =
            turns_more (record { state = begin b r.lent; tree = r.tree }) r.taken t ∙ ap (λ (x : TreeState). turn store b.sizes x t) r.here;
      }

-- ---- finish and put, as the state and the request have them

after-desk : (s : Sizes) (st : State) (a : Result Finished Refusal) (f : FinishResult) → (after_finish s st a f).desk ≡ f.desk
after-desk s st (Ok finished.Record) f = refl
after-desk s st (Ok finished.Never) f = refl
after-desk s st (Ok finished.Done) f = refl
after-desk s st (Err q) f = refl

same-put : (a : Result Finished Refusal) (tree new : List ℕ) → put_unless (is_err a) tree new ≡ put_if a new tree
same-put (Ok finished.Record) tree new = refl
same-put (Ok finished.Never) tree new = refl
same-put (Ok finished.Done) tree new = refl
same-put (Err q) tree new = refl

-- ---- a request whose ask answers leaf p, in a reached state

module _ (b : Start) (byte : b.room < 256) (ts : TreeState) (reached : TreeReached (ours real) b ts) (path buffer : List ℕ) (kind : Kind) (id leaf p : ℕ)
    (h : (ask_of ts.state.desk kind id leaf buffer).answer ≡ Ok p) where
  abbrev s : Sizes
  s = b.sizes

  abbrev req : Request
  req = as_request kind id leaf buffer

  abbrev pub d : List ℕ
  d = (ask_of ts.state.desk kind id leaf buffer).desk

  -- the state after the ask
  abbrev pub one : TreeState
  one = record { state = after_ask ts.state req (Ok p) d; tree = ts.tree }

  pub one-is : turn (ours real) s ts (asking req) ≡ one
  one-is = ap (λ (a : Result ℕ Refusal). record { state = after_ask ts.state req a d; tree = ts.tree }) h

  one-reached : TreeReached (ours real) b one
  one-reached = subst (λ (x : TreeState). TreeReached (ours real) b x) one-is (reached-turn (ours real) b ts reached (asking req))

  pub kept : TreeKept real (ours real) b one
  kept = demand-two-tree real real-sound b byte one one-reached

  pub both : Both real real-sound b byte one
  both = reached-both real real-sound b byte one one-reached

  pub open-now : status_of d ≡ open_status
  open-now =
      let l = asked_leaf ts.state.desk kind id leaf buffer p h in
      ap status_of l.after ∙ (opened-changed ts.state.desk kind id leaf buffer l.passed).status

  low : p < leaves s
  low = leaf_low real real-sound b byte one both open-now

  abbrev pub got : List ℕ
  got = (fetch_of s p ts.tree path).path

  abbrev pub f : FinishResult
  f = finish_of real d got buffer

  -- fetch and finish, by the length of the lent path
  fetch-done : length path ≡ path_len s → tree_checked s p ts.tree path ≡ Ok tt
  fetch-done l =
      fits-checked s p ts.tree path
      (record { range = range real real-sound b byte one both; leaf_low = low; tree_length = kept.size; path_length = l })

  module _ (n : length path ≢ path_len s) where
    fetch-short : tree_checked s p ts.tree path ≡ Err BadLength
    unfolding tree_checked
    fetch-short =
        rw (
          range-sizes s (range real real-sound b byte one both),
          lt-leb (leaves s) p low,
          kept.size,
          eq-eqb (tree_len s) (tree_len s) refl,
          ne_eqb (length path) (path_len s) n,
        )

    finish-short : finish_checked real d path buffer ≡ Err BadLength
    unfolding finish_checked
    finish-short =
        let e : eqb (length path) (path_len (sizes_of d)) ≡ false =
        ap (λ (z : Sizes). eqb (length path) (path_len z)) kept.kept.sizes ∙ ne_eqb (length path) (path_len s) n in
        rw (kept.kept.good, open-now, e)

    got-short : got ≡ path
    got-short = rw fetch-short refl

    short-is : f ≡ finish_by (Err BadLength) real d path buffer
    short-is = ap (λ (x : List ℕ). finish_of real d x buffer) got-short ∙ ap (λ (c : Result Unit Refusal). finish_by c real d path buffer) finish-short

  -- the request is the finish over what was fetched, and put
  pub request-is : request_for ts path buffer kind id leaf ≡ returned s p ts.tree f
  request-is =
      ap (λ (a : Result ℕ Refusal). asked_for a d ts.tree path buffer) h
      ∙ ap (λ (z : Sizes). fetched_for z p d ts.tree path buffer) kept.kept.sizes
      ∙ by_cases (eqb (length path) (path_len s))
      (λ e. ap (λ (c : Result Unit Refusal). finished_by c s p d ts.tree got buffer) (fetch-done (eqb-true _ _ e)))
      (λ e.
      let n = eqb-false (length path) (path_len s) e in
      ap₂ (λ (c : Result Unit Refusal) (x : List ℕ). finished_by c s p d ts.tree x buffer) (fetch-short n) (got-short n)
      ∙ sym (ap (returned s p ts.tree) (short-is n)))

  -- a path that was fetched, or one that finish refuses
  handed : (length path ≢ path_len s → ⊥) → fetched_by b one got
  handed n = (path, by_cases (eqb (length path) (path_len s)) (eqb-true (length path) (path_len s)) (λ e. absurd (n (eqb-false (length path) (path_len s) e))), refl)

  table-after : (a : Result Finished Refusal) → (after_finish s one.state a f).table ≡ table_as a kind id buffer ts.state.table
  table-after (Ok finished.Record) = refl
  table-after (Ok finished.Never) = refl
  table-after (Ok finished.Done) = refl
  table-after (Err q) = refl

  pub as_turns : AsTurns b ts path buffer kind id leaf p f.answer
  as_turns =
      let two : two_turns b ts path buffer kind id leaf ≡ turn (ours real) s one (Turn.serving path buffer) =
      ap (λ (x : TreeState). turn (ours real) s x (Turn.serving path buffer)) one-is in
      record {
        shows = (demand-two-tree real real-sound b byte ts reached).kept.shows req p h;
        never_forged =
            λ e.
            kept.kept.never_forged got buffer (handed (λ n. forged n e)) e;
        plain =
            λ a.
            let k = kept.kept.plain got buffer (handed (λ n. a BadLength (ap (λ (x : FinishResult). x.answer) (short-is n)))) a req refl in
            (k.0, ap (λ (x : RequestResult). x.buffer) request-is ∙ k.1);
        middle = reached-turn (ours real) b ts reached (asking req);
        desk = ap (λ (x : RequestResult). x.desk) request-is ∙ sym (ap (λ (x : TreeState). x.state.desk) two ∙ after-desk s one.state f.answer f);
        tree =
            ap (λ (x : RequestResult). x.tree) request-is ∙ same-put f.answer ts.tree (put_of s p ts.tree f.path).tree
            ∙ sym (ap (λ (x : TreeState). x.tree) two);
        reached =
            reached-turn (ours real) b (turn (ours real) s ts (asking req)) (reached-turn (ours real) b ts reached (asking req)) (Turn.serving path buffer);
        table = ap (λ (x : TreeState). x.state.table) two ∙ table-after f.answer;
      }
    where
      forged : length path ≢ path_len s → f.answer ≡ Err Forged → ⊥
      forged n e =
          let k : Err BadLength ≡ Err Forged = sym (ap (λ (x : FinishResult). x.answer) (short-is n)) ∙ e in
          let z : ◌≡◌ {A = ℕ} 0 1 = cc in
          omega arith

-- ---- all of it

asked-only : (b : Start) (byte : b.room < 256) (ts : TreeState) → TreeReached (ours real) b ts → (path buffer : List ℕ) (kind : Kind) (id leaf p : ℕ) (g : Result Finished Refusal)
    → (request_for ts path buffer kind id leaf).answer ≡ Ok (p, g) → AsTurns b ts path buffer kind id leaf p g
asked-only b byte ts r path buffer kind id leaf p g e = go (ask_of ts.state.desk kind id leaf buffer).answer refl
  where
    go : (a : Result ℕ Refusal) → (ask_of ts.state.desk kind id leaf buffer).answer ≡ a → AsTurns b ts path buffer kind id leaf p g
    go (Ok p') h =
        let w : ◌≡◌ {A = Answered} (Ok (p', (f b byte ts r path buffer kind id leaf p' h).answer)) (Ok (p, g)) =
        sym (ap (λ (x : RequestResult). x.answer) (request-is b byte ts r path buffer kind id leaf p' h)) ∙ e in
        let i : p' ≡ p = ap leaf_in w in
        let j : (f b byte ts r path buffer kind id leaf p' h).answer ≡ g = ap came_in w in
        subst (λ (x : ℕ). AsTurns b ts path buffer kind id leaf x g) i
        (subst (λ (x : Result Finished Refusal). AsTurns b ts path buffer kind id leaf p' x) j (as_turns b byte ts r path buffer kind id leaf p' h))
    go (Err q) h =
        let w : ◌≡◌ {A = Answered} (Err q) (Ok (p, g)) =
        sym (ap (λ (a : Result ℕ Refusal). (asked_for a (ask_of ts.state.desk kind id leaf buffer).desk ts.tree path buffer).answer) h) ∙ e in
        let z : ◌≡◌ {A = ℕ} 0 1 = cc in
        absurd (omega arith)

pub whole-requests : WholeRequests
whole-requests =
    record {
      refuses = refuses;
      as_turns = asked-only;
    }
