-- One request of any kind at a ready desk over a server that returns what was last written: its ask is accepted; its finish is accepted, and leaves a ready
-- desk, or is Worn, or is Full, which a stash with room for every id never is. Assumes nothing.
use Rattle.std.specs.Prelude.{Err, Result, Ok}
use Prim.Native.Nat.{ℕ, ◌<◌, ◌≤◌}
use mathlib.Core.Path.{◌≡◌, refl, sym, ap, subst, ◌∙◌}
use mathlib.Core.Logic.{◌≢◌, ◌⊎◌, inl, inr, ⊎_elim}
use mathlib.Core.Bool.{Bool, true, false, not}
use mathlib.Core.List.{List, [], ◌∷◌}
use native.Mathlib.Omega.{arith}
use lib.ListN.{length}
use lib.Dec.{ltb}
use borrow.Author.Tests.{eq-eqb}
use Rattle.sizes.specs.declared.Sizes.{Sizes}
use Rattle.sizes.specs.declared.Refusal.{Refusal}
use Rattle.sizes.specs.declared.Refusal.TheVariants.{Forged, Worn, Full}
use Rattle.sizes.specs.Sizes.{record_len, leaves, path_len}
use Rattle.sizes.specs.Refusals.{first_of, kept_or}
use Rattle.sizes.proofs.Rows.{not-refused}
use Rattle.desk.specs.declared.Kind.{Kind}
use Rattle.desk.specs.declared.Kind.TheVariants.{Read, Write}
use Rattle.desk.specs.Layout.{room_of}
use Rattle.desk.specs.Readers.{sizes_of, status_of, kind_asked}
use Rattle.desk.specs.Status.{ready_status, open_status}
use Rattle.items.specs.Items.{Means}
use Rattle.items.specs.Real.{real}
use Rattle.items.proofs.Sound.{real-sound}
use Rattle.opening.specs.Opening.{view_of, genuine, worn}
use Rattle.asks.specs.Ask.{record_fits, ask_of}
use Rattle.store.specs.Steps.{new_stash, new_path, was_marked}
use Rattle.store.specs.Finish.{FinishResult, finish_checked}
use Rattle.requests.specs.Request.{returned}
use Rattle.keeping.specs.Server.{Agrees}
use Rattle.promises.specs.Stores.{ours, Start, Accepted}
use Rattle.promises.specs.DemandTwo.{Ready, Kept}
use Rattle.promises.specs.Trees.{TreeState, TreeReached, fetched_by}
use Rattle.promises.specs.Requests.{as_request, request_for}
use Rattle.promises.proofs.Answers.{finished-refused, finished-done}
use Rattle.promises.proofs.FinishStep.{through-of, path_size}
use Rattle.promises.proofs.TreeHolds.{fetch-length}
use Rattle.promises.proofs.Trees.{Both, range, leaf_low, fetched-agrees, demand-two-tree}
use Rattle.promises.proofs.Requests as whole
use Rattle.promises.proofs.HonestRequests.{buffer-long}
use Rattle.promises.proofs.Room.{left-few}

-- ---- past the rows of desk and buffers, a refusal that is not Forged is Worn or Full

path-refusal : (g w u : Bool) (q : Refusal) → q ≢ Forged → first_of ((g, Forged) ∷ (w, Worn) ∷ (u, Full) ∷ []) ≡ Err q → (q ≡ Worn) ⊎ (q ≡ Full)
path-refusal true w u q n h = absurd (n cc)
path-refusal false true u q n h = inl cc
path-refusal false false true q n h = inr cc
path-refusal false false false q n h = absurd (not-refused q (sym h))

late-only : (m : Means) (desk path buffer : List ℕ) → Ready desk path buffer → (q : Refusal) → q ≢ Forged → finish_checked m desk path buffer ≡ Err q
    → (q ≡ Worn) ⊎ (q ≡ Full)
unfolding finish_checked
late-only m desk path buffer r q n h =
    path-refusal (not (genuine m desk path)) (worn m desk path) (ltb (room_of desk) (length (new_stash m desk path))) q n
    (rw (r.good, r.status, eq-eqb (length path) (path_len (sizes_of desk)) r.path_length, eq-eqb (length buffer) record_len r.buffer_length) at h)

-- ---- a request that is in range, at a ready desk, with a path and a record of the right lengths

pub record Fit (b : Start) (ts : TreeState) (path buffer : List ℕ) (id x : ℕ) : Type 0 where
  pub ready : status_of ts.state.desk ≡ ready_status
  pub low : 1 ≤ id
  pub high : id ≤ b.ids
  pub leaf : x < leaves b.sizes
  pub path_length : length path ≡ path_len b.sizes
  pub buffer_length : length buffer ≡ record_len

-- how it can be refused over an honest server
abbrev pub Ends : Start → Refusal → Type 0
Ends b q = (q ≡ Worn) ⊎ ((q ≡ Full) × (b.room < b.ids))

pub record-fits : (kind : Kind) (buffer : List ℕ) → length buffer ≡ record_len → record_fits record_len kind buffer ≡ true
record-fits Read buffer l = refl
record-fits Write buffer l = eq-eqb (length buffer) record_len l

module _ (b : Start) (byte : b.room < 256) (ts : TreeState) (reached : TreeReached (ours real) b ts) (path buffer : List ℕ) (kind : Kind)
    (id x : ℕ) (r : Fit b ts path buffer id x) where
  abbrev p : ℕ
  p = ts.state.drawn id

  pub asks : (ask_of ts.state.desk kind id x buffer).answer ≡ Ok p
  asks = (demand-two-tree real real-sound b byte ts reached).kept.takes r.ready (as_request kind id x buffer) r.low r.high r.leaf
      (record-fits kind buffer r.buffer_length)

  -- the state after the ask, its desk, the path that was fetched, and the finish
  abbrev one : TreeState
  one = whole.one b byte ts reached path buffer kind id x p asks

  abbrev d : List ℕ
  d = whole.d b byte ts reached path buffer kind id x p asks

  abbrev pub got : List ℕ
  got = whole.got b byte ts reached path buffer kind id x p asks

  abbrev pub fin : FinishResult
  fin = whole.f b byte ts reached path buffer kind id x p asks

  pub request-is : request_for ts path buffer kind id x ≡ returned b.sizes p ts.tree fin
  request-is = whole.request-is b byte ts reached path buffer kind id x p asks

  both : Both real real-sound b byte one
  both = whole.both b byte ts reached path buffer kind id x p asks

  pub one_kept : Kept real (ours real) b (fetched_by b one) one.state
  one_kept = (whole.kept b byte ts reached path buffer kind id x p asks).kept

  open-now : status_of d ≡ open_status
  open-now = whole.open-now b byte ts reached path buffer kind id x p asks

  pub handed : fetched_by b one got
  handed = (path, r.path_length, refl)

  pub got-length : length got ≡ path_len b.sizes
  got-length =
      fetch-length b.sizes p one.state.server ts.tree (range real real-sound b byte one both) (leaf_low real real-sound b byte one both open-now) both.holds path
      r.path_length

  fair : Agrees (view_of d) one.state.server got
  fair = fetched-agrees real real-sound b byte one both open-now path got-length

  ready-now : Ready d got buffer
  ready-now =
      record {
        good = one_kept.good;
        status = open-now;
        path_length = subst (λ (z : Sizes). length got ≡ path_len z) (sym one_kept.sizes) got-length;
        buffer_length = r.buffer_length;
      }

  -- refused
  pub ends : (q : Refusal) → fin.answer ≡ Err q → Ends b q
  ends q e =
      ⊎_elim inl (λ u. inr (u, few u))
      (late-only real d got buffer ready-now q (λ g. one_kept.never_forged got buffer handed (e ∙ ap Err g))
      (finished-refused (finish_checked real d got buffer) (kind_asked d) (was_marked real d got) q e))
    where
      few : q ≡ Full → b.room < b.ids
      few u =
          let w = ((one_kept.full got buffer handed ready-now).0 (e ∙ ap Err u)).1 in
          let v = left-few real real-sound b byte one.state both.stands open-now got fair in
          omega arith

  -- accepted: the desk is ready again, and path and buffer have their lengths
  module _ (a : Accepted fin.answer) where
    pub ready-again : status_of fin.desk ≡ ready_status
    ready-again = (one_kept.closes got buffer handed a).0

    pub path-again : length fin.path ≡ path_len b.sizes
    path-again =
        let c = finished-done (finish_checked real d got buffer) _ a in
        let t = through-of real real-sound b byte one.state both.stands got buffer a in
        ap (λ (o : Result Unit Refusal). length (kept_or o got (new_path real d got))) c ∙ path_size real real-sound b byte one.state both.stands got buffer t fair

    pub buffer-again : length fin.buffer ≡ record_len
    buffer-again =
        ap length (one_kept.plain got buffer handed a (as_request kind id x buffer) refl).1
        ∙ buffer-long kind (ts.state.table id) buffer r.buffer_length (both.stands.inv.sizes id)
