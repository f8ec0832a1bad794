-- Demand 2 holds of our store, over runs of any length: what stands after format stands after every event. Assumes nothing but what is asked of digest
-- and cipher.
use Prim.Native.Nat.{ℕ, ◌<◌}
use mathlib.Core.Path.{◌≡◌, sym, subst}
use mathlib.Core.List.{List, [], ◌∷◌}
use Rattle.sizes.specs.declared.Sizes.{Sizes}
use Rattle.desk.specs.Readers.{sizes_of, status_of, leaf_asked}
use Rattle.desk.specs.Status.{open_status}
use Rattle.items.specs.Items.{Means, Sound}
use Rattle.opening.specs.Opening.{view_of}
use Rattle.keeping.specs.Server.{Returns, Agrees}
use Rattle.keeping.proofs.Tied.{returns-agrees}
use Rattle.keeping.proofs.Genuine.{asks_of}
use Rattle.promises.specs.Stores.{ours, Start}
use Rattle.promises.specs.Steps.{State, begin, Event, asks, finishes, after, run, Hands, returned, agreeing, AllFair, Reached}
use Rattle.promises.specs.DemandTwo.{DemandTwo, DemandTwoReachable}
use Rattle.promises.proofs.Stands.{Stands, begin-stands}
use Rattle.promises.proofs.AskStep.{ask-stands}
use Rattle.promises.proofs.FinishStep.{through-of, finish-stands}
use Rattle.promises.proofs.Kept.{kept}

module _ (m : Means) (o : Sound m) (b : Start) (byte : b.room < 256) where
  -- which paths agree, in a state in which all stands
  abbrev Agreeable : Hands → Type 0
  Agreeable hands = (st : State) → Stands m b st → status_of st.desk ≡ open_status → (path : List ℕ) → hands st path → Agrees (view_of st.desk) st.server path

  module _ (hands : Hands) (agree : Agreeable hands) where
    run-stands : (es : List Event) (st : State) → Stands m b st → AllFair hands (ours m) b.sizes st es → Stands m b (run (ours m) b.sizes st es)
    run-stands [] st v f = v
    run-stands (asks r ∷ es) st v f = run-stands es (after (ours m) b.sizes st (asks r)) (ask-stands m b st v r) f.1
    run-stands (finishes path buffer ∷ es) st v f =
        run-stands es (after (ours m) b.sizes st (finishes path buffer))
        (finish-stands m o b byte st v path buffer (λ a. agree st v (through-of m o b byte st v path buffer a).ready.status path (f.0 a))) f.1

    pub reached-stands : (st : State) → Reached (ours m) b hands st → Stands m b st
    reached-stands st r =
        subst (λ (x : State). Stands m b x) r.here (run-stands r.events (begin b r.lent) (begin-stands m b r.lent r.formats) r.fair)

  -- a path that the server returned agrees
  pub returned-agrees : Agreeable (returned b)
  returned-agrees st v s path h =
      let l : Returns (sizes_of st.desk) st.server (leaf_asked st.desk) path =
      subst (λ (z : Sizes). Returns z st.server (leaf_asked st.desk) path) (sym v.sizes)
      (subst (λ (l : ℕ). Returns b.sizes st.server l path) (v.opens s).leaf h) in
      returns-agrees m (view_of st.desk) path st.server (asks_of st.desk v.good s).low v.inv.tied l

pub demand-two : (m : Means) → Sound m → DemandTwo m (ours m)
demand-two m o b byte st r =
    let v = reached-stands m o b byte (returned b) (returned-agrees m o b byte) st r in
    kept m o b byte st v (returned b st) (returned-agrees m o b byte st v)

pub demand-two-reachable : (m : Means) → Sound m → DemandTwoReachable m (ours m)
demand-two-reachable m o b byte st r =
    let v = reached-stands m o b byte agreeing (λ st v s path h. h) st r in
    kept m o b byte st v (agreeing st) (λ s path h. h)
