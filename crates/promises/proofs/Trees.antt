-- Demand 2 holds of our store with fetch and put on the other side. Assumes nothing but what is asked of digest and cipher.
use Rattle.std.specs.Prelude.{Ok, Result, Err}
use Rattle.sizes.specs.declared.Refusal.{Refusal}
use Prim.Native.Nat.{ℕ, ◌<◌}
use mathlib.Core.Path.{◌≡◌, refl, sym, ap, subst, ◌∙◌}
use mathlib.Core.Option.{some}
use mathlib.Core.List.{List, [], ◌∷◌, ◌++◌}
use lib.ListN.{length}
use Rattle.sizes.specs.declared.Sizes.{Sizes}
use Rattle.sizes.specs.Refusals.{kept_or}
use Rattle.sizes.specs.Sizes.{InRange, leaves, path_len, tree_len}
use Rattle.bags.specs.Bags.{those}
use Rattle.slots.specs.Slots.{Block}
use Rattle.desk.specs.Readers.{sizes_of, status_of, is_written, root_of, key_of, stash_of}
use Rattle.desk.specs.Status.{open_status}
use Rattle.desk.proofs.Known.{known}
use Rattle.items.specs.Items.{Means, Sound}
use Rattle.opening.specs.Opening.{view_of, is_id}
use Rattle.tree.specs.Tree.{put_of}
use Rattle.store.specs.declared.Finished.{Finished}
use Rattle.store.specs.declared.Finished.TheVariants as finished
use Rattle.store.specs.Steps.{new_path}
use Rattle.store.specs.Finish.{finish_of, finish_checked}
use Rattle.keeping.specs.Server.{Agrees, wrote}
use Rattle.keeping.proofs.Genuine.{asks_of}
use Rattle.keeping.proofs.Tied.{Tied, standing-tied}
use Rattle.promises.specs.Stores.{ours, Start, format_for, Request}
use Rattle.promises.specs.Steps.{State, begin, ask_for, after_ask, after_finish}
use Rattle.promises.specs.Trees.{TreeState, Turn, asking, serving, fetch_for, put_if, served, turn, turns, TreeReached, fetched_by, DemandTwoTree, in_tree, blocks_of_tree}
use Rattle.promises.specs.DemandTwo.{blocks_of_store}
use Rattle.promises.proofs.Answers.{accept-record, accept-never, accept-done, finished-done}
use Rattle.promises.proofs.Past.{Through, done-through}
use Rattle.promises.proofs.Stands.{Stands, none-some, begin-stands}
use Rattle.promises.proofs.AskStep.{ask-stands}
use Rattle.promises.proofs.FinishStep.{path_size, through-of, finish-stands}
use Rattle.promises.proofs.Kept.{kept}
use Rattle.promises.proofs.Two.{returned-agrees}
use Rattle.promises.proofs.TreeHolds.{Holds, fetch-returns, fetch-length, put_holds}

module _ (m : Means) (o : Sound m) (b : Start) (byte : b.room < 256) where
  pub record Both (ts : TreeState) : Type 0 where
    pub stands : Stands m b ts.state
    pub holds : Holds b.sizes ts.state.server ts.tree

  module _ (ts : TreeState) (v : Both ts) where
    abbrev st : State
    st = ts.state

    pub range : InRange b.sizes
    range = subst (λ (s : Sizes). InRange s) v.stands.sizes (known st.desk v.stands.good).head.sizes

    pub leaf_low : status_of st.desk ≡ open_status → st.asked_leaf < leaves b.sizes
    leaf_low s =
        subst (λ (z : Sizes). st.asked_leaf < leaves z) v.stands.sizes
        (subst (λ (l : ℕ). l < leaves (sizes_of st.desk)) (sym (v.stands.opens s).leaf) (asks_of st.desk v.stands.good s).low)

    -- a fetched path of the right length agrees
    pub fetched-agrees : status_of st.desk ≡ open_status → (lent : List ℕ) → length (fetch_for b.sizes ts lent) ≡ path_len b.sizes
        → Agrees (view_of st.desk) st.server (fetch_for b.sizes ts lent)
    fetched-agrees s lent l =
        returned-agrees m o b byte st v.stands s (fetch_for b.sizes ts lent)
        (fetch-returns b.sizes st.asked_leaf st.server ts.tree range (leaf_low s) v.holds lent l)

    module _ (lent buffer : List ℕ) where
      abbrev path : List ℕ
      path = fetch_for b.sizes ts lent

      by_length : Through m st.desk path buffer → Agrees (view_of st.desk) st.server path
      by_length t =
          fetched-agrees t.ready.status lent (subst (λ (z : Sizes). length path ≡ path_len z) v.stands.sizes t.ready.path_length)

      -- an accepted path is put back
      put-after : finish_checked m st.desk path buffer ≡ Ok tt
          → Holds b.sizes (wrote b.sizes st.asked_leaf (finish_of m st.desk path buffer).path st.server)
          (put_of b.sizes st.asked_leaf ts.tree (finish_of m st.desk path buffer).path).tree
      put-after c =
          let t = done-through m st.desk path buffer c in
          let s = t.ready.status in
          let n = path_size m o b byte st v.stands path buffer t (by_length t) in
          let e : (finish_of m st.desk path buffer).path ≡ new_path m st.desk path = ap (λ (x : Result Unit Refusal). kept_or x path (new_path m st.desk path)) c in
          put_holds b.sizes st.asked_leaf st.server ts.tree range (leaf_low s) v.holds (finish_of m st.desk path buffer).path
          (ap length e ∙ n)

      served-both : Both (served (ours m) b.sizes ts path buffer)
      served-both =
          record {
            stands = finish-stands m o b byte st v.stands path buffer (λ a. by_length (through-of m o b byte st v.stands path buffer a));
            holds = go (finish_of m st.desk path buffer).answer refl;
          }
        where
          go : (a : Result Finished Refusal) → (finish_of m st.desk path buffer).answer ≡ a
              → Holds b.sizes (after_finish b.sizes st a (finish_of m st.desk path buffer)).server
              (put_if a (put_of b.sizes st.asked_leaf ts.tree (finish_of m st.desk path buffer).path).tree ts.tree)
          go (Ok finished.Record) h = put-after (finished-done (finish_checked m st.desk path buffer) _ (λ q k. accept-record q (sym h ∙ k)))
          go (Ok finished.Never) h = put-after (finished-done (finish_checked m st.desk path buffer) _ (λ q k. accept-never q (sym h ∙ k)))
          go (Ok finished.Done) h = put-after (finished-done (finish_checked m st.desk path buffer) _ (λ q k. accept-done q (sym h ∙ k)))
          go (Err q) h = v.holds

    asked-both : (r : Request) → Both (turn (ours m) b.sizes ts (asking r))
    asked-both r = record { stands = ask-stands m b st v.stands r; holds = go (ask_for (ours m) st r).answer }
      where
        go : (a : Result ℕ Refusal) → Holds b.sizes (after_ask st r a (ask_for (ours m) st r).desk).server ts.tree
        go (Ok p) = v.holds
        go (Err q) = v.holds

  turns-both : (ms : List Turn) (ts : TreeState) → Both ts → Both (turns (ours m) b.sizes ts ms)
  turns-both [] ts v = v
  turns-both (asking r ∷ ms) ts v = turns-both ms (turn (ours m) b.sizes ts (asking r)) (asked-both ts v r)
  turns-both (serving lent buffer ∷ ms) ts v = turns-both ms (turn (ours m) b.sizes ts (serving lent buffer)) (served-both ts v lent buffer)

  begin-both : (lent : List ℕ) → (format_for b lent).answer ≡ Ok tt → (tree : List ℕ) → length tree ≡ tree_len b.sizes
      → Both (record { state = begin b lent; tree = tree })
  begin-both lent f tree l =
      record {
        stands = begin-stands m b lent f;
        holds = record {
          size = l;
          high = λ k j item e. absurd (none-some item e);
          low = λ k j item e. absurd (none-some item e);
          stands = λ k j item e. absurd (none-some item e);
        };
      }

  pub reached-both : (ts : TreeState) → TreeReached (ours m) b ts → Both ts
  reached-both ts r =
      subst (λ (x : TreeState). Both x) r.here
      (turns-both r.taken (record { state = begin b r.lent; tree = r.tree }) (begin-both r.lent r.formats r.tree r.size))

-- the blocks in the tree's bytes are those in the book
tree-blocks : (m : Means) (o : Sound m) (b : Start) (byte : b.room < 256) (ts : TreeState) → Both m o b byte ts → blocks_of_tree m b ts ≡ blocks_of_store m b ts.state
tree-blocks m o b byte ts v =
    let st = ts.state in
    let w = is_written st.desk in
    let root = root_of st.desk in
    let t : Tied m b.sizes b.key st.server b.sizes.height 0 0 w root =
    subst (λ (k : List ℕ). Tied m b.sizes k st.server b.sizes.height 0 0 w root) v.stands.key
    (subst (λ (s : Sizes). Tied m s (key_of st.desk) st.server s.height 0 0 w root) v.stands.sizes v.stands.inv.tied) in
    ap (λ (bs : List Block). bs ++ stash_of st.desk)
    (standing-tied m b.sizes b.key st.server (in_tree b.sizes ts.tree) (λ k j item e. ap (λ (x : List ℕ). some x) (v.holds.stands k j item e))
    b.sizes.height 0 0 w root t)

pub demand-two-tree : (m : Means) → Sound m → DemandTwoTree m (ours m)
demand-two-tree m o b byte ts r =
    let v = reached-both m o b byte ts r in
    let e = tree-blocks m o b byte ts v in
    let k = kept m o b byte ts.state v.stands (fetched_by b ts) (λ s path h.
    let l = fetch-length b.sizes ts.state.asked_leaf ts.state.server ts.tree (range m o b byte ts v) (leaf_low m o b byte ts v s) v.holds h.0 h.1 in
    subst (λ (x : List ℕ). Agrees (view_of ts.state.desk) ts.state.server x) (sym h.2) (fetched-agrees m o b byte ts v s h.0 l)) in
    record {
      kept = k;
      size = v.holds.size;
      items = v.holds.stands;
      one_place = λ id g l. ap (those (is_id id)) e ∙ k.one_place id g l;
      count = ap length e ∙ k.count;
    }
