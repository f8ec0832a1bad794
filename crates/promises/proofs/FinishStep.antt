-- A finish keeps what stands, over any path that agrees with the server where it is reachable. Assumes nothing but what is asked of digest and cipher.
use Rattle.std.specs.Prelude.{Err, Result, Ok}
use Prim.Native.Nat.{ℕ, ◌<◌, ◌≤◌}
use mathlib.Core.Path.{◌≡◌, refl, sym, ap, ap₂, subst, ◌∙◌}
use mathlib.Core.Logic.{◌≢◌}
use mathlib.Core.Bool.{true}
use mathlib.Core.Option.{Option, none}
use mathlib.Core.List.{List}
use native.Mathlib.Omega.{arith}
use lib.ListN.{length}
use lib.Dec.{eqb}
use borrow.Author.Tests.{eqb-true, eqb-false}
use Rattle.words.proofs.Tests.{by_cases}
use Rattle.sizes.specs.declared.Sizes.{Sizes}
use Rattle.sizes.specs.declared.Refusal.{Refusal}
use Rattle.sizes.specs.declared.Refusal.TheVariants.{BadDesk, Stopped, Open, NotOpen, BadId, BadLeaf, BadLength, BadSize, Forged, Worn, Full}
use Rattle.sizes.specs.Sizes.{record_len, path_len}
use Rattle.desk.specs.declared.Kind.{Kind}
use Rattle.desk.specs.declared.Kind.TheVariants.{Read, Write}
use Rattle.desk.specs.Layout.{ids_of}
use Rattle.desk.specs.Readers.{sizes_of, height_of, status_of, kind_asked, id_asked, record_asked, leaf_asked, position_of}
use Rattle.desk.specs.Status.{open_status, most_status, at_status, stopped, stopped_or}
use Rattle.desk.proofs.Known.{known}
use Rattle.desk.proofs.Changed.{Changed, unchanged, status-changed, same-ids, same_room, same-sizes}
use Rattle.items.specs.Items.{Means, Sound, counter_of}
use Rattle.items.specs.Way.{item, reachable}
use Rattle.opening.specs.Opening.{view_of, last_counter}
use Rattle.opening.proofs.Tests.{no_true}
use Rattle.asks.specs.Ask.{record_bytes}
use Rattle.store.specs.declared.Finished.{Finished}
use Rattle.store.specs.declared.Finished.TheVariants as finished
use Rattle.store.specs.Steps.{placed, new_path, new_desk}
use Rattle.store.specs.Finish.{finish_of, finish_checked, finish_by, FinishResult}
use Rattle.keeping.specs.Server.{Server, Agrees, wrote}
use Rattle.keeping.specs.Table.{Table, plain_table}
use Rattle.keeping.proofs.Genuine.{Inv}
use Rattle.keeping.proofs.TableStep.{table_after}
use Rattle.keeping.proofs.MovedStep.{Checked, position-new, position-old}
use Rattle.keeping.proofs.PlacedStep.{laid}
use Rattle.keeping.proofs.Written.{path_length}
use Rattle.keeping.proofs.DeskStep.{parts_now, now-changed, now-good}
use Rattle.keeping.proofs.InvStep.{inv-after}
use Rattle.keeping.proofs.Carry.{inv-kept}
use Rattle.promises.specs.Stores.{Start, Request, Accepted}
use Rattle.promises.specs.Steps.{State, only_desk, table_done, accepted, after_finish}
use Rattle.promises.proofs.Answers.{accept-record, accept-never, accept-done, finished-refused, finished-done}
use Rattle.promises.proofs.Exactly.{out-worn}
use Rattle.promises.proofs.Past.{late-ready, Through, through-checked, done-through}
use Rattle.promises.proofs.Finishes.{stop-good}
use Rattle.promises.proofs.Stands.{Stands}
use Rattle.promises.proofs.AskStep.{same-desk}

-- a record of a read is not looked at
same-table : (kind : Kind) (id : ℕ) (content : List ℕ) (table : Table) → plain_table kind id (record_bytes record_len kind content) table ≡ plain_table kind id content table
same-table Read id content table = refl
same-table Write id content table = refl

module _ (m : Means) (o : Sound m) (b : Start) (byte : b.room < 256) (st : State) (v : Stands m b st) (path buffer : List ℕ) where
  abbrev desk : List ℕ
  desk = st.desk

  -- ---- a desk that is stopped

  stopped-stands : (t : ℕ) → open_status < t → t ≤ most_status → status_of desk ≡ open_status → Stands m b (only_desk st (at_status t desk))
  stopped-stands t low high s =
      let c = status-changed (known desk v.good).size (unchanged desk) t in
      record {
        good = stop-good desk t low high s v.good;
        inv = inv-kept c refl refl refl refl m st.server st.table v.inv;
        sizes = same-sizes c.same ∙ v.sizes;
        key = c.same.key ∙ v.key;
        ids = same-ids c.same ∙ v.ids;
        room = same_room c.same ∙ v.room;
        opens = λ e. absurd (omega (arith, c.status));
        is_ready = λ e. absurd (omega (arith, c.status));
        drawn = λ e u g l. absurd (omega (arith, c.status));
        drawn_open = λ e u g l. absurd (omega (arith, c.status));
      }

  refused-stands : (q : Refusal) → finish_checked m desk path buffer ≡ Err q → Stands m b (only_desk st (stopped q desk))
  refused-stands BadDesk h = same-desk m b st v desk refl
  refused-stands Stopped h = same-desk m b st v desk refl
  refused-stands Open h = same-desk m b st v desk refl
  refused-stands NotOpen h = same-desk m b st v desk refl
  refused-stands BadId h = same-desk m b st v desk refl
  refused-stands BadLeaf h = same-desk m b st v desk refl
  refused-stands BadLength h = same-desk m b st v desk refl
  refused-stands BadSize h = same-desk m b st v desk refl
  refused-stands Forged h = stopped-stands 2 (omega arith) (omega arith) (late-ready m desk path buffer Forged (omega arith) h).status
  refused-stands Worn h = stopped-stands 3 (omega arith) (omega arith) (late-ready m desk path buffer Worn (omega arith) h).status
  refused-stands Full h = stopped-stands 4 (omega arith) (omega arith) (late-ready m desk path buffer Full (omega arith) h).status

  -- ---- a request that is done

  module _ (t : Through m desk path buffer) (fair : Agrees (view_of desk) st.server path) where
    pub checked : Checked m desk path
    checked = through-checked m desk path buffer t (omega (arith, v.room))

    pub fresh : (k : ℕ) → k ≤ height_of desk → reachable (view_of desk) path k ≡ true → counter_of (item (view_of desk) path k) ≢ last_counter
    fresh k l r e = no_true (sym (out-worn m desk path (k, (l, r), e)) ∙ t.not_worn)

    abbrev now : List ℕ
    now = new_desk m desk path

    pub changed : Changed desk now (parts_now m o desk path checked t.fits)
    changed = now-changed m o desk path checked t.fits

    pub path_size : length (new_path m desk path) ≡ path_len b.sizes
    path_size =
        subst (λ (z : Sizes). length (new_path m desk path) ≡ path_len z) v.sizes
        (path_length m o (view_of desk) path (placed m desk path) fair.size (laid m o desk path checked))

    position-is : (u : ℕ) → 1 ≤ u → u ≤ b.ids → position_of now u ≡ st.drawn u
    position-is u g l =
        let w = v.drawn_open t.ready.status u g l in
        let n : u ≤ ids_of desk = rw v.ids l in
        by_cases (eqb u (id_asked desk))
        (λ q.
        ap (position_of now) (eqb-true u (id_asked desk) q)
        ∙ position-new m desk path checked changed refl ∙ (rw q at w))
        (λ q.
        position-old m desk path checked changed refl u g n (eqb-false u (id_asked desk) q) ∙ (rw q at w))

    -- the book's table and server are the invariant's
    table_is : table_after desk st.table ≡ table_done st.open_request st.table
    table_is =
        let q = v.opens t.ready.status in
        let r = q.request in
        ap (λ (k : Kind). plain_table k (id_asked desk) (record_asked desk) st.table) q.holds.kind
        ∙ ap₂ (λ (i : ℕ) (c : List ℕ). plain_table r.kind i c st.table) q.holds.id q.holds.content
        ∙ same-table r.kind r.id r.content st.table
        ∙ ap (λ (x : Option Request). table_done x st.table) (sym q.is)

    server-is : wrote (sizes_of desk) (leaf_asked desk) (new_path m desk path) st.server ≡ wrote b.sizes st.asked_leaf (new_path m desk path) st.server
    server-is =
        ap₂ (λ (s : Sizes) (l : ℕ). wrote s l (new_path m desk path) st.server) v.sizes (sym (v.opens t.ready.status).leaf)

    abbrev done : State
    done =
        record {
          desk = now;
          server = wrote b.sizes st.asked_leaf (new_path m desk path) st.server;
          table = table_done st.open_request st.table;
          drawn = st.drawn;
          open_request = none;
          asked_leaf = st.asked_leaf;
        }

    pub done-stands : Stands m b done
    done-stands =
        let c = changed in
        record {
          good = now-good m o desk path checked t.fits;
          inv =
              subst (λ (x : Table). Inv m now (wrote b.sizes st.asked_leaf (new_path m desk path) st.server) x) table_is
              (subst (λ (x : Server). Inv m now x (table_after desk st.table)) server-is
              (inv-after m o desk path st.server st.table checked v.inv fair t.fits fresh));
          sizes = same-sizes c.same ∙ v.sizes;
          key = c.same.key ∙ v.key;
          ids = same-ids c.same ∙ v.ids;
          room = same_room c.same ∙ v.room;
          opens = λ e. absurd (omega (arith, c.status));
          is_ready = λ e. refl;
          drawn = λ e u g l. position-is u g l;
          drawn_open = λ e u g l. absurd (omega (arith, c.status));
        }

  -- ---- both

  abbrev result : FinishResult
  result = finish_of m desk path buffer

  -- an accepted finish got through
  pub through-of : Accepted result.answer → Through m desk path buffer
  through-of a = done-through m desk path buffer (finished-done (finish_checked m desk path buffer) _ a)

  pub finish-stands : (Accepted result.answer → Agrees (view_of desk) st.server path)
      → Stands m b (after_finish b.sizes st result.answer result)
  finish-stands fair = go result.answer refl
    where
      done-by : Accepted result.answer → Stands m b (accepted b.sizes st result)
      done-by a =
          let d = finished-done (finish_checked m desk path buffer) _ a in
          subst (λ (c : Result Unit Refusal). Stands m b (accepted b.sizes st (finish_by c m desk path buffer))) (sym d) (done-stands (through-of a) (fair a))

      go : (a : Result Finished Refusal) → result.answer ≡ a → Stands m b (after_finish b.sizes st a result)
      go (Ok finished.Record) h = done-by (λ q k. accept-record q (sym h ∙ k))
      go (Ok finished.Never) h = done-by (λ q k. accept-never q (sym h ∙ k))
      go (Ok finished.Done) h = done-by (λ q k. accept-done q (sym h ∙ k))
      go (Err q) h =
          let d = finished-refused (finish_checked m desk path buffer) (kind_asked desk) _ q h in
          subst (λ (x : Result Unit Refusal). Stands m b (only_desk st (stopped_or x desk (new_desk m desk path)))) (sym d) (refused-stands q d)
