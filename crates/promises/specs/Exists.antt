-- The demands speak of runs that there are: format takes every start in range, the desk is good, its first ask is accepted and shows the starting
-- leaf, and so is its first finish. Assumes nothing.
use Rattle.std.specs.Prelude.{ℕ, ◌-◌, ◌<◌, ◌≤◌, ◌≡◌, ◌≢◌, true, List, ◌∷◌, length, get_or, drop, Err, Ok}
use Rattle.sizes.specs.declared.Refusal.TheVariants.{Full}
use Rattle.sizes.specs.Sizes.{InRange, most_ids, leaves, record_len, key_len, path_len, desk_len}
use Rattle.desk.specs.Readers.{status_of}
use Rattle.desk.specs.Status.{ready_status}
use Rattle.desk.specs.Good.{good_desk}
use Rattle.asks.specs.Ask.{record_fits}
use Rattle.promises.specs.Stores.{Store, Start, format_for, Request, Accepted}
use Rattle.promises.specs.Steps.{begin, asks, after, ask_for, finish_for, State, returned, Reached}
use Rattle.promises.specs.DemandThree.{Around, Run, leaves_of}

-- a start that is in range, with a desk to write to
pub record Proper (b : Start) (lent : List ℕ) : Type 0 where
  pub range : InRange b.sizes
  pub ids_low : 1 ≤ b.ids
  pub ids_high : b.ids ≤ most_ids
  pub room_byte : b.room < 256
  pub lent_length : length lent ≡ desk_len b.ids b.room
  pub starts_length : length b.starts ≡ b.ids
  pub key_length : length b.key ≡ key_len
  pub all_leaves : (i : ℕ) → i < b.ids → get_or b.starts i 0 < leaves b.sizes

-- a request that is in range
pub record InBounds (b : Start) (r : Request) : Type 0 where
  pub id_low : 1 ≤ r.id
  pub id_high : r.id ≤ b.ids
  pub leaf_low : r.leaf < leaves b.sizes
  pub fits : record_fits record_len r.kind r.content ≡ true

pub record Exists (store : Store) : Type 0 where
  pub formats : (b : Start) (lent : List ℕ) → Proper b lent → (format_for b lent).answer ≡ Ok tt
  pub good : (b : Start) (lent : List ℕ) → Proper b lent → (good_desk (format_for b lent).desk ≡ true) × (status_of (format_for b lent).desk ≡ ready_status)
  pub first_ask : (b : Start) (lent : List ℕ) → Proper b lent → (r : Request) → InBounds b r
      → (ask_for store (begin b lent) r).answer ≡ Ok (get_or b.starts (r.id - 1) 0)
  -- nothing was written yet, so any path of the right length will do
  pub first_finish : (b : Start) (lent : List ℕ) → Proper b lent → 1 ≤ b.room → (r : Request) → InBounds b r
      → (path buffer : List ℕ) → length path ≡ path_len b.sizes → length buffer ≡ record_len
      → Accepted (finish_for store (after store b.sizes (begin b lent) (asks r)) path buffer).answer
  -- a stash with room for every id is never full: so there are runs of any length, as far as counters go
  pub never_full : (b : Start) → b.room < 256 → b.ids ≤ b.room → (st : State) → Reached store b (returned b) st → (path buffer : List ℕ)
      → returned b st path → (finish_for store st path buffer).answer ≢ Err Full
  -- so a run of demand 3 shows a leaf: at its first request, with its first draw, in its first surroundings
  pub first_shown : (n : ℕ) (draws : List ℕ) (run : Run n draws) (u x : ℕ) (us xs : List ℕ) (e : Around) (es : List Around)
      → 0 < u → u ≤ n → drop n draws ≡ x ∷ xs → run.around ≡ e ∷ es → x < leaves run.start.sizes → record_fits record_len e.kind e.content ≡ true
      → 0 < length (leaves_of store n (u ∷ us) draws run)
