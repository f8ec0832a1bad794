-- A text that is written from one store and read into another, both over an honest server: what the second then holds, by what the first holds. Assumes
-- nothing.
use Rattle.taking.specs.Taking.{in_line}
use Rattle.std.specs.Prelude.{ℕ, ◌+◌, ◌-◌, ◌<◌, ◌≤◌, ◌≡◌, ◌≢◌, ◌⊎◌, false, List, length, take, Ok, Some, Err}
use Rattle.std.proofs.Math.Option.{Option, none, some}
use Rattle.sizes.specs.Sizes.{tree_len}
use Rattle.slots.specs.Slots.{Bytes}
use Rattle.items.specs.Real.{real}
use Rattle.keeping.specs.Table.{Table}
use Rattle.verdicts.specs.declared.Entry.{Entry}
use Rattle.verdicts.specs.Verdict.{reading_of, name_in, record_of}
use Rattle.taking.specs.declared.Trouble.{Trouble}
use Rattle.returning.specs.Returning.{is_said, Plain}
use Rattle.tap.specs.declared.NotRead.TheVariants as not_read
use Rattle.tap.specs.Tap.{read_of}
use Rattle.promises.specs.Stores.{ours, Start, format_for}
use Rattle.promises.specs.Trees.{TreeState, TreeReached}
use Rattle.promises.specs.Rows.{PassHeld}
use Rattle.promises.specs.Taps.{tap_read, tap_write, Leaves}

-- ---- one id: what is held for it in the first store, and in the second before and after

pub record Comes (chapter year : ℕ) (held before after : Option (List ℕ)) : Type 0 where
  -- an id that is Never in the first is in the second what it was: in a fresh one it is Never
  pub never : held ≡ none → after ≡ before
  -- so is one whose record gets no line
  pub unsaid : (rec : List ℕ) → held ≡ some rec → is_said chapter rec ≡ false → after ≡ before
  -- a verdict of the chapter whose name is plain comes, with the year that is read for
  pub comes : (rec : List ℕ) (e : Entry) → held ≡ some rec → reading_of rec ≡ Some e → e.chapter ≡ chapter → Plain (name_in rec e)
      → after ≡ some (record_of e.verdict chapter year (name_in rec e))
  -- of the same year, every byte does
  pub same_bytes : (rec : List ℕ) (e : Entry) → held ≡ some rec → Bytes rec → reading_of rec ≡ Some e → e.chapter ≡ chapter → e.year ≡ year → Plain (name_in rec e)
      → after ≡ some rec
  -- a pass there was a pass in the first, or it stood in the second before
  pub only_passes : PassHeld chapter after → PassHeld chapter held ⊎ (after ≡ before)

-- where the second is fresh
pub record ComesFresh (chapter : ℕ) (held after : Option (List ℕ)) : Type 0 where
  -- an id that is Never in the first is Never
  pub never : held ≡ none → after ≡ none
  -- and a pass was a pass: no skip comes as one
  pub passed : PassHeld chapter after → PassHeld chapter held

-- number i of a range of n in the first is number i of the range in the second; all other ids hold what they held
pub record CarriedTo (chapter year first n first' : ℕ) (one two : Table) (id : ℕ) (held : Option (List ℕ)) : Type 0 where
  pub inside : (i : ℕ) → i < n → id ≡ first' + i → Comes chapter year (one (first + i)) (two id) held
  pub outside : (id < first') ⊎ (first' + n ≤ id) → held ≡ two id

-- ---- the two stores

-- a text that was written: the answered length of the buffer
pub record Out (b : Start) (ts : TreeState) (chapter first end : ℕ) : Type 0 where
  pub byte : b.room < 256
  pub reached : TreeReached (ours real) b ts
  pub draws : List ℕ
  pub out : List ℕ
  pub len : ℕ
  pub written : (tap_write ts chapter first end draws out).answer ≡ Ok len

abbrev pub text_in : {b : Start} {ts : TreeState} {chapter first end : ℕ} → Out b ts chapter first end → List ℕ
text_in {ts = ts} {chapter = chapter} {first = first} {end = end} o = take o.len (tap_write ts chapter first end o.draws o.out).out

pub record Carried : Type 0 where
  -- a range of the same length in another store, or in the same, takes it: no line of it is refused
  pub never_bad : (b : Start) (ts : TreeState) (chapter first end : ℕ) (o : Out b ts chapter first end) (ts' : TreeState) (year first' end' : ℕ) (draws : List ℕ)
      → end' - first' ≡ end - first → (t : Trouble) (line : ℕ) → (tap_read ts' chapter year first' end' draws (text_in o)).answer ≢ Err (not_read.Bad (in_line t line))
  pub carried : (b : Start) (ts : TreeState) (chapter first end : ℕ) (o : Out b ts chapter first end)
      → (b' : Start) → b'.room < 256 → (ts' : TreeState) → TreeReached (ours real) b' ts' → (year first' end' : ℕ) (draws : List ℕ)
      → end' - first' ≡ end - first → (tap_read ts' chapter year first' end' draws (text_in o)).answer ≡ Ok tt
      → Leaves b' (tap_read ts' chapter year first' end' draws (text_in o)).desk (tap_read ts' chapter year first' end' draws (text_in o)).tree
      (CarriedTo chapter year first (end - first) first' ts.state.table ts'.state.table)
  -- into a fresh store, over a tree with any bytes
  pub fresh : (b : Start) (ts : TreeState) (chapter first end : ℕ) (o : Out b ts chapter first end)
      → (b' : Start) → b'.room < 256 → (lent : List ℕ) → (format_for b' lent).answer ≡ Ok tt → (tree : List ℕ) → length tree ≡ tree_len b'.sizes
      → (year first' end' : ℕ) (draws : List ℕ) → end' - first' ≡ end - first
      → (read_of (format_for b' lent).desk tree chapter year first' end' draws (text_in o)).answer ≡ Ok tt
      → Leaves b' (read_of (format_for b' lent).desk tree chapter year first' end' draws (text_in o)).desk
      (read_of (format_for b' lent).desk tree chapter year first' end' draws (text_in o)).tree
      (λ id held. (i : ℕ) → i < end - first → id ≡ first' + i → ComesFresh chapter (ts.state.table (first + i)) held)
