-- Demand 1: every entry gives one result on every input, the first refusal that applies, and a refusal changes nothing but, at 9, 10 and 11, the
-- status byte. That the entries end, and meet these definitions, is their contracts. Assumes nothing.
use Rattle.std.specs.Prelude.{ℕ, ◌-◌, ◌<◌, ◌≤◌, ◌≡◌, ◌↔◌, Bool, true, false, List, length, get_or, set, Err}
use Rattle.sizes.specs.declared.Sizes.{Sizes}
use Rattle.sizes.specs.declared.Refusal.{Refusal}
use Rattle.sizes.specs.declared.Refusal.TheVariants.{BadDesk}
use Rattle.sizes.specs.Refusals.{number_of}
use Rattle.desk.specs.declared.Kind.{Kind}
use Rattle.desk.specs.Layout.{status_at}
use Rattle.desk.specs.Good.{good_desk}
use Rattle.items.specs.Items.{Means}
use Rattle.tree.specs.Tree.{tree_rows, fetch_of, put_of}
use Rattle.asks.specs.Ask.{ask_rows, asked_value}
use Rattle.formats.specs.Format.{format_rows, format_value}
use Rattle.store.specs.Finish.{finish_rows, finished_value}
use Rattle.requests.specs.Request.{request_of}
use Rattle.verdicts.specs.declared.Verdict.{Verdict}
use Rattle.verdicts.specs.Verdict.{reading_of, make_of}
use Rattle.book.specs.MatrixRow.{row_rows, row_checked, row_of}
use Rattle.tap.specs.Tap.{read_of, write_rows, write_checked, write_of}
use Rattle.promises.specs.Stores.{Store, Start, format_for}

-- ---- what a refusal changes

-- nothing below number 9; from there on the status byte alone: it becomes 2, 3, 4
abbrev pub OnlyStatus : Refusal → List ℕ → List ℕ → Type 0
OnlyStatus q old new = (number_of q < 9 → new ≡ old) × (9 ≤ number_of q → new ≡ set old status_at (number_of q - 7))

-- ---- the first refusal that applies: its row's test is true, and those of all rows before it are false

pub record First (rows : List (Bool × Refusal)) (q : Refusal) : Type 0 where
  pub row : ℕ
  pub inside : row < length rows
  pub applies : get_or rows row (false, BadDesk) ≡ (true, q)
  pub none_before : (i : ℕ) → i < row → (get_or rows i (false, BadDesk)).0 ≡ false

-- an answer by rows: refused with q exactly if q is the first that applies; not refused exactly if none applies. `number` gives an answer's number in the
-- paper, 0 where nothing is refused
pub record ByRows {A : Type 0} (rows : List (Bool × Refusal)) (answer : A) (refused : Refusal → A) (number : A → ℕ) : Type 0 where
  pub first : (q : Refusal) → (answer ≡ refused q) ↔ First rows q
  pub none : ((q : Refusal) → answer ≡ refused q → ⊥) ↔ ((i : ℕ) → i < length rows → (get_or rows i (false, BadDesk)).0 ≡ false)
  pub numbered : (q : Refusal) → First rows q → number answer ≡ number_of q
  pub no_number : ((i : ℕ) → i < length rows → (get_or rows i (false, BadDesk)).0 ≡ false) → number answer ≡ 0

-- ---- one result: two that an entry's statement allows are equal, answer and every buffer. Each contract is one equation with the whole result, so this is
-- seen at once; what it says is that no statement leaves a byte open

abbrev pub One : {R : Type 0} → R → Type 0
One {R} determined = (r r' : R) → r ≡ determined → r' ≡ determined → r ≡ r'

-- ---- the demand, entry by entry

pub record DemandOne (m : Means) (store : Store) : Type 0 where
  -- format
  pub format_by_rows : (b : Start) (lent : List ℕ)
      → ByRows (format_rows lent b.sizes.height b.sizes.slots b.room b.ids b.key b.starts) (format_for b lent).answer Err format_value
  pub format_refuses : (b : Start) (lent : List ℕ) (q : Refusal) → (format_for b lent).answer ≡ Err q → (format_for b lent).desk ≡ lent
  pub format_once : (b : Start) (lent : List ℕ) → One (format_for b lent)
  -- ask
  pub ask_by_rows : (desk : List ℕ) (kind : Kind) (id leaf : ℕ) (rec : List ℕ)
      → ByRows (ask_rows desk kind id leaf rec) (store.ask desk kind id leaf rec).answer Err (λ a. (asked_value a).0)
  pub ask_refuses : (desk : List ℕ) (kind : Kind) (id leaf : ℕ) (rec : List ℕ) (q : Refusal)
      → (store.ask desk kind id leaf rec).answer ≡ Err q → (store.ask desk kind id leaf rec).desk ≡ desk
  pub ask_once : (desk : List ℕ) (kind : Kind) (id leaf : ℕ) (rec : List ℕ) → One (store.ask desk kind id leaf rec)
  -- finish
  pub finish_by_rows : (desk path buffer : List ℕ) → ByRows (finish_rows m desk path buffer) (store.finish desk path buffer).answer Err (λ a. (finished_value a).0)
  pub finish_refuses : (desk path buffer : List ℕ) (q : Refusal) → (store.finish desk path buffer).answer ≡ Err q
      → OnlyStatus q desk (store.finish desk path buffer).desk × ((store.finish desk path buffer).path ≡ path) × ((store.finish desk path buffer).buffer ≡ buffer)
  pub finish_once : (desk path buffer : List ℕ) → One (store.finish desk path buffer)
  -- fetch and put
  pub fetch_by_rows : (s : Sizes) (leaf : ℕ) (tree path : List ℕ) → ByRows (tree_rows s leaf tree path) (fetch_of s leaf tree path).answer Err format_value
  pub fetch_refuses : (s : Sizes) (leaf : ℕ) (tree path : List ℕ) (q : Refusal) → (fetch_of s leaf tree path).answer ≡ Err q
      → ((fetch_of s leaf tree path).tree ≡ tree) × ((fetch_of s leaf tree path).path ≡ path)
  pub fetch_once : (s : Sizes) (leaf : ℕ) (tree path : List ℕ) → One (fetch_of s leaf tree path)
  pub put_by_rows : (s : Sizes) (leaf : ℕ) (tree path : List ℕ) → ByRows (tree_rows s leaf tree path) (put_of s leaf tree path).answer Err format_value
  pub put_refuses : (s : Sizes) (leaf : ℕ) (tree path : List ℕ) (q : Refusal) → (put_of s leaf tree path).answer ≡ Err q
      → ((put_of s leaf tree path).tree ≡ tree) × ((put_of s leaf tree path).path ≡ path)
  pub put_once : (s : Sizes) (leaf : ℕ) (tree path : List ℕ) → One (put_of s leaf tree path)
  -- a whole request; whether a desk is good
  pub request_once : (desk tree path buffer : List ℕ) (kind : Kind) (id leaf : ℕ) → One (request_of desk tree path buffer kind id leaf)
  pub good_once : (desk : List ℕ) → One (good_desk desk)
  -- a row of the verdict book: its own checks in order; a record read, and made
  pub row_by_rows : (desk tree : List ℕ) (first end : ℕ) (draws : List ℕ) → ByRows (row_rows desk tree first end draws) (row_checked desk tree first end draws) Err format_value
  pub row_once : (desk tree : List ℕ) (chapter first end : ℕ) (draws : List ℕ) → One (row_of desk tree chapter first end draws)
  pub read_once : (rec : List ℕ) → One (reading_of rec)
  pub make_once : (lent : List ℕ) (v : Verdict) (chapter year : ℕ) (name : List ℕ) → One (make_of lent v chapter year name)
  -- a text of TAP: read, after the row's checks, and written, after these and its buffer's
  pub tap_read_once : (desk tree : List ℕ) (chapter year first end : ℕ) (draws text : List ℕ) → One (read_of desk tree chapter year first end draws text)
  pub tap_write_by_rows : (desk tree : List ℕ) (first end : ℕ) (draws out : List ℕ)
      → ByRows (write_rows desk tree first end draws out) (write_checked desk tree first end draws out) Err format_value
  pub tap_write_once : (desk tree : List ℕ) (chapter first end : ℕ) (draws out : List ℕ) → One (write_of desk tree chapter first end draws out)
  -- the digest and the cipher
  pub digest_once : (text : List ℕ) → One (m.digest text)
  pub cipher_once : (key nonce text : List ℕ) → One (m.cipher key nonce text)
