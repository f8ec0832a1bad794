-- Demand 1 holds of our store. Assumes nothing.
use Rattle.std.specs.Prelude.{Err, Result, Ok}
use Prim.Native.Nat.{ℕ}
use mathlib.Core.Path.{◌≡◌, refl, sym, ap, ◌∙◌}
use mathlib.Core.Bool.{Bool, true, false}
use mathlib.Core.List.{List}
use native.Mathlib.Omega.{arith}
use Rattle.sizes.specs.declared.Sizes.{Sizes}
use Rattle.sizes.specs.declared.Refusal.{Refusal}
use Rattle.sizes.specs.declared.Refusal.TheVariants.{BadDesk, Stopped, Open, NotOpen, BadId, BadLeaf, BadLength, BadSize, Forged, Worn, Full}
use Rattle.desk.specs.declared.Kind.{Kind}
use Rattle.desk.specs.declared.Kind.TheVariants.{Read, Write}
use Rattle.desk.specs.Readers.{position_of, kind_asked}
use Rattle.desk.specs.Status.{at_status, stopped, stopped_or}
use Rattle.desk.specs.Good.{good_desk}
use Rattle.items.specs.Items.{Means}
use Rattle.tree.specs.Tree.{tree_rows, tree_checked, fetch_of, put_of}
use Rattle.asks.specs.Ask.{ask_rows, ask_checked, asked_of, ask_of, asked_value, opened}
use Rattle.asks.proofs.Passed.{ask-spares}
use Rattle.formats.specs.Format.{format_rows, format_checked, formatted, format_value}
use Rattle.formats.proofs.Passed.{format-spares}
use Rattle.store.specs.Steps.{answer_for, was_marked}
use Rattle.store.specs.Finish.{finish_rows, finish_checked, finished_or, finish_of, finished_value}
use Rattle.requests.specs.Request.{request_of}
use Rattle.verdicts.specs.Verdict.{reading_of, make_of}
use Rattle.book.specs.MatrixRow.{row_rows, row_checked, row_of}
use Rattle.tap.specs.Tap.{read_of, write_rows, write_checked, write_of}
use Rattle.promises.specs.Stores.{ours, Start, format_for}
use Rattle.promises.specs.DemandOne.{OnlyStatus, ByRows, One, DemandOne}
use Rattle.promises.proofs.Rows.{reads}
use Rattle.promises.proofs.Answers.{finished-refused, asked-refused}

answer-number : (kind : Kind) (marked : Bool) → (finished_value (Ok (answer_for kind marked))).0 ≡ 0
answer-number Read true = refl
answer-number Read false = refl
answer-number Write marked = refl

-- ---- what a refusal changes

only-status : (q : Refusal) (desk : List ℕ) → OnlyStatus q desk (stopped q desk)
unfolding at_status
only-status BadDesk desk = (λ h. refl, λ h. absurd (omega arith))
only-status Stopped desk = (λ h. refl, λ h. absurd (omega arith))
only-status Open desk = (λ h. refl, λ h. absurd (omega arith))
only-status NotOpen desk = (λ h. refl, λ h. absurd (omega arith))
only-status BadId desk = (λ h. refl, λ h. absurd (omega arith))
only-status BadLeaf desk = (λ h. refl, λ h. absurd (omega arith))
only-status BadLength desk = (λ h. refl, λ h. absurd (omega arith))
only-status BadSize desk = (λ h. refl, λ h. absurd (omega arith))
only-status Forged desk = (λ h. absurd (omega arith), λ h. refl)
only-status Worn desk = (λ h. absurd (omega arith), λ h. refl)
only-status Full desk = (λ h. absurd (omega arith), λ h. refl)

once : {R : Type 0} (determined : R) → One determined
once determined r r' p q = p ∙ sym q

-- ---- entry by entry

format_read : (b : Start) (lent : List ℕ)
    → ByRows (format_rows lent b.sizes.height b.sizes.slots b.room b.ids b.key b.starts) (format_for b lent).answer Err format_value
unfolding format_checked
format_read b lent =
    reads (format_rows lent b.sizes.height b.sizes.slots b.room b.ids b.key b.starts) (format_for b lent).answer Err format_value
    (format_checked lent b.sizes.height b.sizes.slots b.room b.ids b.key b.starts) refl (λ q h. h) (λ q h. h) (λ q. refl) (ap format_value)

format-same : (b : Start) (lent : List ℕ) (q : Refusal) → (format_for b lent).answer ≡ Err q → (format_for b lent).desk ≡ lent
format-same b lent q h =
    ap (λ (o : Result Unit Refusal). stopped_or o lent (formatted b.sizes.height b.sizes.slots b.room b.ids b.key b.starts)) h
    ∙ format-spares lent b.sizes.height b.sizes.slots b.room b.ids b.key b.starts h lent

ask-read : (desk : List ℕ) (kind : Kind) (id leaf : ℕ) (rec : List ℕ) → ByRows (ask_rows desk kind id leaf rec) (ask_of desk kind id leaf rec).answer Err (λ a. (asked_value a).0)
unfolding ask_checked
ask-read desk kind id leaf rec =
    reads (ask_rows desk kind id leaf rec) (ask_of desk kind id leaf rec).answer Err (λ a. (asked_value a).0) (ask_checked desk kind id leaf rec) refl
    (asked-refused (ask_checked desk kind id leaf rec) (position_of desk id)) (λ q h. ap (λ (o : Result Unit Refusal). asked_of o (position_of desk id)) h)
    (λ q. refl) (ap (λ (o : Result Unit Refusal). (asked_value (asked_of o (position_of desk id))).0))

ask-same : (desk : List ℕ) (kind : Kind) (id leaf : ℕ) (rec : List ℕ) (q : Refusal)
    → (ask_of desk kind id leaf rec).answer ≡ Err q → (ask_of desk kind id leaf rec).desk ≡ desk
ask-same desk kind id leaf rec q h =
    let e = asked-refused (ask_checked desk kind id leaf rec) (position_of desk id) q h in
    ap (λ (o : Result Unit Refusal). stopped_or o desk (opened desk kind id leaf rec)) e ∙ ask-spares desk kind id leaf rec e desk

finish-read : (m : Means) (desk path buffer : List ℕ) → ByRows (finish_rows m desk path buffer) (finish_of m desk path buffer).answer Err (λ a. (finished_value a).0)
unfolding finish_checked
finish-read m desk path buffer =
    reads (finish_rows m desk path buffer) (finish_of m desk path buffer).answer Err (λ a. (finished_value a).0) (finish_checked m desk path buffer) refl
    (finished-refused (finish_checked m desk path buffer) (kind_asked desk) (was_marked m desk path))
    (λ q h. ap (λ (o : Result Unit Refusal). finished_or o (answer_for (kind_asked desk) (was_marked m desk path))) h)
    (λ q. refl)
    (λ h.
    ap (λ (o : Result Unit Refusal). (finished_value (finished_or o (answer_for (kind_asked desk) (was_marked m desk path)))).0) h
    ∙ answer-number (kind_asked desk) (was_marked m desk path))

pub finish-same : (m : Means) (desk path buffer : List ℕ) (q : Refusal) → (finish_of m desk path buffer).answer ≡ Err q
    → OnlyStatus q desk (finish_of m desk path buffer).desk × ((finish_of m desk path buffer).path ≡ path) × ((finish_of m desk path buffer).buffer ≡ buffer)
finish-same m desk path buffer q h =
    let e : finish_checked m desk path buffer ≡ Err q = finished-refused (finish_checked m desk path buffer) (kind_asked desk) (was_marked m desk path) q h in
    rw e (only-status q desk, refl, refl)

tree-read : (s : Sizes) (leaf : ℕ) (tree path : List ℕ) → ByRows (tree_rows s leaf tree path) (tree_checked s leaf tree path) Err format_value
unfolding tree_checked
tree-read s leaf tree path =
    reads (tree_rows s leaf tree path) (tree_checked s leaf tree path) Err format_value (tree_checked s leaf tree path) refl (λ q h. h) (λ q h. h) (λ q. refl)
    (ap format_value)

row_read : (desk tree : List ℕ) (first end : ℕ) (draws : List ℕ) → ByRows (row_rows desk tree first end draws) (row_checked desk tree first end draws) Err format_value
unfolding row_checked
row_read desk tree first end draws =
    reads (row_rows desk tree first end draws) (row_checked desk tree first end draws) Err format_value (row_checked desk tree first end draws) refl (λ q h. h)
    (λ q h. h) (λ q. refl) (ap format_value)

write_read : (desk tree : List ℕ) (first end : ℕ) (draws out : List ℕ)
    → ByRows (write_rows desk tree first end draws out) (write_checked desk tree first end draws out) Err format_value
unfolding write_checked
write_read desk tree first end draws out =
    reads (write_rows desk tree first end draws out) (write_checked desk tree first end draws out) Err format_value (write_checked desk tree first end draws out) refl
    (λ q h. h) (λ q h. h) (λ q. refl) (ap format_value)

pub demand-one : (m : Means) → DemandOne m (ours m)
demand-one m =
    record {
      format_by_rows = format_read;
      format_refuses = format-same;
      format_once = λ b lent. once (format_for b lent);
      ask_by_rows = ask-read;
      ask_refuses = ask-same;
      ask_once = λ desk kind id leaf rec. once (ask_of desk kind id leaf rec);
      finish_by_rows = finish-read m;
      finish_refuses = finish-same m;
      finish_once = λ desk path buffer. once (finish_of m desk path buffer);
      fetch_by_rows = tree-read;
      fetch_refuses = λ s leaf tree path q h. rw h (refl, refl);
      fetch_once = λ s leaf tree path. once (fetch_of s leaf tree path);
      put_by_rows = tree-read;
      put_refuses = λ s leaf tree path q h. rw h (refl, refl);
      put_once = λ s leaf tree path. once (put_of s leaf tree path);
      request_once = λ desk tree path buffer kind id leaf. once (request_of desk tree path buffer kind id leaf);
      good_once = λ desk. once (good_desk desk);
      row_by_rows = row_read;
      row_once = λ desk tree chapter first end draws. once (row_of desk tree chapter first end draws);
      read_once = λ rec. once (reading_of rec);
      make_once = λ lent v chapter year name. once (make_of lent v chapter year name);
      tap_read_once = λ desk tree chapter year first end draws text. once (read_of desk tree chapter year first end draws text);
      tap_write_by_rows = write_read;
      tap_write_once = λ desk tree chapter first end draws out. once (write_of desk tree chapter first end draws out);
      digest_once = λ text. once (m.digest text);
      cipher_once = λ key nonce text. once (m.cipher key nonce text);
    }
