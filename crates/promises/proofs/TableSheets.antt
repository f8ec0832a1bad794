-- A sheet beside the plain table: the table after one more entry, and the sheet that says a table. Assumes nothing.
use Prim.Native.Nat.{ℕ, zero, suc, ◌+◌, ◌-◌, ◌*◌, ◌<◌, ◌≤◌}
use mathlib.Core.Path.{◌≡◌, refl, sym, ap, ap₂, ◌∙◌}
use mathlib.Core.Bool.{Bool, cond}
use mathlib.Core.Option.{Option, none, some}
use mathlib.Core.List.{List, ◌++◌}
use native.Mathlib.Omega.{arith}
use lib.ListN.{length, take, length-append}
use lib.Dec.{eqb}
use borrow.Author.Tests.{lt-ltb, le-ltb, le-leb, lt-leb, eqb-true, eqb-false}
use Rattle.words.specs.Bytes.{part, zeros}
use Rattle.words.proofs.Tests.{by_cases, below_or}
use Rattle.words.proofs.Splice.{part_left, part_right, part-whole, part-add, length-zeros, take-zeros, drop-zeros}
use Rattle.sizes.specs.Sizes.{record_len}
use Rattle.keeping.specs.Table.{Table, plain_held, plain_table}
use Rattle.sheets.specs.Sheet.{entry_start, entry_at, is_record, empty_sheet}
use Rattle.passing.specs.Passing.{kind_of}
use Rattle.promises.specs.Taps.{entry_or, table_after, entry_held, table_sheet}

-- ---- the table after a sheet: in the range, and on both sides of it

module _ (first : ℕ) (sheet : List ℕ) (table : Table) where
  pub after-in : (k u : ℕ) → first ≤ u → u < first + k → table_after first k sheet table u ≡ entry_or (entry_at sheet (u - first)) (table u)
  after-in k u g l = rw (le-leb first u g, lt-ltb u (first + k) l) refl

  pub after-below : (k u : ℕ) → u < first → table_after first k sheet table u ≡ table u
  after-below k u l = rw (lt-leb first u l) refl

  pub after-above : (k u : ℕ) → first + k ≤ u → table_after first k sheet table u ≡ table u
  after-above k u g = rw (le-leb first u (omega arith), le-ltb u (first + k) g) refl

  pub after_none : (u : ℕ) → table_after first 0 sheet table u ≡ table u
  after_none u = below_or u first (after-below 0 u) (λ g. after-above 0 u (omega arith))

  -- ---- and after one more entry: a request of its kind

  entry-held : (entry : List ℕ) (held : Option (List ℕ)) → plain_held (kind_of entry) held entry ≡ entry_or entry held
  entry-held entry held = by_cases (is_record entry) (λ t. rw t refl) (λ t. rw t refl)

  elsewhere : (i u : ℕ) → (u ≡ first + i → ⊥) → table_after first i sheet table u ≡ table_after first (suc i) sheet table u
  elsewhere i u n =
      below_or u first
      (λ l. after-below i u l ∙ sym (after-below (suc i) u l))
      (λ g.
      below_or u (first + i)
      (λ l. after-in i u g l ∙ sym (after-in (suc i) u g (omega arith)))
      (λ h.
      below_or u (first + suc i)
      (λ l. absurd (n (omega arith)))
      (λ k. after-above i u h ∙ sym (after-above (suc i) u k))))

  here : (i u : ℕ) → u ≡ first + i
      → plain_held (kind_of (entry_at sheet i)) (table_after first i sheet table u) (entry_at sheet i) ≡ table_after first (suc i) sheet table u
  here i u e =
      let j : i ≡ u - first = omega arith in
      ap (λ (held : Option (List ℕ)). plain_held (kind_of (entry_at sheet i)) held (entry_at sheet i)) (after-above i u (omega arith))
      ∙ entry-held (entry_at sheet i) (table u) ∙ ap (λ (k : ℕ). entry_or (entry_at sheet k) (table u)) j
      ∙ sym (after-in (suc i) u (omega arith) (omega arith))

  pub after_one : (i u : ℕ) → plain_table (kind_of (entry_at sheet i)) (first + i) (entry_at sheet i) (table_after first i sheet table) u ≡ table_after first (suc i) sheet table u
  after_one i u =
      let both : Bool → Option (List ℕ) =
      λ x. cond x (plain_held (kind_of (entry_at sheet i)) (table_after first i sheet table u) (entry_at sheet i)) (table_after first i sheet table u) in
      by_cases (eqb u (first + i))
      (λ t. ap both t ∙ here i u (eqb-true u (first + i) t))
      (λ t. ap both t ∙ elsewhere i u (eqb-false u (first + i) t))

-- ---- an empty sheet leaves every id, and holds none

pub empty-entry : (n j : ℕ) → j < n → entry_at (empty_sheet n) j ≡ zeros record_len
empty-entry n j l = ap (take record_len) (drop-zeros (entry_start j) (n * record_len)) ∙ take-zeros record_len (n * record_len - entry_start j) (omega arith)

pub empty-after : (first n k : ℕ) (table : Table) → k ≤ n → (u : ℕ) → table_after first k (empty_sheet n) table u ≡ table u
empty-after first n k table g u =
    below_or u first
    (after-below first (empty_sheet n) table k u)
    (λ h.
    below_or u (first + k)
    (λ l.
    after-in first (empty_sheet n) table k u h l ∙ ap (λ (entry : List ℕ). entry_or entry (table u)) (empty-entry n (u - first) (omega arith)))
    (after-above first (empty_sheet n) table k u))

-- ---- the sheet whose entries are what the table holds

pub sheet-says : (table : Table) (first : ℕ) (sheet : List ℕ) (n : ℕ) → ((j : ℕ) → j < n → entry_at sheet j ≡ entry_held (table (first + j)))
    → part sheet 0 (n * record_len) ≡ table_sheet table first n
unfolding table_sheet
sheet-says table first sheet zero h = refl
sheet-says table first sheet (suc n) h =
    let e : suc n * record_len ≡ n * record_len + record_len = omega arith in
    let k : 0 + n * record_len ≡ n * record_len = omega arith in
    ap (part sheet 0) e ∙ part-add sheet 0 (n * record_len) record_len
    ∙ ap₂ (λ (x y : List ℕ). x ++ y) (sheet-says table first sheet n (λ j l. h j (omega arith))) (ap (λ (a : ℕ). part sheet a record_len) k ∙ h n (omega arith))

-- ---- the sheet of a table, entry by entry

module _ (table : Table) (first : ℕ) (sized : (u : ℕ) (rec : List ℕ) → table u ≡ some rec → length rec ≡ record_len) where
  held-size : (held : Option (List ℕ)) → ((rec : List ℕ) → held ≡ some rec → length rec ≡ record_len) → length (entry_held held) ≡ record_len
  held-size none h = length-zeros record_len
  held-size (some rec) h = h rec refl

  table-long : (n : ℕ) → length (table_sheet table first n) ≡ n * record_len
  unfolding table_sheet
  table-long zero = omega arith
  table-long (suc n) =
      length-append (table_sheet table first n) (entry_held (table (first + n)))
      ∙ omega (arith, table-long n, held-size (table (first + n)) (sized (first + n)))

  pub table-entry : (n i : ℕ) → i < n → entry_at (table_sheet table first n) i ≡ entry_held (table (first + i))
  unfolding table_sheet
  table-entry zero i l = absurd (omega arith)
  table-entry (suc n) i l =
      let k = table-long n in
      below_or i n
      (λ h. part_left (table_sheet table first n) (entry_held (table (first + n))) (entry_start i) record_len (omega arith) ∙ table-entry n i h)
      (λ h.
      let e : n ≡ i = omega arith in
      part_right (table_sheet table first n) (entry_held (table (first + n))) 0 (entry_start i) record_len (omega arith)
      ∙ part-whole (entry_held (table (first + n))) record_len (omega (arith, held-size (table (first + n)) (sized (first + n))))
      ∙ ap (λ (u : ℕ). entry_held (table (first + u))) e)
