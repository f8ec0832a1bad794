-- A verdict made, then read, is the same; and a record that reads as a verdict is the one that making gives. Assumes nothing.
use Rattle.std.specs.Prelude.{Some}
use Prim.Native.Nat.{ℕ, ◌-◌, ◌<◌}
use mathlib.Core.Path.{◌≡◌, refl, sym, ap, ap₂, subst, ◌∙◌}
use mathlib.Core.Bool.{true}
use mathlib.Core.List.{List, [], ◌∷◌, ◌++◌}
use native.Mathlib.Omega.{arith}
use lib.ListN.{length, get_or, drop, length-append, take-append-drop}
use lib.Dec.{leb, eqb}
use borrow.Author.Tests.{eq-eqb, eqb-true, eqb-false, leb-true}
use Rattle.words.specs.Bytes.{part, zeros}
use Rattle.words.specs.Numbers.{number, bytes_of}
use Rattle.words.specs.Tests.{all_zero}
use Rattle.words.proofs.Tests.{by_cases, each, zeros-zero}
use Rattle.words.proofs.Splice.{length_part, part_left, part_right, part-whole, part-tail, part-add, part-cons, length-zeros}
use Rattle.words.proofs.Numbers.{number-bytes_of}
use Rattle.sizes.specs.Sizes.{record_len}
use Rattle.slots.specs.Slots.{Bytes}
use Rattle.slots.proofs.Numbers.{bytes_of-number}
use Rattle.desk.proofs.Request.{zero-zeros}
use Rattle.verdicts.specs.declared.Verdict.{Verdict}
use Rattle.verdicts.specs.declared.Verdict.TheVariants.{Pass, Fail, Skipped, Error}
use Rattle.verdicts.specs.declared.Entry.{Entry}
use Rattle.verdicts.specs.Verdict.{name_at, year_at, year_len, most_name, verdict_number, is_verdict, verdict_of, until_zero, is_padded, name_field, name_length, good_record, entry_in, reading_of, name_in, head_of, record_of, entry, ReadsBack, MadeAgain, VerdictLaws}
use Rattle.verdicts.proofs.Name.{until-append}
use Rattle.verdicts.proofs.GoodRecord.{reading-good}
use Rattle.verdicts.proofs.Readable.{Readable, readable, can-read, whole, tested, field-long, name-low, front, name-long, entry_read, read-readable}
use Rattle.verdicts.proofs.Written.{length-head, length-record}

-- ---- numbers of verdicts

is-verdict : (v : Verdict) → is_verdict (verdict_number v) ≡ true
is-verdict Pass = refl
is-verdict Fail = refl
is-verdict Skipped = refl
is-verdict Error = refl

pub verdict-back : (v : Verdict) → verdict_of (verdict_number v) ≡ v
verdict-back Pass = refl
verdict-back Fail = refl
verdict-back Skipped = refl
verdict-back Error = refl

number-back : (x : ℕ) → is_verdict x ≡ true → verdict_number (verdict_of x) ≡ x
number-back x h =
    by_cases (eqb x 1) (λ e. rw e (sym (eqb-true _ _ e)))
    (λ n1. by_cases (eqb x 2) (λ e. rw (n1, e) (sym (eqb-true _ _ e)))
    (λ n2. by_cases (eqb x 3) (λ e. rw (n1, n2, e) (sym (eqb-true _ _ e)))
    (λ n3. rw (n1, n2, n3) (four x (each (leb 1 x ∷ leb x 4 ∷ []) h).0 (each (leb 1 x ∷ leb x 4 ∷ []) h).1.0 (eqb-false _ _ n1) (eqb-false _ _ n2) (eqb-false _ _ n3)))))
  where
    four : (x : ℕ) → leb 1 x ≡ true → leb x 4 ≡ true → (x ≡ 1 → ⊥) → (x ≡ 2 → ⊥) → (x ≡ 3 → ⊥) → 4 ≡ x
    four x a b n1 n2 n3 = omega (arith, leb-true 1 x a, leb-true x 4 b)

-- ---- made, then read

module _ (v : Verdict) (chapter year : ℕ) (name : List ℕ) (y : year < 65536) (can : Readable chapter name) where
  abbrev pad : List ℕ
  pad = zeros (most_name - length name)

  field-length : length (name ++ pad) ≡ most_name
  field-length = omega (arith, length-append name pad, length-zeros (most_name - length name), can.name_short)

  field_is : name_field (record_of v chapter year name) ≡ name ++ pad
  unfolding record_of
  field_is =
      part_right (head_of v chapter year) (name ++ pad) 0 name_at most_name (omega (arith, length-head v chapter year))
      ∙ part-whole (name ++ pad) most_name (omega (arith, field-length))

  name-length : name_length (record_of v chapter year name) ≡ length name
  unfolding name_length
  name-length = ap until_zero field_is ∙ until-append name (most_name - length name) can.no_zero

  rest : length (name ++ pad) - length name ≡ most_name - length name
  rest = omega (arith, field-length)

  padded : is_padded (name ++ pad) (length name) ≡ true
  padded =
      ap all_zero
      (ap (part (name ++ pad) (length name)) rest ∙ part_right name pad 0 (length name) (most_name - length name) (omega arith)
      ∙ part-whole pad (most_name - length name) (omega (arith, length-zeros (most_name - length name))))
      ∙ zeros-zero (most_name - length name)

  head-verdict : get_or (record_of v chapter year name) 0 0 ≡ verdict_number v
  unfolding record_of
  head-verdict = refl

  head-chapter : get_or (record_of v chapter year name) 1 0 ≡ chapter
  unfolding record_of
  head-chapter = refl

  good : good_record (record_of v chapter year name) ≡ true
  unfolding good_record
  good =
      rw (
        eq-eqb _ _ (length-record v chapter year name can.name_short),
        field_is,
        name-length,
        head-verdict,
        head-chapter,
        is-verdict v,
        can.chapter_high,
        padded,
      )

  year-is : number year_len (record_of v chapter year name) year_at ≡ year
  unfolding record_of bytes_of number
  year-is = number-bytes_of 2 year (omega arith)

  entry-is : entry_in (record_of v chapter year name) ≡ entry v chapter year (length name)
  unfolding entry_in
  entry-is = rw (head-verdict, verdict-back v, head-chapter, year-is, name-length)

  name_back : name_in (record_of v chapter year name) (entry v chapter year (length name)) ≡ name
  unfolding record_of
  name_back =
      part_right (head_of v chapter year) (name ++ pad) 0 name_at (length name) (omega (arith, length-head v chapter year))
      ∙ part_left name pad 0 (length name) (omega arith) ∙ part-whole name (length name) (omega arith)

  reads-back : ReadsBack v chapter year name
  reads-back = record { reads = reading-good (record_of v chapter year name) good ∙ ap Some entry-is; name_is = name_back }

-- ---- read, then made

module _ (rec : List ℕ) (bytes : Bytes rec) (good : good_record rec ≡ true) where
  abbrev field : List ℕ
  field = name_field rec

  abbrev n : ℕ
  n = name_length rec

  -- the rest of the name's field is zeros
  pad-is : drop n field ≡ zeros (most_name - n)
  pad-is =
      sym (part-tail field n (length field - n) (omega arith)) ∙ zero-zeros (part field n (length field - n)) (tested rec good).1.1.0
      ∙ ap zeros (length_part field n (length field - n) (omega (arith, name-low rec good, field-long rec good)) ∙ ap (λ (k : ℕ). k - n) (field-long rec good))

  field-made : part rec name_at n ++ zeros (most_name - n) ≡ field
  field-made = ap₂ (λ (a b : List ℕ). a ++ b) (sym (front rec good)) (sym pad-is) ∙ take-append-drop n field

  head-made : head_of (verdict_of (get_or rec 0 0)) (get_or rec 1 0) (number year_len rec year_at) ≡ part rec 0 name_at
  head-made =
      ap₂ (λ (x : ℕ) (ys : List ℕ). x ∷ get_or rec 1 0 ∷ ys) (number-back (get_or rec 0 0) (tested rec good).0) (bytes_of-number year_len rec year_at bytes (omega (arith, whole rec good)))
      ∙ sym (part-cons rec 0 3 (omega (arith, whole rec good)) ∙ ap (λ (ys : List ℕ). get_or rec 0 0 ∷ ys) (part-cons rec 1 2 (omega (arith, whole rec good))))

  made : record_of (verdict_of (get_or rec 0 0)) (get_or rec 1 0) (number year_len rec year_at) (part rec name_at n) ≡ rec
  unfolding record_of
  made =
      ap (λ (k : ℕ). head_of (verdict_of (get_or rec 0 0)) (get_or rec 1 0) (number year_len rec year_at) ++ (part rec name_at n ++ zeros (most_name - k))) (name-long rec good)
      ∙ ap₂ (λ (a b : List ℕ). a ++ b) head-made field-made ∙ sym (part-add rec 0 name_at most_name) ∙ part-whole rec record_len (omega (arith, whole rec good))

  made-entry : record_of (entry_in rec).verdict (entry_in rec).chapter (entry_in rec).year (name_in rec (entry_in rec)) ≡ rec
  unfolding entry_in
  made-entry = made

made_again : (rec : List ℕ) (e : Entry) → Bytes rec → reading_of rec ≡ Some e → MadeAgain rec e
made_again rec e bytes h =
    let k = entry_read rec e h in
    record {
      can = can-read e.chapter (name_in rec e) (read-readable rec e h);
      makes = subst (λ (x : Entry). record_of x.verdict x.chapter x.year (name_in rec x) ≡ rec) k.1 (made-entry rec bytes k.0);
    }

pub verdict-laws : VerdictLaws
verdict-laws = record { made_read = λ v chapter year name y h. reads-back v chapter year name y (readable chapter name h); read_made = made_again }
