-- What can be read back, and what is known of a good record: its length, its tests, and a name that can be read back. Assumes nothing.
use Rattle.std.specs.Prelude.{None, Some}
use Prim.Native.Nat.{ℕ, ◌≤◌}
use mathlib.Core.Path.{◌≡◌, refl, sym, ap, subst, ◌∙◌}
use mathlib.Core.Bool.{Bool, true, false, cond}
use mathlib.Core.List.{List, [], ◌∷◌}
use native.Mathlib.Omega.{arith}
use lib.ListN.{length, get_or, take}
use lib.Dec.{leb, eqb}
use borrow.Author.Tests.{eq-eqb, eqb-true, leb-true, le-leb}
use Rattle.words.specs.Bytes.{part}
use Rattle.words.specs.Tests.{every, Each}
use Rattle.words.proofs.Tests.{and_left, and_right, each, every_of}
use Rattle.words.proofs.Splice.{length_part, part-part}
use Rattle.sizes.specs.Sizes.{record_len}
use Rattle.verdicts.specs.declared.Entry.{Entry}
use Rattle.verdicts.specs.Verdict.{name_at, most_name, most_chapter, is_verdict, until_zero, is_padded, name_field, name_length, good_record, entry_in, reading_of, name_in, can_be_read}
use Rattle.verdicts.proofs.Name.{until-le, until-take}

-- ---- what can be read back

pub record Readable (chapter : ℕ) (name : List ℕ) : Type 0 where
  pub chapter_high : leb chapter most_chapter ≡ true
  pub name_short : length name ≤ most_name
  pub no_zero : until_zero name ≡ length name

abbrev asked : ℕ → List ℕ → List Bool
asked chapter name = leb chapter most_chapter ∷ leb (length name) most_name ∷ eqb (until_zero name) (length name) ∷ []

pub readable : (chapter : ℕ) (name : List ℕ) → can_be_read chapter name ≡ true → Readable chapter name
unfolding can_be_read
readable chapter name h =
    let e = each (asked chapter name) h in
    record { chapter_high = e.0; name_short = leb-true _ _ e.1.0; no_zero = eqb-true _ _ e.1.1.0 }

pub can-read : (chapter : ℕ) (name : List ℕ) → Readable chapter name → can_be_read chapter name ≡ true
unfolding can_be_read
can-read chapter name r =
    every_of (asked chapter name) (r.chapter_high, (le-leb (length name) most_name r.name_short, (eq-eqb (until_zero name) (length name) r.no_zero, tt)))

-- ---- a good record

module _ (rec : List ℕ) (good : good_record rec ≡ true) where
  abbrev field : List ℕ
  field = name_field rec

  abbrev n : ℕ
  n = name_length rec

  abbrev tests : List Bool
  tests = is_verdict (get_or rec 0 0) ∷ leb (get_or rec 1 0) most_chapter ∷ is_padded field n ∷ []

  pub whole : length rec ≡ record_len
  unfolding good_record
  whole = eqb-true _ _ (and_left (eqb (length rec) record_len) (every tests) good)

  pub tested : Each tests
  unfolding good_record
  tested = each tests (and_right (eqb (length rec) record_len) (every tests) good)

  pub field-long : length field ≡ most_name
  field-long = length_part rec name_at most_name (omega (arith, whole))

  pub name-low : n ≤ most_name
  unfolding name_length
  name-low = omega (arith, until-le field, field-long)

  -- the name, as the front of its field
  pub front : take n field ≡ part rec name_at n
  front = part-part rec name_at most_name 0 n (omega (arith, name-low))

  pub name-long : length (part rec name_at n) ≡ n
  name-long = length_part rec name_at n (omega (arith, whole, name-low))

  name-whole : until_zero (part rec name_at n) ≡ length (part rec name_at n)
  unfolding name_length
  name-whole = ap until_zero (sym front) ∙ until-take field ∙ sym name-long

  says-readable : Readable (entry_in rec).chapter (name_in rec (entry_in rec))
  unfolding entry_in
  says-readable = record { chapter_high = tested.1.0; name_short = omega (arith, name-long, name-low); no_zero = name-whole }

-- ---- a reading that is good is that of a good record

good-case : (k : Bool) (x e : Entry) → cond k (Some x) None ≡ Some e → (k ≡ true) × (x ≡ e)
good-case true x e h = (refl, cc)
good-case false x e h = let z : ◌≡◌ {A = ℕ} 0 1 = cc in absurd (omega arith)

pub entry_read : (rec : List ℕ) (e : Entry) → reading_of rec ≡ Some e → (good_record rec ≡ true) × (entry_in rec ≡ e)
entry_read rec e h = good-case (good_record rec) (entry_in rec) e h

pub read-readable : (rec : List ℕ) (e : Entry) → reading_of rec ≡ Some e → Readable e.chapter (name_in rec e)
read-readable rec e h =
    let k = entry_read rec e h in
    subst (λ (x : Entry). Readable x.chapter (name_in rec x)) k.1 (says-readable rec k.0)
