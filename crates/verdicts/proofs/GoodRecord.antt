-- A record read: the tests of the code, put together, are those of a good record. Assumes nothing.
use Rattle.std.specs.Prelude.{None, Some}
use Prim.Native.Nat.{ℕ, ◌≤◌}
use mathlib.Core.Path.{◌≡◌, refl, ap, ◌∙◌}
use mathlib.Core.Bool.{Bool, true, false, ◌&&◌}
use mathlib.Core.List.{List}
use native.Mathlib.Omega.{arith}
use native.Mathlib.Nat.{min-le_left}
use lib.ListN.{length, get_or, drop, length-take}
use lib.Dec.{leb, eqb}
use borrow.Author.Tests.{eq-eqb, ne_eqb}
use Rattle.words.proofs.Tests.{by_cases}
use Rattle.sizes.specs.Sizes.{record_len}
use Rattle.verdicts.specs.declared.Entry.{Entry}
use Rattle.verdicts.specs.Verdict.{verdict_at, chapter_at, name_at, most_name, most_chapter, is_verdict, until_zero, is_padded, name_field, name_length, good_record, entry_in, reading_of}
use Rattle.verdicts.proofs.Name.{until-le}

pub reading-good : (rec : List ℕ) → good_record rec ≡ true → reading_of rec ≡ Some (entry_in rec)
reading-good rec h = rw h

pub reading-bad : (rec : List ℕ) → good_record rec ≡ false → reading_of rec ≡ None
reading-bad rec h = rw h

pub bad-length : (rec : List ℕ) → (length rec ≡ record_len → ⊥) → reading_of rec ≡ None
unfolding good_record
bad-length rec h = rw (ne_eqb (length rec) record_len h)

-- a first byte that is no verdict's number
pub no-verdict : (rec : List ℕ) → is_verdict (get_or rec verdict_at 0) ≡ false → good_record rec ≡ false
unfolding good_record
no-verdict rec h = rw h (by_cases (eqb (length rec) record_len) (λ e. rw e refl) (λ e. rw e refl))

-- a name is no longer than its field, however long the list is
name_short : (rec : List ℕ) → name_length rec ≤ most_name
unfolding name_length
name_short rec = omega (arith, until-le (name_field rec), length-take most_name (drop name_at rec), min-le_left most_name (length (drop name_at rec)))

pub length-short : (rec : List ℕ) (e : Entry) → reading_of rec ≡ Some e → e.length ≤ most_name
unfolding entry_in
length-short rec e h =
    by_cases (good_record rec)
    (λ g. let k : entry_in rec ≡ e = cc (reading-good rec g) in rw (← k) (name_short rec))
    (λ b. let z : ◌≡◌ {A = ℕ} 0 1 = cc (reading-bad rec b) in omega arith)

-- a record of the right length, whose field of the name was taken as a part of it
module _ (rec field : List ℕ) (l : length rec ≡ record_len) (f : field ≡ name_field rec) where
  pub length-is : {n : ℕ} → n ≡ until_zero field → n ≡ name_length rec
  unfolding name_length
  length-is h = h ∙ ap until_zero f

  pub tests-are : {n : ℕ} {v p : Bool} → n ≡ until_zero field → v ≡ is_verdict (get_or rec verdict_at 0) → p ≡ is_padded field n
      → (v && leb (get_or rec chapter_at 0) most_chapter && p) ≡ good_record rec
  unfolding good_record
  tests-are h a b = rw (eq-eqb (length rec) record_len l, ← f, ← length-is h, a, b)
