-- A plain name, read with what is printed behind it, is the name, and its verdict the one printed. Assumes nothing.
use Prim.Native.Nat.{ℕ, suc, ◌+◌, ◌-◌}
use mathlib.Core.Path.{◌≡◌, refl, sym, ap, ◌∙◌}
use mathlib.Core.Logic.{◌≢◌}
use mathlib.Core.List.{List, [], ◌∷◌, ◌++◌}
use native.Mathlib.Nat.{add-zero}
use native.Mathlib.Numerals.{add-one}
use native.Mathlib.Omega.{arith}
use lib.ListN.{length, take, drop, get_or, get_or-append}
use lib.Seq.{drop-append-add, take-append_seam, get_or-append_seam}
use Rattle.words.specs.Bytes.{same}
use Rattle.text.specs.Text.{space}
use Rattle.verdicts.specs.declared.Verdict.{Verdict}
use Rattle.verdicts.specs.declared.Verdict.TheVariants.{Pass, Fail, Skipped, Error}
use Rattle.lines.specs.Words.{hash, capitals}
use Rattle.lines.specs.Line.{leading, trimmed, directive_at, until_directive, verdict_by}
use Rattle.printing.specs.Printed.{directive_text}
use Rattle.returning.specs.Returning.{Plain}
use Rattle.returning.proofs.Free.{Free}
use Rattle.returning.proofs.Ends.{leading-none, trimmed-space, trimmed-none, until-free}
use Rattle.returning.proofs.Tails.{is_ok, tail_of, verdict_read, name_read}

pub record Reads (v : Verdict) (name ys : List ℕ) : Type 0 where
  pub verdict_is : verdict_read (is_ok v) ys ≡ v
  pub name_is : name_read ys ≡ name

-- what is printed behind a name says the verdict
verdict-there : (v : Verdict) → verdict_by (is_ok v) (directive_at (drop (until_directive (directive_text v)) (directive_text v))) ≡ v
unfolding leading until_directive same capitals
verdict-there Pass = refl
verdict-there Fail = refl
verdict-there Skipped = refl
verdict-there Error = refl

-- an empty name
none_reads : (v : Verdict) → Reads v [] (tail_of v [])
unfolding leading until_directive trimmed same capitals
none_reads Pass = record { verdict_is = refl; name_is = refl }
none_reads Fail = record { verdict_is = refl; name_is = refl }
none_reads Skipped = record { verdict_is = refl; name_is = refl }
none_reads Error = record { verdict_is = refl; name_is = refl }

-- one that is not, of m + 1 bytes
module _ (v : Verdict) (name : List ℕ) (m : ℕ) (long : length name ≡ suc m) (free : Free hash name) (last : get_or name m 0 ≢ space) where
  abbrev ys : List ℕ
  ys = name ++ directive_text v

  until-is : until_directive ys ≡ length name + until_directive (directive_text v)
  until-is = until-free name (directive_text v) free

  last-there : get_or ys m 0 ≢ space
  last-there = rw (get_or-append name (directive_text v) 0 m (omega arith)) last

  trims-to : trimmed (length name) ys ≡ length name
  trims-to = ap (λ (k : ℕ). trimmed k ys) long ∙ trimmed-none m ys last-there ∙ sym long

  space-there : (ds : List ℕ) → trimmed (length name + 1) (name ++ (space ∷ ds)) ≡ trimmed (length name) (name ++ (space ∷ ds))
  space-there ds =
      ap (λ (k : ℕ). trimmed k (name ++ (space ∷ ds))) (add-one (length name))
      ∙ trimmed-space (length name) (name ++ (space ∷ ds)) (get_or-append_seam name space ds 0)

  ys-reads : trimmed (length name + until_directive (directive_text v)) ys ≡ trimmed (length name) ys → Reads v name ys
  ys-reads h =
      record {
        verdict_is =
            ap (λ (k : ℕ). verdict_by (is_ok v) (directive_at (drop k ys))) until-is
            ∙ ap (λ (l : List ℕ). verdict_by (is_ok v) (directive_at l)) (drop-append-add name (directive_text v) (until_directive (directive_text v)))
            ∙ verdict-there v;
        name_is = ap (λ (k : ℕ). take k ys) (ap (λ (k : ℕ). trimmed k ys) until-is ∙ h ∙ trims-to) ∙ take-append_seam name (directive_text v);
      }

some-reads : (v : Verdict) (name : List ℕ) (m : ℕ) → length name ≡ suc m → Free hash name → get_or name m 0 ≢ space → Reads v name (name ++ directive_text v)
unfolding until_directive leading same capitals
some-reads Pass name m l f e = ys-reads Pass name m l f e (rw add-zero)
some-reads Fail name m l f e = ys-reads Fail name m l f e (rw add-zero)
some-reads Skipped name m l f e = ys-reads Skipped name m l f e (space-there Skipped name m l f e (drop 1 (directive_text Skipped)))
some-reads Error name m l f e = ys-reads Error name m l f e (space-there Error name m l f e (drop 1 (directive_text Error)))

pub plain-reads : (v : Verdict) (name : List ℕ) → Plain name → Reads v name (tail_of v name)
plain-reads v [] p = none_reads v
plain-reads v (x ∷ xs) p =
    let z : leading (x ∷ xs ++ directive_text v) ≡ 0 = leading-none x (xs ++ directive_text v) p.no_space_before in
    let m : suc (length xs) - 1 ≡ length xs = omega arith in
    rw z (some-reads v (x ∷ xs) (length xs) refl p.no_hash (rw m at p.no_space_behind))
