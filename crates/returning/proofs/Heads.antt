-- The printed lines, read: the version, the plan, and a line for a verdict. Assumes nothing.
use Prim.Native.Nat.{ℕ, suc, ◌+◌, ◌<◌}
use mathlib.Core.Path.{◌≡◌, refl, sym, ap, ◌∙◌}
use mathlib.Core.Bool.{Bool, true}
use mathlib.Core.List.{List, [], ◌∷◌, ◌++◌, append-nil, append_assoc}
use native.Mathlib.Omega.{arith}
use lib.ListN.{length, drop, length-append}
use lib.Seq.{drop_at, get_or_at, drop-drop, drop-length}
use borrow.Author.Tests.{lt-ltb, le-leb}
use Rattle.words.specs.Bytes.{same}
use Rattle.text.specs.Text.{space}
use Rattle.text.specs.Fronts.{digits}
use Rattle.listing.specs.Listing.{decimal}
use Rattle.verdicts.specs.declared.Verdict.{Verdict}
use Rattle.verdicts.specs.declared.Verdict.TheVariants.{Pass, Fail, Skipped, Error}
use Rattle.verdicts.specs.Verdict.{can_be_read}
use Rattle.lines.specs.declared.Test.{Test}
use Rattle.lines.specs.declared.Line.TheVariants as line
use Rattle.lines.specs.Words.{version_line, plan_word, dash_text}
use Rattle.lines.specs.Line.{leading, after_spaces, count, count_of, front_len, past_space, description_at, ends_number, test_from, held_by, test_by, test_after, plan_by, plan_after, line_of, description_in}
use Rattle.printing.specs.Printed.{kind_text, directive_text}
use Rattle.returning.proofs.Decimals.{decimal-digits, decimal-value, decimal-some, digits-then}
use Rattle.returning.proofs.Tails.{is_ok, tail_of, verdict_read, name_read}

-- ---- a number, where no digit follows it

count-is : (k : ℕ) (ys : List ℕ) → k < 65536 → digits ys ≡ [] → count_of (decimal k ++ ys) ≡ count k (length (decimal k))
count-is k ys h e = rw (digits-then (decimal k) ys (decimal-digits k) e, decimal-value k h, lt-ltb k 65536 h)

-- ---- the version and the plan

pub version-read : (chapter : ℕ) → line_of chapter version_line ≡ line.Version
unfolding line_of same
version-read chapter = refl

plan_after_lem : (n : ℕ) → n < 65536 → plan_after (decimal n) ≡ line.Plan n
unfolding plan_after digits leading
plan_after_lem n h =
    let c : count_of (decimal n) ≡ count n (length (decimal n)) = ap count_of (sym (append-nil (decimal n))) ∙ count-is n [] h refl in
    let d : drop (length (decimal n)) (decimal n) ≡ [] = drop-length (decimal n) in
    ap (plan_by (decimal n)) c ∙ rw (d, le-leb 1 (length (decimal n)) (decimal-some n))

pub plan-read : (chapter n : ℕ) → n < 65536 → line_of chapter (plan_word ++ decimal n) ≡ line.Plan n
unfolding line_of same
plan-read chapter n h = plan_after_lem n h

-- ---- a line for a verdict

abbrev pub line_for : ℕ → Verdict → List ℕ → List ℕ
line_for k v name = kind_text v ++ (decimal k ++ (dash_text ++ (name ++ directive_text v)))

pub record IsTest (chapter k : ℕ) (v : Verdict) (name : List ℕ) : Type 0 where
  pub says : Test
  pub reads : line_of chapter (line_for k v name) ≡ line.Test says
  pub number_is : says.number ≡ k
  pub verdict_is : says.verdict ≡ verdict_read (is_ok v) (tail_of v name)
  pub name_is : description_in (line_for k v name) says ≡ name_read (tail_of v name)

-- after the word: number, space, hyphen, space, and the tail
module _ (word : List ℕ) (k : ℕ) (low : k < 65536) (rest : List ℕ) where
  abbrev xs : List ℕ
  xs = word ++ (decimal k ++ (dash_text ++ rest))

  abbrev at : ℕ
  at = length word + length (decimal k)

  abbrev from : ℕ
  from = description_at at xs

  head-long : length (word ++ decimal k) ≡ at
  head-long = length-append word (decimal k)

  xs-is : xs ≡ (word ++ decimal k) ++ (dash_text ++ rest)
  xs-is = sym (append_assoc word (decimal k) (dash_text ++ rest))

  count-there : count_of (drop (length word) xs) ≡ count k (length (decimal k))
  unfolding digits
  count-there = ap count_of (drop_at word (decimal k ++ (dash_text ++ rest)) (length word) refl) ∙ count-is k (dash_text ++ rest) low refl

  ends_there : ends_number at xs ≡ true
  ends_there = rw (xs-is, get_or_at (word ++ decimal k) 32 (45 ∷ 32 ∷ rest) space at head-long)

  past_is : past_space at (length xs) ≡ at + 1
  past_is = rw (lt-ltb at (length xs) (omega (arith, ap length xs-is, length-append (word ++ decimal k) (dash_text ++ rest), head-long)))

  past-there : drop (at + 1) xs ≡ 45 ∷ 32 ∷ rest
  past-there = sym (drop-drop 1 at xs) ∙ ap (drop 1) (ap (drop at) xs-is ∙ drop_at (word ++ decimal k) (dash_text ++ rest) at head-long)

  front-is : front_len (45 ∷ 32 ∷ rest) ≡ 2 + leading rest
  unfolding leading
  front-is = omega arith

  from_is : from ≡ at + 1 + (2 + leading rest)
  from_is = rw (past_is, past-there, front-is)

  tail-there : drop from xs ≡ after_spaces rest
  tail-there =
      let e : 2 + leading rest ≡ suc (suc (leading rest)) = omega arith in
      ap (λ (j : ℕ). drop j xs) from_is ∙ sym (drop-drop (2 + leading rest) (at + 1) xs) ∙ rw (past-there, e)

  pub test-there : (chapter : ℕ) (ok : Bool) → test_after chapter ok (length word) xs ≡ held_by chapter xs (test_from ok k xs from)
  unfolding test_after
  test-there chapter ok = ap (test_by chapter ok (length word) xs) count-there ∙ rw (ends_there, le-leb 1 (length (decimal k)) (decimal-some k))

-- the line's word says which
by_word : (chapter : ℕ) (v : Verdict) (ys : List ℕ) → line_of chapter (kind_text v ++ ys) ≡ test_after chapter (is_ok v) (length (kind_text v)) (kind_text v ++ ys)
unfolding line_of same
by_word chapter Pass ys = refl
by_word chapter Fail ys = refl
by_word chapter Skipped ys = refl
by_word chapter Error ys = refl

pub test_read : (chapter k : ℕ) (v : Verdict) (name : List ℕ) → k < 65536 → can_be_read chapter (name_read (tail_of v name)) ≡ true → IsTest chapter k v name
test_read chapter k v name low can =
    let rest = name ++ directive_text v in
    let t = tail-there (kind_text v) k low rest in
    record {
      says = test_from (is_ok v) k (line_for k v name) (from (kind_text v) k low rest);
      reads =
          by_word chapter v (decimal k ++ (dash_text ++ rest)) ∙ test-there (kind_text v) k low rest chapter (is_ok v)
          ∙ rw (t, can);
      number_is = refl;
      verdict_is = rw t;
      name_is = rw t;
    }
