-- An entry of the sheet: the line that is printed for it, and what comes of that line. Assumes nothing.
use Rattle.std.specs.Prelude.{None, Option, Some}
use Prim.Native.Nat.{ℕ, ◌<◌}
use mathlib.Core.Path.{◌≡◌, refl, sym, ap, subst, ◌∙◌}
use mathlib.Core.Bool.{Bool, true, false, cond, ◌&&◌}
use mathlib.Core.List.{List, [], ◌++◌, append_assoc}
use native.Mathlib.Omega.{arith}
use lib.ListN.{length}
use lib.Dec.{eqb}
use borrow.Author.Tests.{eqb-true, eq-eqb}
use Rattle.words.specs.Bytes.{zeros}
use Rattle.words.proofs.Tests.{and_left, and_right}
use Rattle.text.specs.Text.{line_feed}
use Rattle.text.specs.Fronts.{before}
use Rattle.sizes.specs.Sizes.{record_len}
use Rattle.listing.specs.Listing.{decimal}
use Rattle.verdicts.specs.declared.Verdict.{Verdict}
use Rattle.verdicts.specs.declared.Verdict.TheVariants.{Pass, Fail, Skipped, Error}
use Rattle.verdicts.specs.declared.Entry.{Entry}
use Rattle.verdicts.specs.Verdict.{reading_of, name_in, record_of}
use Rattle.verdicts.proofs.Written.{length-record}
use Rattle.verdicts.proofs.Readable.{Readable, can-read, read-readable}
use Rattle.lines.specs.declared.Test.{Test}
use Rattle.lines.specs.declared.Line.TheVariants as line
use Rattle.lines.specs.Words.{dash_text}
use Rattle.lines.specs.Line.{line_of, description_in}
use Rattle.printing.specs.Printed.{feed, kind_text, directive_text, verdict_text, is_printable}
use Rattle.printing.specs.Printing.{reading_text, entry_text}
use Rattle.returning.specs.Returning.{reading_said, is_said, Plain, WasPass}
use Rattle.returning.proofs.Free.{Free, free-append}
use Rattle.returning.proofs.Decimals.{decimal-digits, digits-free}
use Rattle.returning.proofs.Tails.{tail_of, name_read, read_short, read-free, read-pass}
use Rattle.returning.proofs.Kept.{plain-reads}
use Rattle.returning.proofs.Heads.{line_for, IsTest, test_read}
use Rattle.returning.proofs.Names.{good-bad, zeros-bad, verdict-made}

-- what comes of an entry
pub record Comes (chapter year : ℕ) (rec out : List ℕ) : Type 0 where
  pub none : is_said chapter rec ≡ false → out ≡ zeros record_len
  pub same : (e : Entry) → reading_of rec ≡ Some e → e.chapter ≡ chapter → Plain (name_in rec e) → out ≡ record_of e.verdict chapter year (name_in rec e)
  pub pass : WasPass chapter out → WasPass chapter rec

true-false : {A : Type 0} → true ≡ false → A
true-false h = absurd (let z : ◌≡◌ {A = ℕ} 0 1 = cc in omega arith)

is_said_lem : (chapter : ℕ) (rec : List ℕ) (e : Entry) → reading_of rec ≡ Some e → e.chapter ≡ chapter → is_printable (name_in rec e) ≡ true → is_said chapter rec ≡ true
is_said_lem chapter rec e r c p = ap (reading_said chapter rec) r ∙ ap (λ (t : Bool). t && is_printable (name_in rec e)) (eq-eqb e.chapter chapter c) ∙ p

-- ---- one that gets no line

pub unsaid-text : (chapter k : ℕ) (rec : List ℕ) → is_said chapter rec ≡ false → entry_text chapter k rec ≡ []
unfolding entry_text
unsaid-text chapter k rec = go (reading_of rec)
  where
    go : (r : Option Entry) → reading_said chapter rec r ≡ false → reading_text chapter k rec r ≡ []
    go (Some e) h = ap (λ (t : Bool). cond t (verdict_text k e.verdict (name_in rec e)) []) h
    go None h = refl

pub unsaid-comes : (chapter year : ℕ) (rec : List ℕ) → is_said chapter rec ≡ false → Comes chapter year rec (zeros record_len)
unsaid-comes chapter year rec h =
    record {
      none = λ _. refl;
      same = λ e r c p. true-false (sym (is_said_lem chapter rec e r c p.one_line) ∙ h);
      pass = λ w. good-bad w.says (sym zeros-bad ∙ w.reads);
    }

-- ---- one that gets a line

pub record Said (chapter year k : ℕ) (rec : List ℕ) : Type 0 where
  pub row : List ℕ
  pub says : Test
  pub text_is : entry_text chapter k rec ≡ row ++ feed
  pub free : Free line_feed row
  pub reads : line_of chapter row ≡ line.Test says
  pub number_is : says.number ≡ k
  pub long : length (record_of says.verdict chapter year (description_in row says)) ≡ record_len
  pub comes : Comes chapter year rec (record_of says.verdict chapter year (description_in row says))

six : (a b c d e f : List ℕ) → a ++ b ++ c ++ d ++ e ++ f ≡ (a ++ (b ++ (c ++ (d ++ e)))) ++ f
six a b c d e f = simp append_assoc

kind-free : (v : Verdict) → Free line_feed (kind_text v)
unfolding before
kind-free Pass = refl
kind-free Fail = refl
kind-free Skipped = refl
kind-free Error = refl

directive-free : (v : Verdict) → Free line_feed (directive_text v)
unfolding before
directive-free Pass = refl
directive-free Fail = refl
directive-free Skipped = refl
directive-free Error = refl

dash-free : Free line_feed dash_text
unfolding before
dash-free = refl

module _ (chapter year k : ℕ) (rec : List ℕ) (low : k < 65536) (e : Entry) (reads : reading_of rec ≡ Some e) (of : e.chapter ≡ chapter)
    (printable : is_printable (name_in rec e) ≡ true) where
  abbrev name : List ℕ
  name = name_in rec e

  abbrev v : Verdict
  v = e.verdict

  abbrev row : List ℕ
  row = line_for k v name

  text_is : entry_text chapter k rec ≡ row ++ feed
  unfolding entry_text
  text_is =
      ap (reading_text chapter k rec) reads ∙ rw (eq-eqb e.chapter chapter of, printable)
      (six (kind_text v) (decimal k) dash_text name (directive_text v) feed)

  free : Free line_feed row
  free =
      free-append line_feed (kind_text v) _ (kind-free v)
      (free-append line_feed (decimal k) _ (digits-free line_feed (decimal k) (omega arith) (decimal-digits k))
      (free-append line_feed dash_text _ dash-free
      (free-append line_feed name (directive_text v) (eqb-true _ _ printable) (directive-free v))))

  name-read : Readable chapter (name_read (tail_of v name))
  name-read =
      let n = read-readable rec e reads in
      record { chapter_high = rw (← of) n.chapter_high; name_short = omega (arith, read_short v name, n.name_short); no_zero = read-free v name n.no_zero }

  test : IsTest chapter k v name
  test = test_read chapter k v name low (can-read chapter (name_read (tail_of v name)) name-read)

  abbrev out : List ℕ
  out = record_of test.says.verdict chapter year (description_in row test.says)

  was-pass : WasPass chapter out → WasPass chapter rec
  was-pass w =
      let p : test.says.verdict ≡ Pass = sym (verdict-made test.says.verdict chapter year (description_in row test.says) w.says w.reads) ∙ w.passes in
      record { says = e; reads = reads; passes = read-pass v name (sym test.verdict_is ∙ p); of_chapter = of }

  same : Plain name → out ≡ record_of v chapter year name
  same p =
      let r = plain-reads v name p in
      rw (test.verdict_is ∙ r.verdict_is, test.name_is ∙ r.name_is)

  comes : Comes chapter year rec out
  comes =
      record {
        none = λ h. true-false (sym (is_said_lem chapter rec e reads of printable) ∙ h);
        same = λ e' r c p.
            let q : e ≡ e' = cc in
            subst (λ (x : Entry). Plain (name_in rec x) → out ≡ record_of x.verdict chapter year (name_in rec x)) q same p;
        pass = was-pass;
      }

  one : Said chapter year k rec
  one =
      record {
        row = row;
        says = test.says;
        text_is = text_is;
        free = free;
        reads = test.reads;
        number_is = test.number_is;
        long = length-record test.says.verdict chapter year (description_in row test.says) (omega (arith, ap length test.name_is, name-read.name_short));
        comes = comes;
      }

pub said : (chapter year k : ℕ) (rec : List ℕ) → k < 65536 → is_said chapter rec ≡ true → Said chapter year k rec
said chapter year k rec low h = go (reading_of rec) refl h
  where
    go : (r : Option Entry) → reading_of rec ≡ r → reading_said chapter rec r ≡ true → Said chapter year k rec
    go (Some e) r t =
        one chapter year k rec low e r (eqb-true _ _ (and_left (eqb e.chapter chapter) (is_printable (name_in rec e)) t))
        (and_right (eqb e.chapter chapter) (is_printable (name_in rec e)) t)
    go None r t = true-false (sym t)
