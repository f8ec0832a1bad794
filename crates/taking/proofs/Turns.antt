-- The lines of a text, turn by turn: what is left to do from here comes to what the whole text is. Assumes nothing.
use Prim.Native.Nat.{ℕ, suc, ◌+◌, ◌-◌, ◌≤◌, ◌<◌, min}
use mathlib.Core.Path.{◌≡◌, refl, sym, ap, ap₂, ◌∙◌}
use mathlib.Core.Bool.{Bool, false}
use mathlib.Core.List.{List, []}
use native.Mathlib.Omega.{arith}
use lib.ListN.{length, take, drop, length-drop, drop_of_length-le}
use Rattle.std.specs.Prelude.{Result, Ok, Err, MatchResult}
use Rattle.words.specs.Bytes.{part}
use Rattle.words.proofs.Splice.{part-tail}
use Rattle.words.proofs.Tests.{below_or}
use Rattle.text.specs.Text.{line_feed}
use Rattle.text.specs.Fronts.{before}
use Rattle.text.proofs.Fronts.{before-is}
use Rattle.window.specs.Pieces.{line_len, lines_of}
use Rattle.window.proofs.Pieces.{next, none-handed}
use Rattle.taking.specs.declared.Trouble.{Trouble}
use Rattle.taking.specs.declared.BadText.{BadText}
use Rattle.taking.specs.Taking.{StepResult, stepped, in_line, take_line, TextResult, took, at_end, going_on, take_lines, take_into}

-- the lines before `rest` are taken
pub record SoFar (chapter year n : ℕ) (text : List ℕ) (whole : TextResult) (rest : List ℕ) (count : ℕ) (planned : Bool) (sheet : List ℕ) : Type 0 where
  pub few : count + length rest ≤ length text
  pub to_do : take_lines chapter year n count planned sheet (lines_of rest) ≡ whole

-- a line's length and one more, or all that there is
drop-min : (m : ℕ) (xs : List ℕ) → drop (min m (length xs)) xs ≡ drop m xs
drop-min m xs =
    below_or m (length xs)
    (λ h. let e : min m (length xs) ≡ m = omega arith in ap (λ (k : ℕ). drop k xs) e)
    (λ h. let e : min m (length xs) ≡ length xs = omega arith in
    ap (λ (k : ℕ). drop k xs) e ∙ drop_of_length-le xs {i = length xs} (omega arith) ∙ sym (drop_of_length-le xs {i = m} h))

module _ (chapter year n : ℕ) (text : List ℕ) where
  pub begun : (sheet : List ℕ) → SoFar chapter year n text (take_into chapter year n sheet text) text 0 false sheet
  begun sheet = record { few = omega arith; to_do = refl }

  module _ (whole : TextResult) (rest : List ℕ) (count : ℕ) (planned : Bool) (sheet : List ℕ) (here : SoFar chapter year n text whole rest count planned sheet) where
    -- one line more, in the definition: what is done with what it came to
    abbrev onward : StepResult → TextResult
    onward r = going_on count r (λ (p : Bool). take_lines chapter year n (suc count) p r.sheet (lines_of (drop (suc (line_len rest)) rest))) r.step

    line-next : 0 < length rest → onward (take_line chapter year n count planned sheet (before line_feed rest)) ≡ whole
    unfolding take_lines
    line-next l = sym (ap (λ (ls : List (List ℕ)). take_lines chapter year n count planned sheet ls) (next rest l)) ∙ here.to_do

    module _ (l : 0 < length rest) (k : ℕ) (f : k ≡ line_len rest) {s : Result Bool Trouble} {after : List ℕ} (h : stepped s after ≡ take_line chapter year n count planned sheet (take k rest)) where
      came : onward (stepped s after) ≡ whole
      came = ap onward (h ∙ ap (λ (ys : List ℕ). take_line chapter year n count planned sheet ys) (ap (λ (i : ℕ). take i rest) f ∙ before-is line_feed rest)) ∙ line-next l

      -- on to the next line
      pub line_taken : {p : Bool} → s ≡ Ok p → (m : ℕ) → m ≡ min (k + 1) (length rest) → SoFar chapter year n text whole (part rest m (length rest - m)) (count + 1) p after
      line_taken {p = p} q m e =
          let c : count + 1 ≡ suc count = omega arith in
          let j : k + 1 ≡ suc (line_len rest) = omega (arith, f) in
          let t : part rest m (length rest - m) ≡ drop m rest = part-tail rest m (length rest - m) (omega arith) in
          let d : part rest m (length rest - m) ≡ drop (suc (line_len rest)) rest = t ∙ ap (λ (i : ℕ). drop i rest) e ∙ drop-min (k + 1) rest ∙ ap (λ (i : ℕ). drop i rest) j in
          record {
            few = omega (arith, here.few, ap length t, length-drop m rest, e);
            to_do =
                ap₂ (λ (a : ℕ) (ys : List ℕ). take_lines chapter year n a p after (lines_of ys)) c d
                ∙ ap (λ (x : Result Bool Trouble). onward (stepped x after)) (sym q) ∙ came;
          }

      -- the line's trouble is the text's
      pub line_refused : {t : Trouble} → s ≡ Err t → took (Err (in_line t (count + 1))) after ≡ whole
      line_refused q = ap (λ (x : Result Bool Trouble). onward (stepped x after)) (sym q) ∙ came

    -- and with the line's number it is what the text comes to
    pub text_refused : (l : 0 < length rest) (k : ℕ) (f : k ≡ line_len rest) (s : Result Bool Trouble) {after : List ℕ}
        → stepped s after ≡ take_line chapter year n count planned sheet (take k rest) → {m : Result Bool BadText} {b : BadText} {x : Result (Unit {0}) BadText}
        → MatchResult s (λ y. m ≡ Ok y) (λ t. m ≡ Err (in_line t (count + 1))) → m ≡ Err b → x ≡ Err b → took x after ≡ whole
    text_refused l k f (Ok p) h g e d = absurd (cc)
    text_refused l k f (Err t) {after = after} h {m = m} {b = b} {x = x} g e d =
        let c : b ≡ in_line t (count + 1) = cc in
        ap (λ (y : Result (Unit {0}) BadText). took y after) (d ∙ ap (λ (y : BadText). Err y) c) ∙ line_refused l k f h refl

    -- no line is left
    pub no_more : length rest ≡ 0 → took (at_end count planned) sheet ≡ whole
    unfolding take_lines
    no_more l =
        sym (ap (λ (ls : List (List ℕ)). take_lines chapter year n count planned sheet ls) (ap lines_of (none rest l) ∙ none-handed)) ∙ here.to_do
      where
        none : (xs : List ℕ) → length xs ≡ 0 → xs ≡ []
        none xs e = drop_of_length-le xs {i = 0} (omega arith)
