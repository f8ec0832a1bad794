-- What is read of a name with what is printed behind it: its verdict and its description. Assumes nothing.
use Prim.Native.Nat.{ℕ, suc, ◌+◌, ◌-◌, ◌≤◌}
use mathlib.Core.Path.{◌≡◌, refl, sym, ap, ◌∙◌}
use mathlib.Core.Bool.{Bool, true, false}
use mathlib.Core.List.{List, [], ◌∷◌, ◌++◌, append-nil, append_assoc}
use native.Mathlib.Nat.{min-le_left}
use native.Mathlib.Omega.{arith}
use lib.ListN.{length, take, drop, get_or, length-append, length-take, length-drop}
use lib.Seq.{drop-append-le, get_or-append_seam}
use Rattle.words.specs.Bytes.{same}
use Rattle.words.proofs.Tests.{below_or}
use Rattle.text.specs.Text.{space}
use Rattle.text.specs.Fronts.{before}
use Rattle.verdicts.specs.declared.Verdict.{Verdict}
use Rattle.verdicts.specs.declared.Verdict.TheVariants.{Pass, Fail, Skipped, Error}
use Rattle.lines.specs.declared.Directive.{Directive}
use Rattle.std.specs.Prelude.{Option, Some, None}
use Rattle.lines.specs.declared.Directive.TheVariants.{Skip, Todo}
use Rattle.lines.specs.Words.{skip_text, todo_text, capitals}
use Rattle.lines.specs.Line.{leading, after_spaces, trimmed, directive_at, is_directive, until_directive, verdict_by}
use Rattle.printing.specs.Printed.{directive_text}
use Rattle.returning.proofs.Free.{Free, free-append, free-take, free-drop}
use Rattle.returning.proofs.Ends.{leading-ends, trimmed-le, trimmed-space, Found, found, until-le}

abbrev pub is_ok : Verdict → Bool
is_ok Pass = true
is_ok Fail = false
is_ok Skipped = true
is_ok Error = false

abbrev pub tail_of : Verdict → List ℕ → List ℕ
tail_of v name = after_spaces (name ++ directive_text v)

-- what a tail says
abbrev pub verdict_read : Bool → List ℕ → Verdict
verdict_read ok ys = verdict_by ok (directive_at (drop (until_directive ys) ys))

abbrev pub name_read : List ℕ → List ℕ
name_read ys = take (trimmed (until_directive ys) ys) ys

-- ---- whatever the name is, the description is no longer, and has no other bytes

length-read : (n : ℕ) (ys : List ℕ) → length (take n ys) ≤ n
length-read n ys = omega (arith, length-take n ys, min-le_left n (length ys))

none-long : (name : List ℕ) → length (name_read (after_spaces (name ++ []))) ≤ length name
none-long name =
    let ys = after_spaces (name ++ []) in
    let l : length (name ++ []) ≡ length name = ap length (append-nil name) in
    omega (arith, length-read (trimmed (until_directive ys) ys) ys, trimmed-le (until_directive ys) ys, until-le ys, length-drop (leading (name ++ [])) (name ++ []))

-- a directive behind the name, after a space
module _ (name ds : List ℕ) (is : is_directive (directive_at ds) ≡ true) (front : leading ds ≡ 0) where
  abbrev whole : List ℕ
  whole = name ++ (space ∷ ds)

  abbrev ys : List ℕ
  ys = after_spaces whole

  abbrev held : List ℕ
  held = name ++ (space ∷ [])

  whole_is : whole ≡ held ++ ds
  whole_is = sym (append_assoc name (space ∷ []) ds)

  leads : leading whole ≤ length held
  leads = rw whole_is (leading-ends held ds front)

  ys-is : ys ≡ drop (leading whole) held ++ ds
  ys-is = ap (drop (leading whole)) whole_is ∙ drop-append-le (leading whole) held ds leads

  pub has : Found (length (drop (leading whole) held)) ys
  has = rw ys-is (found (drop (leading whole) held) ds is)

  trims : trimmed (until_directive ys) ys ≤ length name
  trims =
      let u : until_directive ys ≤ length name + 1 - leading whole = omega (arith, has.low, length-drop (leading whole) held, length-append name (space ∷ [])) in
      below_or (until_directive ys) (suc (length name))
      (λ l. omega (arith, trimmed-le (until_directive ys) ys))
      (λ l.
      let z : leading whole ≡ 0 = omega arith in
      let e : until_directive ys ≡ suc (length name) = omega arith in
      let y : ys ≡ whole = ap (λ (k : ℕ). drop k whole) z in
      let g : get_or ys (length name) 0 ≡ space = ap (λ (l : List ℕ). get_or l (length name) 0) y ∙ get_or-append_seam name space ds 0 in
      rw (e, trimmed-space (length name) ys g) (trimmed-le (length name) ys))

  pub some-long : length (name_read ys) ≤ length name
  some-long = omega (arith, length-read (trimmed (until_directive ys) ys) ys, trims)

pub read_short : (v : Verdict) (name : List ℕ) → length (name_read (tail_of v name)) ≤ length name
unfolding leading same capitals
read_short Pass name = none-long name
read_short Fail name = none-long name
read_short Skipped name = some-long name (drop 1 skip_text) refl refl
read_short Error name = some-long name (drop 1 todo_text) refl refl

texts-free : (v : Verdict) → Free 0 (directive_text v)
unfolding before
texts-free Pass = refl
texts-free Fail = refl
texts-free Skipped = refl
texts-free Error = refl

pub read-free : (v : Verdict) (name : List ℕ) → Free 0 name → Free 0 (name_read (tail_of v name))
read-free v name h =
    free-take 0 (trimmed (until_directive (tail_of v name)) (tail_of v name)) (tail_of v name)
    (free-drop 0 (leading (name ++ directive_text v)) (name ++ directive_text v) (free-append 0 name (directive_text v) h (texts-free v)))

-- ---- only a pass reads as one

not-pass : (d : Option Directive) → verdict_by false d ≡ Pass → ⊥
not-pass None e = let z : ◌≡◌ {A = ℕ} 0 1 = cc in omega arith
not-pass (Some Skip) e = let z : ◌≡◌ {A = ℕ} 0 1 = cc in omega arith
not-pass (Some Todo) e = let z : ◌≡◌ {A = ℕ} 0 1 = cc in omega arith

not-with : (d : Option Directive) → is_directive d ≡ true → verdict_by true d ≡ Pass → ⊥
not-with None h e = let z : ◌≡◌ {A = ℕ} 0 1 = cc in omega arith
not-with (Some Skip) h e = let z : ◌≡◌ {A = ℕ} 0 1 = cc in omega arith
not-with (Some Todo) h e = let z : ◌≡◌ {A = ℕ} 0 1 = cc in omega arith

pub read-pass : (v : Verdict) (name : List ℕ) → verdict_read (is_ok v) (tail_of v name) ≡ Pass → v ≡ Pass
unfolding leading same capitals
read-pass Pass name h = refl
read-pass Fail name h = absurd (not-pass (directive_at (drop (until_directive (tail_of Fail name)) (tail_of Fail name))) h)
read-pass Skipped name h =
    absurd (not-with (directive_at (drop (until_directive (tail_of Skipped name)) (tail_of Skipped name))) (has name (drop 1 skip_text) refl refl).there h)
read-pass Error name h = absurd (not-pass (directive_at (drop (until_directive (tail_of Error name)) (tail_of Error name))) h)
