-- `printing::put_entry` meets its contract: by what was read, a line or none. Assumes nothing.
use Rattle.std.specs.Prelude.{Some}
use Prim.Native.Nat.{ℕ, ◌+◌, ◌-◌, ◌≤◌}
use mathlib.Core.Path.{◌≡◌, sym, ap, ◌∙◌}
use mathlib.Core.Bool.{true, false, ◌&&◌}
use mathlib.Core.List.{[]}
use native.Mathlib.Omega.{arith}
use lib.ListN.{length, take, drop, length-take}
use lib.Dec.{eqb}
use Rattle.sizes.specs.Sizes.{record_len}
use Rattle.verdicts.specs.Verdict.{name_at, most_name, reading_of, name_in}
use Rattle.verdicts.proofs.GoodRecord.{length-short}
use Rattle.printing.specs.Printed.{verdict_text, is_printable}
use Rattle.printing.specs.Printing.{entry_text}
use Rattle.printing.proofs.Entries.{adds_none, good_length, entry-bad, entry-none, entry-line}
use Rattle.printing.proofs.put_entry.Goals as goal

pub overflow_add-to : goal.overflow_add-to
overflow_add-to c =
    let reading : reading_of c.args.entry.now ≡ Some c.in-Some.says = sym c.read.ensures ∙ c.in-Some.is in
    let short : c.in-Some.says.length ≤ most_name = length-short _ _ reading in
    omega (arith, short)

pub slice_bounds-name-end : goal.slice_bounds-name-end
slice_bounds-name-end c =
    let reading : reading_of c.args.entry.now ≡ Some c.in-Some.says = sym c.read.ensures ∙ c.in-Some.is in
    let short : c.in-Some.says.length ≤ most_name = length-short _ _ reading in
    let long : length c.args.entry.now ≡ record_len = good_length _ _ reading in
    let k : name_at + c.in-Some.says.length ≤ length c.args.entry.now = omega (arith, short, long) in
    k

pub returns-else-printed : goal.returns-else-printed
returns-else-printed c =
    let reading : reading_of c.args.entry.now ≡ Some c.in-Some.says = sym c.read.ensures ∙ c.in-Some.is in
    let name_is : let s = c.args.entry.now in let e = c.in-Some.says in take (name_at + e.length - name_at) (drop name_at s) ≡ name_in s e = let k : name_at + c.in-Some.says.length - name_at ≡ c.in-Some.says.length = omega arith in
    ap (λ (n : ℕ). take n (drop name_at c.args.entry.now)) k in
    let printable : c.is_printable.result ≡ is_printable (name_in c.args.entry.now c.in-Some.says) = c.is_printable.ensures ∙ ap is_printable name_is in
    let no_line : let a = c.args in entry_text a.chapter a.number a.entry.now ≡ [] = let a = c.args in
    let e = c.in-Some.says in
    let h : (eqb e.chapter a.chapter && c.is_printable.result) ≡ false = c.if-printed.false in
    entry-none a.chapter a.number a.entry.now e reading printable h in
    (rw no_line (adds_none _), omega arith)

pub put_verdict-requires : goal.put_verdict-requires
put_verdict-requires c =
    let reading : reading_of c.args.entry.now ≡ Some c.in-Some.says = sym c.read.ensures ∙ c.in-Some.is in
    let short : c.in-Some.says.length ≤ most_name = length-short _ _ reading in
    let n = length-take (name_at + c.in-Some.says.length - name_at) (drop name_at c.args.entry.now) in
    (c.requires.0, omega (arith, n, short), omega arith)

pub returns-in_default : goal.returns-in_default
returns-in_default c =
    let a = c.args in
    (rw (entry-bad a.chapter a.number a.entry.now (sym c.read.ensures ∙ c.in_default.is)) (adds_none _), omega arith)

pub returns-then-printed : goal.returns-then-printed
returns-then-printed c =
    let reading : reading_of c.args.entry.now ≡ Some c.in-Some.says = sym c.read.ensures ∙ c.in-Some.is in
    let name_is : let s = c.args.entry.now in let e = c.in-Some.says in take (name_at + e.length - name_at) (drop name_at s) ≡ name_in s e = let k : name_at + c.in-Some.says.length - name_at ≡ c.in-Some.says.length = omega arith in
    ap (λ (n : ℕ). take n (drop name_at c.args.entry.now)) k in
    let printable : c.is_printable.result ≡ is_printable (name_in c.args.entry.now c.in-Some.says) = c.is_printable.ensures ∙ ap is_printable name_is in
    let line : let a = c.args in let e = c.in-Some.says in entry_text a.chapter a.number a.entry.now ≡ verdict_text a.number e.verdict (name_in a.entry.now e) = let a = c.args in
    let e = c.in-Some.says in
    let h : (eqb e.chapter a.chapter && c.is_printable.result) ≡ true = c.if-printed.true in
    entry-line a.chapter a.number a.entry.now e reading printable h in
    let w = c.put_verdict.ensures.0 in
    (rw line (rw name_is at w), c.put_verdict.ensures.1)
