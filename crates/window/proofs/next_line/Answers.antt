-- `window::next_line` meets its contract: each test decides its case. Assumes nothing.
use Prim.Native.Nat.{◌+◌, ◌-◌}
use mathlib.Core.Path.{◌≡◌}
use mathlib.Core.Bool.{true, false}
use native.Mathlib.Omega.{arith}
use borrow.Author.Tests.{lt-ltb, le-ltb, eq-eqb, ne_eqb}
use lib.ListN.{length}
use Rattle.words.specs.Bytes.{part}
use Rattle.words.proofs.Splice.{length_part}
use Rattle.window.specs.Pieces.{line_len}
use Rattle.window.proofs.next_line.Goals as goal

pub returns-then-end-to : goal.returns-then-end-to
returns-then-end-to c =
    let a = c.args in
    let p = part a.window.now a.from (a.to - a.from) in
    let e = c.before-2.ensures.0 in
    let l = length_part a.window.now a.from (a.to - a.from) (omega arith) in
    (rw (e, lt-ltb (line_len p) (length p) (omega arith)), (omega arith, omega arith, omega arith, omega arith))

pub returns-then-not-ended : goal.returns-then-not-ended
returns-then-not-ended c =
    let a = c.args in
    let p = part a.window.now a.from (a.to - a.from) in
    let e = c.before-2.ensures.0 in
    let l = length_part a.window.now a.from (a.to - a.from) (omega arith) in
    let f : a.ended ≡ false = c.if-not-ended.true in
    (rw (le-ltb (line_len p) (length p) (omega arith), f), tt)

pub returns-then-from-to : goal.returns-then-from-to
returns-then-from-to c =
    let a = c.args in
    let p = part a.window.now a.from (a.to - a.from) in
    let e = c.before-2.ensures.0 in
    let l = length_part a.window.now a.from (a.to - a.from) (omega arith) in
    let f : a.ended ≡ true = c.if-not-ended.false in
    (rw (le-ltb (line_len p) (length p) (omega arith), f, eq-eqb (length p) 0 (omega arith)), tt)

pub returns : goal.returns
returns c =
    let a = c.args in
    let p = part a.window.now a.from (a.to - a.from) in
    let e = c.before-2.ensures.0 in
    let l = length_part a.window.now a.from (a.to - a.from) (omega arith) in
    let k : a.from + length p ≡ a.to = omega arith in
    let f : a.ended ≡ true = c.if-not-ended.false in
    (rw (le-ltb (line_len p) (length p) (omega arith), f, ne_eqb (length p) 0 (λ z. omega arith), k), (omega arith, omega arith, omega arith, omega arith))
