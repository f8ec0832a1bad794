-- `taking::take_test` meets its contract: the place of a good number is lent to the making of its record, and given back. Assumes nothing.
use Prim.Native.Nat.{◌+◌, ◌-◌, ◌*◌}
use mathlib.Core.Path.{◌≡◌, sym, ◌∙◌}
use mathlib.Core.Bool.{false}
use native.Mathlib.Omega.{arith}
use Rattle.taking.specs.Taking.{is_bad_number}
use Rattle.taking.proofs.Numbered.{Within, good-within, number-refused, number-taken}
use Rattle.taking.proofs.take_test.Goals as goal

pub returns-then-is_bad_number : goal.returns-then-is_bad_number
returns-then-is_bad_number c =
    let a = c.args in
    number-refused a.chapter a.year a.n a.planned a.sheet.now a.line.now a.test c.is_bad_number.ensures c.if-is_bad_number.true

pub overflow_sub-at : goal.overflow_sub-at
overflow_sub-at c =
    let good : let a = c.args in is_bad_number a.n a.sheet.now a.test.number ≡ false = sym c.is_bad_number.ensures ∙ c.if-is_bad_number.false in
    let within : let a = c.args in Within a.n a.test.number = good-within _ _ _ good in
    within.from_one

pub overflow_mul-at : goal.overflow_mul-at
overflow_mul-at c =
    let good : let a = c.args in is_bad_number a.n a.sheet.now a.test.number ≡ false = sym c.is_bad_number.ensures ∙ c.if-is_bad_number.false in
    let within : let a = c.args in Within a.n a.test.number = good-within _ _ _ good in
    omega (arith, within.to_last)

pub overflow_add-at : goal.overflow_add-at
overflow_add-at c =
    let good : let a = c.args in is_bad_number a.n a.sheet.now a.test.number ≡ false = sym c.is_bad_number.ensures ∙ c.if-is_bad_number.false in
    let within : let a = c.args in Within a.n a.test.number = good-within _ _ _ good in
    omega (arith, within.to_last, within.from_one)

pub slice_bounds-make-end : goal.slice_bounds-make-end
slice_bounds-make-end c =
    let good : let a = c.args in is_bad_number a.n a.sheet.now a.test.number ≡ false = sym c.is_bad_number.ensures ∙ c.if-is_bad_number.false in
    let within : let a = c.args in Within a.n a.test.number = good-within _ _ _ good in
    omega (arith, within.to_last, within.from_one)

pub returns : goal.returns
returns c =
    let good : let a = c.args in is_bad_number a.n a.sheet.now a.test.number ≡ false = sym c.is_bad_number.ensures ∙ c.if-is_bad_number.false in
    let a = c.args in
    let p = c.requires in
    let at = (a.test.number - 1) * 64 in
    number-taken a.chapter a.year a.n a.planned a.sheet.now a.line.now a.test good p.0 p.3 (at + 64 - at) (a.test.from + a.test.length - a.test.from) (omega arith) (omega arith) c.make.ensures c.make.auto.record
