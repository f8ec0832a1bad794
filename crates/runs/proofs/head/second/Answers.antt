-- `runs::head::second` meets its contract: whether the line can be read, and what format answers, decide. Assumes nothing.
use Prim.Native.Nat.{ℕ}
use mathlib.Core.Path.{refl, sym, ap, ◌∙◌}
use mathlib.Core.List.{List, [], ◌++◌}
use native.Mathlib.Omega.{arith}
use lib.ListN.{drop}
use lib.Seq.{length-take-le}
use Rattle.setup.specs.Setup.{start_good}
use Rattle.runs.specs.Shelf.{shelf}
use Rattle.runs.specs.Run.{second_step}
use Rattle.runs.proofs.Steps.{became, silent, second-said}
use Rattle.runs.proofs.head.second.Goals as goal

pub slice_bounds-start_line-end-2 : goal.slice_bounds-start_line-end-2
slice_bounds-start_line-end-2 c =
    let a = c.args in
    sym (length-take-le a.store.ids a.leaves.now (omega arith))

pub returns-then-not-start_line : goal.returns-then-not-start_line
returns-then-not-start_line c =
    let a = c.args in
    let s = c.start_line in
    let n = length-take-le a.store.ids a.leaves.now (omega arith) in
    let e = ap (λ (j : ℕ). start_good j a.line.now) (sym n) ∙ sym s.ensures.0 ∙ c.if-not-start_line.true in
    let h = shelf a.desk.now [] [] [] a.leaves.now in
    became (ap (λ b. second_step b a.store a.line.now h) e)
    (record {
      run_is = c.bad.ensures.0;
      shelf_is = ap (λ (l : List ℕ). shelf a.desk.now [] [] [] (l ++ drop a.store.ids a.leaves.now)) s.ensures.1;
      wrote = c.bad.ensures.1;
      most = c.bad.ensures.2;
    })

pub slice_bounds-format-end-2 : goal.slice_bounds-format-end-2
slice_bounds-format-end-2 c =
    let a = c.args in
    sym (length-take-le c.desk_len-m.result a.desk.now (omega arith))

pub returns-in-Err : goal.returns-in-Err
returns-in-Err c =
    let a = c.args in
    let p = c.requires in
    let s = c.start_line in
    let f = c.format in
    let m = c.desk_len-m in
    became
    (second-said a.store a.line.now a.desk.now a.leaves.now f.result _ f.new.desk s.new.leaves m.result _
    (omega (arith, p.ids_high, p.leaves_most)) s.auto.leaves s.ensures.0 (c.if-not-start_line.false) m.ensures.0 s.ensures.1 f.ensures c.in-Err.is)
    (record { run_is = refl; shelf_is = refl; wrote = c.format_row-written.ensures.0; most = c.format_row-written.ensures.1 })

pub returns-in-Ok : goal.returns-in-Ok
returns-in-Ok c =
    let a = c.args in
    let p = c.requires in
    let s = c.start_line in
    let f = c.format in
    let m = c.desk_len-m in
    became
    (second-said a.store a.line.now a.desk.now a.leaves.now f.result _ f.new.desk s.new.leaves m.result _
    (omega (arith, p.ids_high, p.leaves_most)) s.auto.leaves s.ensures.0 (c.if-not-start_line.false) m.ensures.0 s.ensures.1 f.ensures c.in-Ok.is)
    (record { run_is = refl; shelf_is = refl; wrote = silent a.out.now; most = omega arith })
