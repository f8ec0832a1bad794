-- `runs::run::take_line` meets its contract: where the run stands decides, and what a line does not name stays. Assumes nothing.
use Prim.Native.Nat.{◌+◌, ◌^◌, ◌<◌}
use mathlib.Core.Path.{refl, ap, subst}
use native.Mathlib.Omega.{arith}
use Rattle.setup.specs.Setup.{store_of, start_good}
use Rattle.script.specs.Lines.{request_of}
use Rattle.runs.specs.declared.run.Run.{Run}
use Rattle.runs.specs.Shelf.{shelf}
use Rattle.runs.specs.Run.{step_of, Sound, count_of}
use Rattle.runs.proofs.Steps.{became, silent}
use Rattle.runs.proofs.Frames.{first_frame, second-frame, request-frame}
use Rattle.runs.proofs.run.take_line.Goals as goal

pub second-requires : goal.second-requires
second-requires c =
    let p = c.requires in
    let s = subst Sound c.in-Second.is p.sound in
    record { ids_high = s.ids_high; desk_most = p.lent.desk_most; leaves_most = p.lent.leaves_most; out_most = p.lent.out_most }

pub ready-requires : goal.ready-requires
ready-requires c =
    let p = c.requires in
    let s = subst Sound c.in-Ready.is p.sound in
    record {
      holds = record { roomy = s; desk_most = p.lent.desk_most; tree_most = p.lent.tree_most; path_most = p.lent.path_most };
      count_high = subst (λ (r : Run). count_of r + 1 < 2 ^ 64) c.in-Ready.is p.count_high;
      buffer_is = p.lent.buffer_is;
      out_most = p.lent.out_most;
    }

pub returns-in-First : goal.returns-in-First
returns-in-First c =
    let a = c.args in
    let xs = a.line.now in
    let h = shelf a.desk.now a.tree.now a.path.now a.«record».now a.leaves.now in
    became (ap (λ (r : Run). step_of r xs h) c.in-First.is) (first_frame (store_of xs) h c.first.ensures)

pub returns-in-Second : goal.returns-in-Second
returns-in-Second c =
    let a = c.args in
    let xs = a.line.now in
    let h = shelf a.desk.now a.tree.now a.path.now a.«record».now a.leaves.now in
    became (ap (λ (r : Run). step_of r xs h) c.in-Second.is) (second-frame a.tree.now a.path.now a.«record».now (start_good c.in-Second.store.ids xs) c.in-Second.store xs a.desk.now a.leaves.now c.second.ensures)

pub returns-in-Ready : goal.returns-in-Ready
returns-in-Ready c =
    let a = c.args in
    let xs = a.line.now in
    let h = shelf a.desk.now a.tree.now a.path.now a.«record».now a.leaves.now in
    became (ap (λ (r : Run). step_of r xs h) c.in-Ready.is) (request-frame (request_of xs) c.in-Ready.store c.in-Ready.count xs a.desk.now a.tree.now a.path.now a.«record».now a.leaves.now c.ready.ensures)

pub returns-in-Over : goal.returns-in-Over
returns-in-Over c =
    let a = c.args in
    let xs = a.line.now in
    let h = shelf a.desk.now a.tree.now a.path.now a.«record».now a.leaves.now in
    became {sh = h} (ap (λ (r : Run). step_of r xs h) c.in-Over.is) (record { run_is = refl; shelf_is = refl {a = h}; wrote = silent a.out.now; most = omega arith })
