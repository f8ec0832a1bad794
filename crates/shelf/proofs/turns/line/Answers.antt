-- `shelf::turns::line` meets its contract: a sound run stays sound. Assumes nothing.
use Prim.Native.Nat.{◌-◌}
use lib.ListN.{take, drop}
use Rattle.runs.specs.Shelf.{shelf}
use Rattle.runs.proofs.Frames.{good-after}
use Rattle.shelf.proofs.turns.line.Goals as goal

pub go_on-requires : goal.go_on-requires
go_on-requires g c =
    let a = c.args in
    let p = c.requires in
    let s = c.take_line-step in
    let k = good-after a.at.run s.result.run (take (a.end - a.at.from) (drop a.at.from a.window.now)) (shelf a.desk.now a.tree.now a.path.now a.«record».now a.leaves.now) p.3.runs.sound s.ensures.run_is in
    (p.2, k.0, k.1)
