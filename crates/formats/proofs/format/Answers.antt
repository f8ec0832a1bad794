-- `formats::format` meets its contract: a refusal is answered as it came and changes nothing; else the desk is written whole. Assumes nothing.
use Rattle.std.proofs.lemmas.Result.{err_from_is_err_and}
use mathlib.Core.Path.{sym}
use native.Mathlib.Omega.{arith}
use Rattle.formats.proofs.Passed.{format-passed, format-spares}
use Rattle.formats.proofs.format.Goals as goal

pub write_desk-requires : goal.write_desk-requires
write_desk-requires c =
    let a = c.args in
    let p = format-passed a.desk.now a.height a.slots a.stash a.ids a.key.now a.leaves.now (sym c.in_ok-format_checked.ensures) in
    record { size = p.size; ids_high = p.ids_high; room_high = omega arith; starts_length = p.starts_length; key_length = p.key_length }

pub returns-in_err-format_checked : goal.returns-in_err-format_checked
returns-in_err-format_checked c =
    let a = c.args in
    let p = err_from_is_err_and c.from_residual.result c.from_residual.ensures.1 in
    let e = sym c.in_err-format_checked.ensures in
    rw (p.1, p.2, e, format-spares a.desk.now a.height a.slots a.stash a.ids a.key.now a.leaves.now e a.desk.now)

pub returns : goal.returns
returns c = rw (sym c.in_ok-format_checked.ensures, c.write_desk.ensures)
