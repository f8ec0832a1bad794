-- `asks::ask` meets its contract: a refusal is answered as it came and changes nothing; else the position is read before the request is written. Assumes nothing.
use Rattle.std.proofs.lemmas.Result.{err_from_is_err_and}
use mathlib.Core.Path.{sym}
use native.Mathlib.Omega.{arith}
use Rattle.desk.specs.Layout.{Whole, room_at}
use Rattle.desk.proofs.Known.{good-small}
use Rattle.asks.proofs.Passed.{AskPassed, ask-passed, ask-spares}
use Rattle.asks.proofs.ask.Goals as goal

pub position-position-requires : goal.position-position-requires
position-position-requires c =
    let passed : let a = c.args in AskPassed a.desk.now a.kind a.id a.leaf a.«record».now = ask-passed (sym c.in_ok-ask_checked.ensures) in
    let whole : Whole c.args.desk.now = let p = passed in
    record { size = p.known.size; small = good-small c.args.desk.now p.good (omega (arith, c.slice_known-1.given room_at)) } in
    let p = passed in (whole, (p.id_low, p.id_high))

pub open_request-requires : goal.open_request-requires
open_request-requires c =
    let passed : let a = c.args in AskPassed a.desk.now a.kind a.id a.leaf a.«record».now = ask-passed (sym c.in_ok-ask_checked.ensures) in
    let whole : Whole c.args.desk.now = let p = passed in
    record { size = p.known.size; small = good-small c.args.desk.now p.good (omega (arith, c.slice_known-1.given room_at)) } in
    (whole, passed.fits)

pub returns-in_err-ask_checked : goal.returns-in_err-ask_checked
returns-in_err-ask_checked c =
    let a = c.args in
    let p = err_from_is_err_and c.from_residual.result c.from_residual.ensures.1 in
    let e = sym c.in_err-ask_checked.ensures in
    rw (p.1, p.2, e, ask-spares a.desk.now a.kind a.id a.leaf a.«record».now e a.desk.now)

pub returns : goal.returns
returns c = rw (sym c.in_ok-ask_checked.ensures, c.position-position.ensures, c.open_request.ensures)
