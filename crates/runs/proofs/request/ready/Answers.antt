-- `runs::request::ready` meets its contract: what the line was read as decides, and the request's answer is listed. Assumes nothing.
use Prim.Native.Nat.{◌-◌}
use mathlib.Core.Path.{refl, sym, ap, ◌∙◌}
use mathlib.Core.List.{[]}
use native.Mathlib.Omega.{arith}
use lib.ListN.{length}
use Rattle.std.specs.Prelude.{Option}
use Rattle.words.proofs.Splice.{part-tail, length_part}
use Rattle.script.specs.declared.Request.{Request}
use Rattle.script.specs.Lines.{record_of}
use Rattle.script.proofs.Bounds.{request-fits}
use Rattle.runs.specs.Shelf.{shelf}
use Rattle.runs.specs.Run.{request_step}
use Rattle.runs.proofs.Steps.{became, request-said}
use Rattle.runs.proofs.request.ready.Goals as goal

pub slice_bounds-lay_text-count : goal.slice_bounds-lay_text-count
slice_bounds-lay_text-count c = (request-fits c.args.line.now _ (sym c.request_line.ensures ∙ c.in-Some.is)).inside

pub slice_bounds-lay_text-start : goal.slice_bounds-lay_text-start
slice_bounds-lay_text-start c = (request-fits c.args.line.now _ (sym c.request_line.ensures ∙ c.in-Some.is)).inside

pub lay_text-requires : goal.lay_text-requires
lay_text-requires c =
    let xs = c.args.line.now in
    let q = c.in-Some.request in
    let f = request-fits xs _ (sym c.request_line.ensures ∙ c.in-Some.is) in
    (c.requires.buffer_is, omega (arith, length_part xs q.text (length xs - q.text) (omega (arith, f.inside)), f.text_most))

pub returns-in_default : goal.returns-in_default
returns-in_default c =
    let a = c.args in
    let e = sym c.request_line.ensures ∙ c.in_default.is in
    became (ap (λ (q : Option Request). request_step q a.store a.count a.line.now (shelf a.desk.now a.tree.now a.path.now a.«record».now [])) e)
    (record { run_is = c.bad.ensures.0; shelf_is = refl; wrote = c.bad.ensures.1; most = c.bad.ensures.2 })

pub returns : goal.returns
returns c =
    let a = c.args in
    let xs = a.line.now in
    let e = sym c.request_line.ensures ∙ c.in-Some.is in
    let r = c.in-Some.request in
    let i = c.lay_text.ensures ∙ ap record_of (part-tail xs r.text (length xs - r.text) (omega (arith, (request-fits xs _ e).inside))) in
    let q = c.answer-answered in
    let o = q.new in
    request-said a.store a.count xs a.desk.now a.tree.now a.path.now a.«record».now _ r q.result (shelf o.desk o.tree o.path o.«record» []) e i q.ensures c.put_row-written.ensures.0 c.put_row-written.ensures.1
