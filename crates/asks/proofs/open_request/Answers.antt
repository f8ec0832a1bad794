-- `asks::open_request` meets its contract: the record stands right after the request's first bytes, and the status is set last. Assumes nothing.
use mathlib.Core.Path.{◌≡◌, ap, ◌∙◌}
use native.Mathlib.Omega.{arith}
use lib.ListN.{length-set}
use Rattle.words.proofs.Splice.{splice-next}
use Rattle.sizes.specs.Sizes.{request_head}
use Rattle.desk.specs.declared.Shape.{Shape}
use Rattle.desk.specs.Layout.{c_at, shape_of}
use Rattle.desk.specs.Status.{at_status}
use Rattle.desk.specs.Changes.{with_request}
use Rattle.asks.specs.Ask.{opened, head_bytes, record_bytes, request_bytes}
use Rattle.asks.proofs.Passed.{length-head}
use borrow.Author.Rules.{rules}
use Rattle.asks.proofs.open_request.Goals as goal

pub copy-requires : goal.copy-requires
copy-requires c =
    let start : c.c_at-at.result ≡ c_at (shape_of c.args.desk.now) = c.c_at-at.ensures ∙ ap c_at c.shape_of-h.ensures in
    let e = start in let w = c.requires.0.size in search rules

pub overflow_add-at : goal.overflow_add-at
overflow_add-at c =
    let start : c.c_at-at.result ≡ c_at (shape_of c.args.desk.now) = c.c_at-at.ensures ∙ ap c_at c.shape_of-h.ensures in
    let e = start in search rules

pub put_record-requires : goal.put_record-requires
put_record-requires c =
    let start : c.c_at-at.result ≡ c_at (shape_of c.args.desk.now) = c.c_at-at.ensures ∙ ap c_at c.shape_of-h.ensures in
    let record-length : c.h.inside.r ≡ (shape_of c.args.desk.now).r = ap (λ (h : Shape). h.r) (c.h.view_is ∙ c.shape_of-h.ensures) in
    let e = start in
    let r = record-length in
    let w = c.requires.0.size in
    let k = c.copy.auto.dst in
    (omega arith, rw r c.requires.1)

pub shape_of-desk : goal.shape_of-desk
shape_of-desk c = rw length-set (c.put_record.auto.dst ∙ c.copy.auto.dst)

pub returns : goal.returns
unfolding opened at_status with_request request_bytes
returns c =
    let start : c.c_at-at.result ≡ c_at (shape_of c.args.desk.now) = c.c_at-at.ensures ∙ ap c_at c.shape_of-h.ensures in
    let record-length : c.h.inside.r ≡ (shape_of c.args.desk.now).r = ap (λ (h : Shape). h.r) (c.h.view_is ∙ c.shape_of-h.ensures) in
    let w = c.requires.0.size in
    rw (
      c.from.ensures,
      c.put_record.ensures,
      c.copy.ensures,
      c.request_head-head.ensures,
      start,
      record-length,
      splice-next c.args.desk.now (c_at (shape_of c.args.desk.now)) (head_bytes c.args.kind c.args.id c.args.leaf)
          (record_bytes (shape_of c.args.desk.now).r c.args.kind c.args.«record».now) request_head (length-head c.args.kind c.args.id c.args.leaf) (omega arith),
    )
