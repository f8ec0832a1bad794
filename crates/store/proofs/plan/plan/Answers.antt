-- `store::plan::plan` meets its contract: what is arranged is what the desk, the path and the request hold. Assumes nothing.
use mathlib.Core.Path.{ap, ◌∙◌}
use lib.ListN.{length}
use Rattle.desk.specs.declared.Shape.{Shape}
use Rattle.items.specs.declared.View.{View}
use Rattle.store.proofs.Ready.{record-long, arranged, planned}
use Rattle.store.proofs.plan.plan.Goals as goal

pub arrange-requires : goal.arrange-requires
arrange-requires c =
    let a = c.args in
    let y = c.requires.ready.0 in (
      arranged a.desk.now a.path.now a.v a.n a.w.now y a.v.sizes c.shape.inside.n c.stash_slots-slots.result.now c.stash_count-count.result c.request_of-r.result
          (ap (λ (x : View). x.sizes) y.view) (ap (λ (h : Shape). h.n) (c.shape.view_is ∙ c.shape_of-shape.ensures)) c.stash_slots-slots.ensures c.stash_count-count.ensures c.request_of-r.ensures,
      record {
        bank_size = c.requires.bank_len.0;
        places_size = c.requires.bank_len.1.0;
        at_size = c.requires.bank_len.1.1;
        record_size = ap length c.requires.ready.1 ∙ record-long a.desk.now a.path.now a.v a.n a.w.now y;
      },
    )

pub returns : goal.returns
returns c =
    let a = c.args in
    let y = c.requires.ready.0 in
    let r = c.arrange in
    planned a.desk.now a.path.now a.v a.n a.w.now y a.v.sizes c.shape.inside.n c.stash_slots-slots.result.now c.stash_count-count.result c.request_of-r.result
    (ap (λ (x : View). x.sizes) y.view) (ap (λ (h : Shape). h.n) (c.shape.view_is ∙ c.shape_of-shape.ensures)) c.stash_slots-slots.ensures c.stash_count-count.ensures c.request_of-r.ensures
    a.carried.now c.requires.ready.1 a.v.leaf r.result.all r.result.over r.new.bank r.new.places r.new.at r.ensures
