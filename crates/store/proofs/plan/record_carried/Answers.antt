-- `store::plan::record_carried` meets its contract: the record has the length of the array, and fills it. Assumes nothing.
use mathlib.Core.Path.{◌≡◌, ap, ◌∙◌}
use native.Mathlib.Omega.{arith}
use lib.ListN.{length}
use Rattle.words.specs.Bytes.{zeros}
use Rattle.words.proofs.Splice.{splice-whole}
use Rattle.store.specs.Ready.{carried_of}
use Rattle.store.proofs.Ready.{view-reached, view-unsealed, record-long}
use Rattle.store.proofs.plan.record_carried.Goals as goal

pub carried-requires : goal.carried-requires
carried-requires c = let a = c.args in let y = c.requires in record { open_desk = (y.good, (y.view, (view-reached a.desk.now a.path.now a.v a.n a.w.now y).most)); w_len = y.unsealed.size }

pub copy-requires : goal.copy-requires
copy-requires c =
    let carried-is : c.carried.result.now ≡ carried_of c.args.desk.now c.args.path.now = let a = c.args in
    c.carried.ensures a.path.now (view-reached a.desk.now a.path.now a.v a.n a.w.now c.requires) (view-unsealed a.desk.now a.path.now a.v a.n a.w.now c.requires) in
    let carried-length : length c.carried.result.now ≡ 64 = let a = c.args in ap length carried-is ∙ record-long a.desk.now a.path.now a.v a.n a.w.now c.requires in
    let e = carried-length in omega arith

pub returns : goal.returns
returns c =
    let carried-is : c.carried.result.now ≡ carried_of c.args.desk.now c.args.path.now = let a = c.args in
    c.carried.ensures a.path.now (view-reached a.desk.now a.path.now a.v a.n a.w.now c.requires) (view-unsealed a.desk.now a.path.now a.v a.n a.w.now c.requires) in
    let carried-length : length c.carried.result.now ≡ 64 = let a = c.args in ap length carried-is ∙ record-long a.desk.now a.path.now a.v a.n a.w.now c.requires in
    c.copy.ensures ∙ splice-whole (zeros 64) c.carried.result.now carried-length ∙ carried-is
