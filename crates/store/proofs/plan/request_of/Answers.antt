-- `store::plan::request_of` meets its contract: field by field. Assumes nothing.
use Prim.Native.Nat.{ℕ}
use mathlib.Core.Bool.{Bool}
use Rattle.std.specs.Bool.{then_some}
use mathlib.Core.Path.{◌≡◌, ap₂, ◌∙◌}
use Rattle.desk.specs.declared.Kind.{Kind}
use Rattle.desk.specs.Readers.{kind_asked, id_asked, is_marked}
use Rattle.store.specs.Carried.{is_there}
use Rattle.store.proofs.plan.request_of.Goals as goal

pub returns : goal.returns
returns c =
    let d = c.args.desk.now in
    let t : c.is_there-there.result ≡ is_there (kind_asked d) (is_marked d (id_asked d)) =
    c.is_there-there.ensures ∙ ap₂ (λ (k : Kind) (m : Bool). is_there k m) c.kind_asked.ensures c.was_marked.ensures in
    let l = c.then_some.ensures ∙ ap₂ (λ (b : Bool) (x : ℕ). then_some b x) t c.new_leaf.ensures in
    λ j. record { id = c.id_asked.ensures j; leaf = l j }
