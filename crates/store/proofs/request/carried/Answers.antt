-- `store::request::carried` meets its contract: the lookup for a read of a marked id, or else the request's record. Assumes nothing.
use Prim.Native.Nat.{ℕ}
use mathlib.Core.Bool.{Bool, cond}
use mathlib.Core.Path.{◌≡◌, sym, ap, ap₂, ◌∙◌}
use Rattle.desk.specs.declared.Kind.{Kind}
use Rattle.desk.specs.Readers.{kind_asked, id_asked, record_asked, is_marked}
use Rattle.items.specs.Real.{real}
use Rattle.opening.specs.Opening.{lookup, gathered}
use Rattle.store.specs.Carried.{is_found}
use Rattle.store.proofs.request.carried.Goals as goal

pub returns-then-is_found : goal.returns-then-is_found
returns-then-is_found c =
    let found-is : let d = c.args.desk.now in c.is_found.result ≡ is_found (kind_asked d) (is_marked d (id_asked d)) = c.is_found.ensures ∙ ap₂ (λ (k : Kind) (m : Bool). is_found k m) c.kind_asked.ensures c.was_marked.ensures in
    let d = c.args.desk.now in
    λ path r u.
    c.lookup.ensures path r u ∙ ap (λ (i : ℕ). lookup i (gathered real d path)) c.id_asked.ensures
    ∙ sym (ap (λ (b : Bool). cond b (lookup (id_asked d) (gathered real d path)) (record_asked d)) (sym found-is ∙ c.if-is_found.true))

pub returns : goal.returns
returns c =
    let found-is : let d = c.args.desk.now in c.is_found.result ≡ is_found (kind_asked d) (is_marked d (id_asked d)) = c.is_found.ensures ∙ ap₂ (λ (k : Kind) (m : Bool). is_found k m) c.kind_asked.ensures c.was_marked.ensures in
    let d = c.args.desk.now in
    λ path r u.
    c.record_asked.ensures
    ∙ sym (ap (λ (b : Bool). cond b (lookup (id_asked d) (gathered real d path)) (record_asked d)) (sym found-is ∙ c.if-is_found.false))
