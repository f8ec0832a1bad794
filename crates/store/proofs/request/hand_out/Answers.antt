-- `store::request::hand_out` meets its contract: what is carried on is the record found, where one is handed out. Assumes nothing.
use mathlib.Core.Bool.{Bool, true, false, cond}
use mathlib.Core.Path.{◌≡◌, sym, ap, ◌∙◌}
use native.Mathlib.Omega.{arith}
use Rattle.words.proofs.Splice.{splice-whole}
use Rattle.store.specs.Carried.{is_found}
use Rattle.store.proofs.Carried.{buffer-found, buffer-kept}
use Rattle.store.proofs.request.hand_out.Goals as goal

pub returns-then-is_found : goal.returns-then-is_found
returns-then-is_found c =
    let a = c.args in
    let p = c.requires in
    let f : is_found a.kind a.marked ≡ true = sym c.is_found.ensures ∙ c.if-is_found.true in
    λ found asked e.
    c.copy.ensures ∙ splice-whole a.«record».now a.carried.now (omega arith) ∙ e ∙ ap (λ (b : Bool). cond b found asked) f
    ∙ buffer-found found a.«record».now a.kind a.marked f

pub returns-else-is_found : goal.returns-else-is_found
returns-else-is_found c =
    let a = c.args in
    let f : is_found a.kind a.marked ≡ false = sym c.is_found.ensures ∙ c.if-is_found.false in
    λ found asked e. buffer-kept found a.«record».now a.kind a.marked f
