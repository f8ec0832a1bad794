-- `store::request::answer_for` meets its contract: by kind and mark. Assumes nothing.
use mathlib.Core.Path.{sym, ◌∙◌}
use Rattle.store.proofs.Carried.{answer-found, answer-done, answer-never}
use Rattle.store.proofs.request.answer_for.Goals as goal

pub returns-then-is_found : goal.returns-then-is_found
returns-then-is_found c = let a = c.args in answer-found a.kind a.marked (sym c.is_found.ensures ∙ c.if-is_found.true)

pub returns-then-is_there : goal.returns-then-is_there
returns-then-is_there c = let a = c.args in answer-done a.kind a.marked (sym c.is_found.ensures ∙ c.if-is_found.false) (sym c.is_there.ensures ∙ c.if-is_there.true)

pub returns : goal.returns
returns c = let a = c.args in answer-never a.kind a.marked (sym c.is_there.ensures ∙ c.if-is_there.false)
