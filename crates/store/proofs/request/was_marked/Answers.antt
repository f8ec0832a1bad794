-- `store::request::was_marked` meets its contract: the mark is that of the id asked for. Assumes nothing.
use Prim.Native.Nat.{ℕ}
use mathlib.Core.Path.{ap, ◌∙◌}
use Rattle.desk.specs.Readers.{is_marked}
use Rattle.store.proofs.request.was_marked.Goals as goal

pub returns : goal.returns
returns c = c.is_marked.ensures ∙ ap (λ (i : ℕ). is_marked c.args.desk.now i) c.id_asked.ensures
