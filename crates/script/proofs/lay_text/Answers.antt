-- `script::lay_text` meets its contract: the text, and zeros behind it, fill the record. Assumes nothing.
use mathlib.Core.Path.{ap, ◌∙◌}
use mathlib.Core.List.{List}
use Prim.Native.Nat.{ℕ, ◌-◌}
use native.Mathlib.Omega.{arith}
use lib.ListN.{length}
use Rattle.words.specs.Bytes.{splice, zeros}
use Rattle.sizes.specs.Sizes.{record_len}
use Rattle.script.proofs.Meanings.{laid-text}
use Rattle.script.proofs.lay_text.Goals as goal

pub returns : goal.returns
returns c =
    let a = c.args in
    let n = length a.text.now in
    c.clear.ensures ∙ ap (λ (x : List ℕ). splice x n (zeros (record_len - n))) c.copy.ensures ∙ laid-text a.«record».now a.text.now (omega arith) (omega arith)
