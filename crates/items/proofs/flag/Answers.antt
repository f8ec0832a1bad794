-- `items::flag` meets its contract: the byte at the flag's place. Assumes nothing.
use Prim.Native.Nat.{ℕ, ◌+◌}
use mathlib.Core.Path.{◌≡◌, sym, ap, ◌∙◌}
use native.Mathlib.Omega.{arith}
use lib.ListN.{get_or}
use Rattle.sizes.specs.Sizes.{item_at, flag_at}
use Rattle.items.proofs.Fields.{flag-of}
use Rattle.items.proofs.flag.Goals as goal

pub returns : goal.returns
returns c =
    let a = c.args in
    let e : c.inner_at.result + c.leaf_len.result + a.side ≡ item_at a.s a.k + flag_at a.s a.side =
    omega (arith, c.inner_at.ensures.is, c.leaf_len.ensures) in
    ap (λ (i : ℕ). get_or a.path.now i 0) e ∙ sym (flag-of a.s a.path.now a.k c.requires.1.0 a.side c.requires.1.1)
