-- `items::item_digest` meets its contract: a leaf's item goes in as it lies. Assumes nothing.
use Prim.Native.Nat.{ℕ, ◌+◌, ◌-◌}
use mathlib.Core.Path.{◌≡◌, sym, ap, ◌∙◌}
use mathlib.Core.List.{List}
use native.Mathlib.Omega.{arith}
use Rattle.sizes.specs.Sizes.{item_len, item_of}
use Rattle.sizes.proofs.Lengths.{leaf-item}
use Rattle.items.specs.Real.{real}
use Rattle.items.proofs.Digest.{masked-leaf}
use Rattle.items.proofs.item_digest.Goals as goal

pub returns : goal.returns
returns c =
    let a = c.args in
    let at = c.item_at-at.result in
    let n = c.leaf_len.result in
    let h = c.if-k-s.false in
    let m : at + n - at ≡ item_len a.s a.k = omega (arith, c.leaf_len.ensures, leaf-item a.s a.k h) in
    c.digest.ensures
    ∙ ap (λ (l : List ℕ). real.digest l) (rw (m, c.item_at-at.ensures.is) (sym (masked-leaf a.s a.k (item_of a.s a.path.now a.k) h)))
