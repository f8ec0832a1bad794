-- `formats::format_checked` meets its contract: each return is the first row whose test holds; the sizes are in range before a length is computed from them. Assumes nothing.
use Prim.Native.Nat.{ℕ}
use mathlib.Core.Path.{◌≡◌, sym, ap, ◌∙◌}
use mathlib.Core.Bool.{true, ◌&&◌}
use Rattle.words.proofs.Tests.{and_left}
use Rattle.sizes.specs.Sizes.{sized, sizes_good, ids_good, leaves, desk_len}
use Rattle.sizes.proofs.Lengths.{sizes-range}
use Rattle.desk.specs.Layout.{shape_len}
use Rattle.formats.specs.Format.{are_leaves, format_checked}
use Rattle.formats.proofs.format_checked.Goals as goal

pub returns-then-not-in_range : goal.returns-then-not-in_range
unfolding format_checked
returns-then-not-in_range c =
    let range-is : let a = c.args in (c.good.result && c.ids_good.result) ≡ (sizes_good (sized a.height a.slots) && ids_good a.ids) = rw (c.good.ensures, c.of-sizes.ensures, c.ids_good.ensures) in
    rw (sym range-is ∙ c.if-not-in_range.true)

pub returns-then-not-fit : goal.returns-then-not-fit
unfolding format_checked
returns-then-not-fit c =
    let range-is : let a = c.args in (c.good.result && c.ids_good.result) ≡ (sizes_good (sized a.height a.slots) && ids_good a.ids) = rw (c.good.ensures, c.of-sizes.ensures, c.ids_good.ensures) in
    let in-range : let a = c.args in (sizes_good (sized a.height a.slots) && ids_good a.ids) ≡ true = sym range-is ∙ c.if-not-in_range.false in
    let length-is : let a = c.args in c.len.result ≡ desk_len a.ids a.stash = c.len.ensures ∙ ap shape_len c.new.ensures in
    rw (in-range, ← length-is, c.if-not-fit.true)

pub leaves-requires : goal.leaves-requires
leaves-requires c =
    let range-is : let a = c.args in (c.good.result && c.ids_good.result) ≡ (sizes_good (sized a.height a.slots) && ids_good a.ids) = rw (c.good.ensures, c.of-sizes.ensures, c.ids_good.ensures) in
    let in-range : let a = c.args in (sizes_good (sized a.height a.slots) && ids_good a.ids) ≡ true = sym range-is ∙ c.if-not-in_range.false in
    let a = c.args in
    rw c.of-sizes.ensures (sizes-range (sized a.height a.slots) (and_left (sizes_good (sized a.height a.slots)) (ids_good a.ids) in-range))

pub returns-then-not-are_leaves : goal.returns-then-not-are_leaves
unfolding format_checked
returns-then-not-are_leaves c =
    let range-is : let a = c.args in (c.good.result && c.ids_good.result) ≡ (sizes_good (sized a.height a.slots) && ids_good a.ids) = rw (c.good.ensures, c.of-sizes.ensures, c.ids_good.ensures) in
    let in-range : let a = c.args in (sizes_good (sized a.height a.slots) && ids_good a.ids) ≡ true = sym range-is ∙ c.if-not-in_range.false in
    let length-is : let a = c.args in c.len.result ≡ desk_len a.ids a.stash = c.len.ensures ∙ ap shape_len c.new.ensures in
    let leaves-are : let a = c.args in c.are_leaves.result ≡ are_leaves (leaves (sized a.height a.slots)) a.leaves.now = let a = c.args in
    c.are_leaves.ensures ∙ ap (λ (m : ℕ). are_leaves m a.leaves.now) (c.leaves.ensures.0 ∙ ap leaves c.of-sizes.ensures) in
    rw (in-range, ← length-is, c.if-not-fit.false, sym leaves-are ∙ c.if-not-are_leaves.true)

pub returns : goal.returns
unfolding format_checked
returns c =
    let range-is : let a = c.args in (c.good.result && c.ids_good.result) ≡ (sizes_good (sized a.height a.slots) && ids_good a.ids) = rw (c.good.ensures, c.of-sizes.ensures, c.ids_good.ensures) in
    let in-range : let a = c.args in (sizes_good (sized a.height a.slots) && ids_good a.ids) ≡ true = sym range-is ∙ c.if-not-in_range.false in
    let length-is : let a = c.args in c.len.result ≡ desk_len a.ids a.stash = c.len.ensures ∙ ap shape_len c.new.ensures in
    let leaves-are : let a = c.args in c.are_leaves.result ≡ are_leaves (leaves (sized a.height a.slots)) a.leaves.now = let a = c.args in
    c.are_leaves.ensures ∙ ap (λ (m : ℕ). are_leaves m a.leaves.now) (c.leaves.ensures.0 ∙ ap leaves c.of-sizes.ensures) in
    rw (in-range, ← length-is, c.if-not-fit.false, sym leaves-are ∙ c.if-not-are_leaves.false)
