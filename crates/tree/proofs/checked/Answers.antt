-- `tree::checked` meets its contract: each return gives the first row of the paper's that applies. Assumes nothing.
use mathlib.Core.Path.{◌≡◌, sym, ap, ◌∙◌}
use mathlib.Core.Bool.{true, false}
use lib.Dec.{leb}
use borrow.Author.Tests.{le-leb, lt-leb}
use Rattle.sizes.specs.Sizes.{sizes_good, leaves}
use Rattle.tree.specs.Tree.{tree_checked}
use Rattle.sizes.proofs.Lengths.{sizes-range}
use Rattle.tree.proofs.checked.Goals as goal

pub returns-then-not-good : goal.returns-then-not-good
unfolding tree_checked
returns-then-not-good c = rw (sym c.good.ensures ∙ c.if-not-good.true)

pub leaves-requires : goal.leaves-requires
leaves-requires c =
    let good-at : sizes_good c.args.s ≡ true = sym c.good.ensures ∙ c.if-not-good.false in
    sizes-range c.args.s good-at

pub returns-then-leaves-leaf : goal.returns-then-leaves-leaf
unfolding tree_checked
returns-then-leaves-leaf c =
    let good-at : sizes_good c.args.s ≡ true = sym c.good.ensures ∙ c.if-not-good.false in
    let e = ap (λ n. leb n c.args.leaf) (sym c.leaves.ensures.0) ∙ le-leb _ _ c.if-leaves-leaf.true in
    rw (good-at, e)

pub tree_len-requires : goal.tree_len-requires
tree_len-requires c =
    let good-at : sizes_good c.args.s ≡ true = sym c.good.ensures ∙ c.if-not-good.false in
    sizes-range c.args.s good-at

pub path_len-requires : goal.path_len-requires
path_len-requires c =
    let good-at : sizes_good c.args.s ≡ true = sym c.good.ensures ∙ c.if-not-good.false in
    sizes-range c.args.s good-at

pub returns-then-not-fits : goal.returns-then-not-fits
unfolding tree_checked
returns-then-not-fits c =
    let good-at : sizes_good c.args.s ≡ true = sym c.good.ensures ∙ c.if-not-good.false in
    let low-at : leb (leaves c.args.s) c.args.leaf ≡ false = ap (λ n. leb n c.args.leaf) (sym c.leaves.ensures.0) ∙ lt-leb _ _ c.if-leaves-leaf.false in
    rw (good-at, low-at, ← c.tree_len.ensures, ← c.path_len.ensures, c.if-not-fits.true)

pub returns : goal.returns
unfolding tree_checked
returns c =
    let good-at : sizes_good c.args.s ≡ true = sym c.good.ensures ∙ c.if-not-good.false in
    let low-at : leb (leaves c.args.s) c.args.leaf ≡ false = ap (λ n. leb n c.args.leaf) (sym c.leaves.ensures.0) ∙ lt-leb _ _ c.if-leaves-leaf.false in
    rw (good-at, low-at, ← c.tree_len.ensures, ← c.path_len.ensures, c.if-not-fits.false)
