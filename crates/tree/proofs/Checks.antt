-- Where fetch and put are not refused, everything fits. Assumes nothing.
use Rattle.std.specs.Prelude.{Ok}
use mathlib.Core.Path.{◌≡◌}
use mathlib.Core.List.{List}
use Prim.Native.Nat.{ℕ}
use lib.ListN.{length}
use lib.Dec.{eqb}
use borrow.Author.Tests.{not-false, leb-false, eqb-true}
use Rattle.words.proofs.Tests.{and_left, and_right}
use Rattle.sizes.specs.declared.Sizes.{Sizes}
use Rattle.sizes.specs.Sizes.{sizes_good, leaves, tree_len, path_len}
use Rattle.sizes.proofs.Lengths.{sizes-range}
use Rattle.sizes.proofs.Rows.{none-applies}
use Rattle.tree.specs.Tree.{tree_rows, tree_checked, Fits}

pub checked-fits : (s : Sizes) (leaf : ℕ) (tree path : List ℕ) → tree_checked s leaf tree path ≡ Ok tt → Fits s leaf tree path
unfolding tree_checked
checked-fits s leaf tree path h =
    let n = none-applies (tree_rows s leaf tree path) h in
    let both = not-false _ n.1.1.0 in
    record {
      range = sizes-range s (not-false (sizes_good s) n.0);
      leaf_low = leb-false (leaves s) leaf n.1.0;
      tree_length = eqb-true (length tree) (tree_len s) (and_left (eqb (length tree) (tree_len s)) (eqb (length path) (path_len s)) both);
      path_length = eqb-true (length path) (path_len s) (and_right (eqb (length tree) (tree_len s)) (eqb (length path) (path_len s)) both);
    }
