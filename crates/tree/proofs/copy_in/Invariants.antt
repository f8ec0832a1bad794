-- `tree::copy_in` meets its contract: after k turns the tree is that with the first k items put back. Assumes nothing.
use mathlib.Core.Path.{◌≡◌}
use lib.ListN.{length}
use Rattle.tree.specs.Tree.{put_back}
use Rattle.tree.proofs.copy_in.Given as goal

abbrev pub invariant-loop-k : goal.invariant-loop-k
invariant-loop-k l = (length l.tree ≡ length l.initial.tree) × (l.tree ≡ put_back l.s l.leaf l.path l.initial.tree l.k)
