-- `tree::copy_out` meets its contract: after k turns the first k items stand at the path's beginning. Assumes nothing.
use mathlib.Core.Path.{◌≡◌}
use lib.ListN.{length}
use Rattle.words.specs.Bytes.{splice}
use Rattle.tree.specs.Tree.{fetched}
use Rattle.tree.proofs.copy_out.Given as goal

abbrev pub invariant-loop-k : goal.invariant-loop-k
invariant-loop-k l = (length l.path ≡ length l.initial.path) × (l.path ≡ splice l.initial.path 0 (fetched l.s l.leaf l.tree l.k))
